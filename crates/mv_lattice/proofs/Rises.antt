-- What the laws give over whole blocks, how states rise, and lists with an element set.
use Rattle.std.proofs.Common.{◌≡◌, ◌≢◌, ℕ, zero, suc, ◌+◌, ◌-◌, ◌<◌, ◌≤◌, Bool, true, false, List, [], ◌∷◌, length, get_or, set, replicate, Option, Some, None}
use Rattle.std.proofs.Common.{◌⊎◌, ⊎_elim, inl, inr, Contains, refl, ap, subst, arith, slice_get, sum}
use Rattle.std.proofs.lemmas.Bool.{cases_eq}
use Rattle.std.proofs.lemmas.List.Sums.{sum_by-set}
use Rattle.std.proofs.lemmas.Option.{slice_get-get_or, option_and_then_some}
use Rattle.mv_bound_rules.specs.Times.{times}
use Rattle.mv_bound_rules.proofs.TimesLemmas.{times_of, contains_from_times}
use Rattle.mv_cfg.specs.declared.Block.{Block}
use Rattle.mv_lattice.specs.Laws.{IsLawful}
use Rattle.mv_lattice.specs.Flow.{IsAt, carried, through, IsStated, IsRisen}
use Rattle.mv_lattice.specs.Order.{Order}

-- a number stands in a list, or doesn't
pub contains_or_not : (xs : List ℕ) (n : ℕ) → Contains xs n ⊎ (Contains xs n → ⊥)
contains_or_not xs n = ⊎_elim
    (λ (none : times n xs ≡ 0). inr (λ h. let some = times_of n xs h in let no : ⊥ = omega (arith, some, none) in no))
    (λ (some : times n xs ≡ 0 → ⊥). inl (contains_from_times n xs (omega (arith, some))))
    (cases_eq (times n xs) 0)

-- a block waits, or doesn't
pub waits_or_not : (waiting : List Bool) (n : ℕ) → IsAt waiting n true ⊎ (IsAt waiting n true → ⊥)
waits_or_not [] n = inr (λ h. let no : ⊥ = cc in no)
waits_or_not (true ∷ waiting) zero = inl refl
waits_or_not (false ∷ waiting) zero = inr (λ h. let no : ⊥ = cc in no)
waits_or_not (w ∷ waiting) (suc n) = waits_or_not waiting n

-- a list is no longer than one that has each of its places
pub no_longer : {A : Type 0} (xs ys : List A) → ((n : ℕ) (a : A) → slice_get ys n ≡ Some a → (b : A) × (slice_get xs n ≡ Some b)) → length ys ≤ length xs
no_longer xs [] there = omega arith
no_longer [] (y ∷ ys) there = let none = (there 0 y refl).1 in absurd (let no : ⊥ = cc in no)
no_longer (x ∷ xs) (y ∷ ys) there = let rest = no_longer xs ys (λ n a e. there (suc n) a e) in omega (arith, rest)

pub replicate_at : {A : Type 0} (n k : ℕ) (x y : A) → slice_get (replicate n x) k ≡ Some y → x ≡ y
replicate_at zero k x y e = cc
replicate_at (suc n) zero x y e = cc
replicate_at (suc n) (suc k) x y e = replicate_at n k x y e

-- a state that is stated is there
pub unstated : {S : Type 0} (states : List (Option S)) (k : ℕ) (x : Option S) (s : S) → k < length states → get_or states k x ≡ None → IsStated states k s → ⊥
unstated states k x s within none at = let there = slice_get-get_or states k x within in cc

sum_set : (xs : List ℕ) (k y : ℕ) → k < length xs → sum (set xs k y) + get_or xs k 0 ≡ sum xs + y
sum_set xs k y within = sum_by-set (λ n. n) xs k y 0 within

-- one visit fewer is left
pub fewer_left : (left : List ℕ) (k : ℕ) → k < length left → 0 < get_or left k 0 → sum (set left k (get_or left k 0 - 1)) < sum left
fewer_left left k within some = omega (arith, sum_set left k (get_or left k 0 - 1) within, some)

-- the element at k after a write at n
pub set_same : {A : Type 0} (xs : List A) (n : ℕ) (x : A) → n < length xs → slice_get (set xs n x) n ≡ Some x
set_same (y ∷ ys) zero x h = refl
set_same (y ∷ ys) (suc n) x h = set_same ys n x (omega (arith, h))
set_same [] n x h = absurd (omega (arith, h))

pub set_other : {A : Type 0} (xs : List A) (n k : ℕ) (x : A) → k ≢ n → slice_get (set xs n x) k ≡ slice_get xs k
set_other [] n k x ne = refl
set_other (y ∷ ys) zero zero x ne = absurd (ne refl)
set_other (y ∷ ys) zero (suc k) x ne = refl
set_other (y ∷ ys) (suc n) zero x ne = refl
set_other (y ∷ ys) (suc n) (suc k) x ne = set_other ys n k x (λ e. ne (ap suc e))

module _ {S : Type 0} {o : Order S} (laws : IsLawful o) where
  pub carried_keeps : (count at : ℕ) (s t : S) → at + count ≤ o.size → o.is_state s → carried o.steps at count s ≡ Some t → o.is_state t
  carried_keeps zero at s t h v e = let same : s ≡ t = cc in subst o.is_state same v
  carried_keeps (suc count) at s t h v e =
      option_and_then_some (carried o.steps (suc at) count) (o.steps at s) t e
      (λ r er et. carried_keeps count (suc at) r t (omega arith) (laws.keeps at s r (omega arith) v er) et)

  pub carried_monotone : (count at : ℕ) (a b t : S) → at + count ≤ o.size → o.is_state a → o.is_state b → o.below a b → carried o.steps at count b ≡ Some t
      → (u : S) × ((carried o.steps at count a ≡ Some u) × o.below u t)
  carried_monotone zero at a b t h va vb le e = let same : b ≡ t = cc in (a, (refl, subst (o.below a) same le))
  carried_monotone (suc count) at a b t h va vb le e =
      option_and_then_some (carried o.steps (suc at) count) (o.steps at b) t e
      (λ r er et.
      let here = laws.monotone at a b r (omega arith) va vb le er in
      let rest = carried_monotone count (suc at) here.0 r t (omega arith) (laws.keeps at a here.0 (omega arith) va here.1.0) (laws.keeps at b r (omega arith) vb er) here.1.1 et in
      (rest.0, (rw here.1.0 rest.1.0, rest.1.1)))

  pub through_keeps : (b : Block) (s t : S) → b.first ≤ b.last → b.last < o.size → o.is_state s → through o.steps b s ≡ Some t → o.is_state t
  through_keeps b s t h h' v e = carried_keeps (b.last + 1 - b.first) b.first s t (omega arith) v e

  pub through_monotone : (b : Block) (a c t : S) → b.first ≤ b.last → b.last < o.size → o.is_state a → o.is_state c → o.below a c → through o.steps b c ≡ Some t
      → (u : S) × ((through o.steps b a ≡ Some u) × o.below u t)
  through_monotone b a c t h h' va vc le e = carried_monotone (b.last + 1 - b.first) b.first a c t (omega arith) va vc le e

module _ {S : Type 0} (P : S → Type 0) (below : S → S → Type 0) where
  pub risen_start : (s : S) → P s → IsRisen P below 0 s
  unfolding IsRisen
  risen_start s p = p

  pub risen_more : (m : ℕ) (s u : S) → P u → IsRisen P below m s → below s u → (below u s → ⊥) → IsRisen P below (suc m) u
  unfolding IsRisen
  risen_more m s u p r le ne = (p, (s, (r, le, ne)))

  pub risen_has : (m : ℕ) (s : S) → IsRisen P below m s → P s
  unfolding IsRisen
  risen_has zero s r = r
  risen_has (suc m) s r = r.0

  -- the last state may be replaced by a higher one
  pub risen_higher : ((a b c : S) → P a → P b → P c → below a b → below b c → below a c) → (m : ℕ) (s u : S) → P s → P u → IsRisen P below m s → below s u → IsRisen P below m u
  unfolding IsRisen
  risen_higher trans zero s u p q r le = q
  risen_higher trans (suc m) s u p q r le = (q, (r.1.0, (r.1.1.0, trans r.1.0 s u (risen_has m r.1.0 r.1.1.0) p q r.1.1.1 le, λ h. r.1.1.2 (trans s u r.1.0 p q (risen_has m r.1.0 r.1.1.0) le h))))
