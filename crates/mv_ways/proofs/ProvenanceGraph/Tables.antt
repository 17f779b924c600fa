-- Tables of what is noted of provenances.
use Rattle.mv_edges.proofs.Common.{ℕ, ◌<◌, ◌==◌, ◌||◌, ◌∙◌, ◌≡◌, ◌≤◌, Bool, List, None, Some, ap, arith, cond, eq-eqb, false, get_or, inl, inr, length, lt-ltb, ltb, ltb-true, ne_eqb, refl, set, sym, true}
use Rattle.std.proofs.lemmas.Bool.{cases_eq}
use Rattle.std.proofs.lemmas.List.{get_or-set_other, get_or-set_same}
use Rattle.mv_ways.specs.declared.provenances.Provenance.{Provenance}
use Rattle.mv_ways.specs.declared.provenances.Provenance.TheVariants.{Stated, Lent, Field, Returned}
use Rattle.mv_ways.specs.declared.provenances.under.leading.Mark.{Mark}
use Rattle.mv_ways.specs.Provenances.{goes_below}
use Rattle.mv_edges.proofs.Insertion.{all_weaker}

-- what is read at a place is what was written there, or what was there
pub read_set : {X : Type 0} (xs : List X) (i k : ℕ) (y d : X) → i < length xs → get_or (set xs i y) k d ≡ cond (k == i) y (get_or xs k d)
read_set xs i k y d room = elim (cases_eq k i) [
  | inl same ↦ ap (λ n. get_or (set xs i y) n d) same ∙ get_or-set_same xs i y d room ∙ ap (λ b. cond b y (get_or xs k d)) (sym (eq-eqb k i same))
  | inr other ↦ get_or-set_other xs i k y d other ∙ ap (λ b. cond b y (get_or xs k d)) (sym (ne_eqb k i other))
]

pub eqb_swap : (m n : ℕ) → (m == n) ≡ (n == m)
eqb_swap m n = elim (cases_eq m n) [
  | inl same ↦ eq-eqb m n same ∙ sym (eq-eqb n m (sym same))
  | inr other ↦ ne_eqb m n other ∙ sym (ne_eqb n m (λ same. other (sym same)))
]

pub cond_or : (c a : Bool) → cond c true a ≡ (a || c)
cond_or true true = refl
cond_or true false = refl
cond_or false true = refl
cond_or false false = refl

-- a mark of a provenance more
module _ (f : Mark → Bool) (yes : Mark) (says : f yes ≡ true) where
  pub read_mark : (marks : List Mark) (i k : ℕ) (d : Mark) → i < length marks → f (get_or (set marks i yes) k d) ≡ (f (get_or marks k d) || (i == k))
  read_mark marks i k d room =
      ap f (read_set marks i k yes d room) ∙ by_case (k == i) ∙ cond_or (k == i) (f (get_or marks k d)) ∙ ap (λ b. f (get_or marks k d) || b) (eqb_swap k i)
    where
      by_case : (c : Bool) → f (cond c yes (get_or marks k d)) ≡ cond c true (f (get_or marks k d))
      by_case true = says
      by_case false = refl

-- what is not said of a mark that is written stays
pub kept_mark : (f : Mark → Bool) (marks : List Mark) (i k : ℕ) (y d : Mark) → i < length marks → f y ≡ f (get_or marks i d) → f (get_or (set marks i y) k d) ≡ f (get_or marks k d)
kept_mark f marks i k y d room same = elim (cases_eq k i) [
  | inl here ↦ ap f (ap (λ n. get_or (set marks i y) n d) here ∙ get_or-set_same marks i y d room) ∙ same ∙ ap (λ n. f (get_or marks n d)) (sym here)
  | inr other ↦ ap f (get_or-set_other marks i k y d other)
]

-- a provenance goes over provenances below what is larger
pub goes_below_more : (m n : ℕ) (provenance : Provenance) → m ≤ n → goes_below m provenance ≡ true → goes_below n provenance ≡ true
goes_below_more m n (Stated origins) h g = refl
goes_below_more m n (Lent source None) h g = refl
goes_below_more m n (Lent source (Some k)) h g = let below = ltb-true k m g in lt-ltb k n (omega (arith, h, below))
goes_below_more m n (Field k position) h g = let below = ltb-true k m g in lt-ltb k n (omega (arith, h, below))
goes_below_more m n (Returned provenances) h g = all_weaker (λ k. ltb k m) (λ k. ltb k n) (λ k b. let below = ltb-true k m b in lt-ltb k n (omega (arith, h, below))) provenances.items g
