-- Lists in which entries were put at places, each at one that was there or at the next one.
--   length-with_at, put-at, other-at   one entry
--   set-with_at, push-with_at          how it gets there
--   length-put_all, from-put_all       several, one after the other
use Rattle.mv_linker.proofs.Common.{[], ℕ, ◌++◌, ◌+◌, ◌==◌, ◌∙◌, ◌∷◌, ◌≡◌, ◌≤◌, ◌⊎◌, ArePlaces, Contains, List, Some, ap, arith, cases_eq, cond, count_after, eq-eqb, fold, inl, inr}
use Rattle.mv_linker.proofs.Common.{length, map, ne_eqb, none-some, refl, same_Some, slice_get, slice_set, subst, suc, sym, with_at, zero}
use Rattle.mv_linker.proofs.Lemmas.{Contains-at, at-Contains}

-- ---- one entry

-- a place that is there leaves the length
length-there : {A : Type 0} (xs : List A) (p : ℕ) (x : A) → suc p ≤ length xs → length (with_at p x xs) ≡ length xs
length-there [] p x h = absurd (omega (arith, h))
length-there (y ∷ ys) zero x h = refl
length-there (y ∷ ys) (suc p) x h = ap suc (length-there ys p x (omega (arith, h)))

length-next : {A : Type 0} (xs : List A) (p : ℕ) (x : A) → p ≡ length xs → length (with_at p x xs) ≡ length xs + 1
length-next [] p x e = refl
length-next (y ∷ ys) zero x e = absurd (omega (arith, e))
length-next (y ∷ ys) (suc p) x e = omega (arith, length-next ys p x (omega (arith, e)))

pub length-with_at : {A : Type 0} (xs : List A) (p : ℕ) (x : A) → p ≤ length xs → length (with_at p x xs) ≡ cond (p == length xs) (length xs + 1) (length xs)
length-with_at xs p x h = elim (cases_eq p (length xs)) [
  | inl same ↦ rw (eq-eqb p (length xs) same) (length-next xs p x same)
  | inr other ↦ rw (ne_eqb p (length xs) other) (length-there xs p x (omega (arith, h, other)))
]

-- what was put stands at its place
pub put-at : {A : Type 0} (xs : List A) (p : ℕ) (x : A) → p ≤ length xs → slice_get (with_at p x xs) p ≡ Some x
put-at [] zero x h = refl
put-at [] (suc p) x h = absurd (omega (arith, h))
put-at (y ∷ ys) zero x h = refl
put-at (y ∷ ys) (suc p) x h = put-at ys p x (omega (arith, h))

-- and the others at theirs
pub other-at : {A : Type 0} (xs : List A) (p : ℕ) (x : A) (q : ℕ) → p ≤ length xs → (q ≡ p → ⊥) → slice_get (with_at p x xs) q ≡ slice_get xs q
other-at [] p x zero h other = absurd (other (omega (arith, h)))
other-at [] p x (suc q) h other = refl
other-at (y ∷ ys) zero x zero h other = absurd (other refl)
other-at (y ∷ ys) zero x (suc q) h other = refl
other-at (y ∷ ys) (suc p) x zero h other = refl
other-at (y ∷ ys) (suc p) x (suc q) h other = other-at ys p x q (omega (arith, h)) (λ e. other (ap suc e))

-- it is set where one was there, and comes last otherwise
pub set-with_at : {A : Type 0} (xs : List A) (p : ℕ) (x : A) → suc p ≤ length xs → slice_set xs p x ≡ with_at p x xs
set-with_at [] p x h = absurd (omega (arith, h))
set-with_at (y ∷ ys) zero x h = refl
set-with_at (y ∷ ys) (suc p) x h = ap (λ zs. y ∷ zs) (set-with_at ys p x (omega (arith, h)))

pub push-with_at : {A : Type 0} (xs : List A) (p : ℕ) (x : A) → length xs ≤ p → xs ++ x ∷ [] ≡ with_at p x xs
push-with_at [] p x h = refl
push-with_at (y ∷ ys) zero x h = absurd (omega (arith, h))
push-with_at (y ∷ ys) (suc p) x h = ap (λ zs. y ∷ zs) (push-with_at ys p x (omega (arith, h)))

-- ---- several

-- the list with a value for each of these, at its place
abbrev pub put_all : {E A : Type 0} → (E → ℕ) → (E → A) → List A → List E → List A
put_all place value xs es = fold (λ ys e. with_at (place e) (value e) ys) xs es

pub length-put_all : {E A : Type 0} (place : E → ℕ) (value : E → A) (xs : List A) (es : List E) → ArePlaces (map place es) (length xs) → length (put_all place value xs es) ≡ count_after (map place es)
    (length xs)
length-put_all place value xs [] h = refl
length-put_all place value xs (e ∷ es) h =
    let long = length-with_at xs (place e) (value e) h.0 in
    length-put_all place value (with_at (place e) (value e) xs) es (subst (λ n. ArePlaces (map place es) n) (sym long) h.1) ∙ ap (count_after (map place es)) long

-- an entry is one that was put, or none was put there and it is an old one
pub record WasPut {E A : Type 0} (place : E → ℕ) (value : E → A) (es : List E) (q : ℕ) (x : A) : Type 0 where
  pub entry : E
  pub one : Contains es entry
  pub at : place entry ≡ q
  pub is : value entry ≡ x

pub record WasThere {E A : Type 0} (place : E → ℕ) (xs : List A) (es : List E) (q : ℕ) (x : A) : Type 0 where
  pub none : (e : E) → Contains es e → place e ≡ q → ⊥
  pub at : slice_get xs q ≡ Some x

later : {E : Type 0} (e x : E) (es : List E) → Contains es x → Contains (e ∷ es) x
later e x es c = let at = Contains-at es x c in at-Contains (e ∷ es) (suc at.0) x at.1

pub first_or_later : {E : Type 0} (e x : E) (es : List E) → Contains (e ∷ es) x → (e ≡ x) ⊎ Contains es x
first_or_later e x es c = let at = Contains-at (e ∷ es) x c in by_place at.0 at.1
  where
    by_place : (k : ℕ) → slice_get (e ∷ es) k ≡ Some x → (e ≡ x) ⊎ Contains es x
    by_place zero at = inl (same_Some e x at)
    by_place (suc k) at = inr (at-Contains es k x at)

pub from-put_all : {E A : Type 0} (place : E → ℕ) (value : E → A) (xs : List A) (es : List E) → ArePlaces (map place es) (length xs) → (q : ℕ) (x : A)
    → slice_get (put_all place value xs es) q ≡ Some x
    → WasPut place value es q x ⊎ WasThere place xs es q x
from-put_all place value xs [] h q x at = inr (record { none = λ e c. let there = Contains-at [] e c in λ same. none-some e there.1; at = at })
from-put_all {E} {A} place value xs (e ∷ es) h q x at =
    let long = length-with_at xs (place e) (value e) h.0 in
    elim (from-put_all place value (with_at (place e) (value e) xs) es (subst (λ n. ArePlaces (map place es) n) (sym long) h.1) q x at) [
      | inl put ↦ inl (record { entry = put.entry; one = later e put.entry es put.one; at = put.at; is = put.is })
      | inr there ↦ elim (cases_eq q (place e)) [
        | inl same ↦
            let is : value e ≡ x = same_Some (value e) x (sym (ap (slice_get (with_at (place e) (value e) xs)) same ∙ put-at xs (place e) (value e) h.0) ∙ there.at) in
            inl (record { entry = e; one = at-Contains (e ∷ es) 0 e refl; at = sym same; is = is })
        | inr other ↦ inr (record {
          none = λ o c same. elim (first_or_later e o es c) [ inl first ↦ other (sym (ap place first ∙ same)) | inr rest ↦ there.none o rest same ];
          at = sym (other-at xs (place e) (value e) q h.0 other) ∙ there.at;
        })
      ]
    ]
