-- Whether some edge of a list passes.
use Rattle.mv_edges.proofs.Common.{[], ◌&&◌, ◌==◌, ◌||◌, ◌∷◌, ◌≡◌, Bool, List, ap, arith, cond, false, filter, length, not}
use Rattle.mv_edges.proofs.Common.{refl, true, eqb-true, false_from_ne_true, list_any}

-- a list with an element isn't empty
not_empty : {A : Type 0} (x : A) (xs : List A) → (length (x ∷ xs) == 0) ≡ false
not_empty x xs = false_from_ne_true (length (x ∷ xs) == 0) (λ h. let none = eqb-true (length (x ∷ xs)) 0 h in omega (arith, none))

-- where there is one, one passes
pub any_at_all : {A : Type 0} (xs : List A) → not (length xs == 0) ≡ list_any (λ x. true) xs
any_at_all [] = refl
any_at_all (x ∷ xs) = ap not (not_empty x xs)

module _ {A : Type 0} where
  pub list_any-alike : (p q : A → Bool) → ((x : A) → p x ≡ q x) → (xs : List A) → list_any p xs ≡ list_any q xs
  list_any-alike p q same [] = refl
  list_any-alike p q same (x ∷ xs) = (λ i. same x i || list_any-alike p q same xs i)

pub list_any-filter : {A : Type 0} (p q : A → Bool) (xs : List A) → list_any p (filter q xs) ≡ list_any (λ x. q x && p x) xs
list_any-filter p q [] = refl
list_any-filter p q (x ∷ xs) = by_case (q x) (list_any-filter p q xs)
  where
    by_case : (b : Bool) → list_any p (filter q xs) ≡ list_any (λ y. q y && p y) xs
        → list_any p (cond b (x ∷ filter q xs) (filter q xs)) ≡ ((b && p x) || list_any (λ y. q y && p y) xs)
    by_case true e = ap (λ b. p x || b) e
    by_case false e = e
