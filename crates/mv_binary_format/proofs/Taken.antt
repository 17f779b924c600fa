-- The first element that passes a test, and the others.
use Rattle.mv_binary_format.proofs.Common.{[], ℕ, ◌<◌, ◌==◌, ◌∙◌, ◌∷◌, ◌≡◌, Bool, List, None, Some, ap, arith, false, get_or, inl, inr, length, option_map, refl, suc, sym, true, zero}
use Rattle.mv_binary_format.proofs.Common.{cases_Bool, cases_lt, eqb-true, lt-ltb, none-some, find, position, without}
use Rattle.std.proofs.Common.{map}
use Rattle.std.specs.List.{position_or_len, remove}
use Rattle.std.proofs.lemmas.Bool.{eqb-false}
use Rattle.std.proofs.lemmas.Option.{slice_get_past}
use Rattle.std.proofs.lemmas.List.Folds.{find_at}
use Rattle.std.proofs.lemmas.List.Quantifiers.{position-Some}

-- a test of what a function gives
pub find-map : {A B : Type 0} (f : A → B) (p : B → Bool) (xs : List A) → find p (map f xs) ≡ option_map f (find (λ x. p (f x)) xs)
find-map f p [] = refl
find-map f p (x ∷ xs) =
    elim (cases_Bool (p (f x))) [ inl y ↦ rw y refl | inr n ↦ rw n (find-map f p xs) ]

-- the same of the others
pub without-map : {A B : Type 0} (f : A → B) (p : B → Bool) (xs : List A) → without p (map f xs) ≡ map f (without (λ x. p (f x)) xs)
without-map f p [] = refl
without-map f p (x ∷ xs) =
    elim (cases_Bool (p (f x))) [ inl y ↦ rw y refl | inr n ↦ rw n (ap (λ ys. f x ∷ ys) (without-map f p xs)) ]

-- where none passes, all are others
pub without-none : {A : Type 0} (p : A → Bool) (xs : List A) → find p xs ≡ None → without p xs ≡ xs
without-none p [] e = refl
without-none p (x ∷ xs) e =
    elim (cases_Bool (p x)) [
      | inl y ↦ absurd (none-some x (sym (rw y at e)))
      | inr n ↦ rw n (ap (λ ys. x ∷ ys) (without-none p xs (rw n at e)))
    ]

without-at : {A : Type 0} (p : A → Bool) (xs : List A) (i : ℕ) (d : A) → i < length xs → p (get_or xs i d) ≡ true → ((k : ℕ) → k < i → p (get_or xs k d) ≡ false) → without p xs ≡ remove xs i
without-at p [] i d lt here before = absurd (omega arith)
without-at p (x ∷ xs) zero d lt here before = rw here refl
without-at p (x ∷ xs) (suc i) d lt here before =
    rw (before zero (omega arith)) (ap (λ ys. x ∷ ys) (without-at p xs i d (omega arith) here (λ k h. before (suc k) (omega arith))))

first_found : {A : Type 0} (p : A → Bool) (xs : List A) (i : ℕ) (d : A) → i < length xs → p (get_or xs i d) ≡ true → ((k : ℕ) → k < i → p (get_or xs k d) ≡ false) → find p xs ≡ Some (get_or xs i d)
first_found p [] i d lt here before = absurd (omega arith)
first_found p (x ∷ xs) zero d lt here before = rw here refl
first_found p (x ∷ xs) (suc i) d lt here before =
    rw (before zero (omega arith)) (first_found p xs i d (omega arith) here (λ k h. before (suc k) (omega arith)))

-- what the first place says of the first element
pub first_at : {A : Type 0} (p : A → Bool) (xs : List A) (i : ℕ) (x : A) → position p xs ≡ Some i → x ≡ get_or xs i x → (find p xs ≡ Some x) × (without p xs ≡ remove xs i)
first_at p xs i x e x_is =
    let s = position-Some p xs i x e in
    (first_found p xs i x s.0 s.1 s.2 ∙ ap Some (sym x_is), without-at p xs i x s.0 s.1 s.2)

-- no place, no element
pub none_at : {A : Type 0} (p : A → Bool) (xs : List A) → position p xs ≡ None → find p xs ≡ None
none_at p xs e =
    elim (cases_lt (position_or_len p xs) (length xs)) [
      | inl lt ↦ absurd (none-some (position_or_len p xs) (sym e ∙ rw (lt-ltb (position_or_len p xs) (length xs) lt) refl))
      | inr ge ↦ find_at p xs ∙ slice_get_past xs (position_or_len p xs) ge
    ]

-- no elements, by their number
pub empty_map : {A B : Type 0} (f : A → B) (xs : List A) (n : ℕ) → length xs ≡ n → true ≡ (n == 0) → map f xs ≡ []
empty_map f [] n l e = refl
empty_map f (x ∷ xs) n l e = let z : n ≡ 0 = eqb-true n 0 (sym e) in absurd (omega arith)

-- some elements, by their number
pub some_map : {A B : Type 0} (f : A → B) (xs : List A) (n : ℕ) → length xs ≡ n → false ≡ (n == 0) → map f xs ≡ [] → ⊥
some_map f [] n l e none = eqb-false n 0 (sym e) (sym l)
some_map f (x ∷ xs) n l e none = absurd (cc)
