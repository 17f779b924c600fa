-- The rules, of modules and of their entries.
use Rattle.mv_linker.proofs.Common.{[], ℕ, ◌&&◌, ◌||◌, ◌∙◌, ◌∷◌, ◌≡◌, Bool, List, None, Option, Some, all_differ, ap, cond, false, find_index, is_some, list_all, list_any, map, not}
use Rattle.mv_linker.proofs.Common.{option_map, refl, suc, true}

-- a test of each element of a list that was mapped twice
pub list_all-maps : {A B C : Type 0} (f : B → A) (h : C → B) (p : A → Bool) (xs : List C) → list_all p (map f (map h xs)) ≡ list_all (λ x. p (f (h x))) xs
list_all-maps f h p [] = refl
list_all-maps f h p (x ∷ xs) = ap (λ b. p (f (h x)) && b) (list_all-maps f h p xs)

-- a test of some element of it
pub list_any-maps : {A B C : Type 0} (f : B → A) (h : C → B) (p : A → Bool) (xs : List C) → list_any p (map f (map h xs)) ≡ list_any (λ x. p (f (h x))) xs
list_any-maps f h p [] = refl
list_any-maps f h p (x ∷ xs) = ap (λ b. p (f (h x)) || b) (list_any-maps f h p xs)

-- nothing is found exactly where no element passes
pub find_index-none : {A : Type 0} (p : A → Bool) (xs : List A) → not (is_some (find_index p xs)) ≡ not (list_any p xs)
find_index-none p [] = refl
find_index-none p (x ∷ xs) = step (p x) (find_index p xs) (list_any p xs) (find_index-none p xs)
  where
    step : (b : Bool) (o : Option ℕ) (c : Bool) → not (is_some o) ≡ not c → not (is_some (cond b (Some 0) (option_map suc o))) ≡ not (b || c)
    step true o c e = refl
    step false None c e = e
    step false (Some k) c e = e

-- no two elements of it are one by the test
pub all_differ-maps : {A B C : Type 0} (f : B → A) (h : C → B) (same : A → A → Bool) (xs : List C) → all_differ same (map f (map h xs)) ≡ all_differ (λ x y. same (f (h x)) (f (h y))) xs
all_differ-maps f h same [] = refl
all_differ-maps f h same (x ∷ xs) =
    ap (λ b. not b && all_differ same (map f (map h xs))) (list_any-maps f h (same (f (h x))) xs)
    ∙ ap (λ b. not (list_any (λ y. same (f (h x)) (f (h y))) xs) && b) (all_differ-maps f h same xs)
