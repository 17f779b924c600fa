-- The place of the first entry that passes a test, and entries of two lists one after the other.
use Rattle.mv_bound_rules.proofs.Common.{[], ℕ, ◌++◌, ◌+◌, ◌<◌, ◌∙◌, ◌∷◌, ◌≡◌, Bool, List, None, Option, Some, ap, arith, cond, false, get_or, length, refl, subst, suc, sym, take, true, zero}
use Rattle.mv_bound_rules.proofs.Common.{length-take-le, slice_get, option_map, find_index}
use Rattle.std.proofs.Common.{add-one}
use Rattle.std.proofs.lemmas.List.{get_or-take, take-take}

-- the first that passes stands at the index, where those before it fail
pub find-first : {A : Type 0} (p : A → Bool) (xs : List A) (k : ℕ) (x : A) → k < length xs → x ≡ get_or xs k x → find_index p (take k xs) ≡ None → p x ≡ true → find_index p xs ≡ Some k
find-first p [] k x lt e none is = absurd (omega (arith, lt))
find-first p (y ∷ xs) zero x lt e none is = let first : p y ≡ true = subst (λ z. p z ≡ true) e is in ap (λ b. cond b (Some 0) (option_map suc (find_index p xs))) first
find-first p (y ∷ xs) (suc k) x lt e none is = later (p y) (find_index p (take k xs)) (find_index p xs) none (λ before. find-first p xs k x (omega (arith, lt)) e before is)
  where
    later : (b : Bool) (old new : Option ℕ) → cond b (Some 0) (option_map suc old) ≡ None → (old ≡ None → new ≡ Some k) → cond b (Some 0) (option_map suc new) ≡ Some (suc k)
    later true old new none go = cc
    later false None new none go = ap (option_map suc) (go refl)
    later false (Some j) new none go = cc

-- one more that fails
pub find-none : {A : Type 0} (p : A → Bool) (xs : List A) (k : ℕ) (x : A) → k < length xs → x ≡ get_or xs k x → find_index p (take k xs) ≡ None → p x ≡ false → find_index p (take (k + 1) xs) ≡ None
find-none p xs k x lt e none is = ap (λ n. find_index p (take n xs)) (add-one k) ∙ more p xs k x lt e none is
  where
    more : {A : Type 0} (p : A → Bool) (xs : List A) (k : ℕ) (x : A) → k < length xs → x ≡ get_or xs k x → find_index p (take k xs) ≡ None → p x ≡ false → find_index p (take (suc k) xs) ≡ None
    more p [] k x lt e none is = refl
    more p (y ∷ xs) zero x lt e none is = let first : p y ≡ false = subst (λ z. p z ≡ false) e is in ap (λ b. cond b (Some 0) None) first
    more p (y ∷ xs) (suc k) x lt e none is = later (p y) (find_index p (take k xs)) (find_index p (take (suc k) xs)) none (λ before. more p xs k x (omega (arith, lt)) e before is)
      where
        later : (b : Bool) (old new : Option ℕ) → cond b (Some 0) (option_map suc old) ≡ None → (old ≡ None → new ≡ None) → cond b (Some 0) (option_map suc new) ≡ None
        later true old new none go = none
        later false None new none go = ap (option_map suc) (go refl)
        later false (Some j) new none go = cc

pub slice_get-first : {A : Type 0} (xs ys : List A) (i : ℕ) → i < length xs → slice_get (xs ++ ys) i ≡ slice_get xs i
slice_get-first [] ys i h = absurd (omega arith)
slice_get-first (x ∷ xs) ys zero h = refl
slice_get-first (x ∷ xs) ys (suc i) h = slice_get-first xs ys i (omega arith)

pub slice_get-second : {A : Type 0} (xs ys : List A) (i k : ℕ) → length xs + k ≡ i → slice_get (xs ++ ys) i ≡ slice_get ys k
slice_get-second [] ys i k e = let same : i ≡ k = omega arith in rw same refl
slice_get-second (x ∷ xs) ys zero k e = absurd (omega arith)
slice_get-second (x ∷ xs) ys (suc i) k e = slice_get-second xs ys i k (omega arith)

-- what is found among the first is found among more
pub find-kept : {A : Type 0} (p : A → Bool) (xs : List A) (i k : ℕ) → find_index p (take i xs) ≡ Some k → find_index p (take (i + 1) xs) ≡ Some k
find-kept p xs i k e = ap (λ n. find_index p (take n xs)) (add-one i) ∙ more p xs i k e
  where
    more : {A : Type 0} (p : A → Bool) (xs : List A) (i k : ℕ) → find_index p (take i xs) ≡ Some k → find_index p (take (suc i) xs) ≡ Some k
    more p [] zero k e = e
    more p [] (suc i) k e = e
    more p (y ∷ xs) zero k e = cc
    more p (y ∷ xs) (suc i) k e = later (p y) (find_index p (take i xs)) (find_index p (take (suc i) xs)) k e (λ j h. more p xs i j h)
      where
        later : (b : Bool) (old new : Option ℕ) (k : ℕ) → cond b (Some 0) (option_map suc old) ≡ Some k → ((j : ℕ) → old ≡ Some j → new ≡ Some j) → cond b (Some 0) (option_map suc new) ≡ Some k
        later true old new k e go = e
        later false None new k e go = cc
        later false (Some j) new k e go = ap (option_map suc) (go j refl) ∙ e

-- the next one that passes is found, where none did before
pub find-here : {A : Type 0} (p : A → Bool) (xs : List A) (i : ℕ) (x : A) → i < length xs → x ≡ get_or xs i x → find_index p (take i xs) ≡ None → p x ≡ true → find_index p (take (i + 1) xs) ≡ Some i
find-here p xs i x low is none passes =
    let long : length (take (i + 1) xs) ≡ i + 1 = length-take-le (i + 1) xs (omega (arith, low)) in
    find-first p (take (i + 1) xs) i x (omega (arith, long)) (is ∙ sym (get_or-take (i + 1) xs i x (omega arith)))
    (ap (find_index p) (take-take i (i + 1) xs (omega arith)) ∙ none) passes
