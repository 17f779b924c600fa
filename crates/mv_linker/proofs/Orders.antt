-- Steps of orders on numbers. They stand here over plain variables, since a tactic reads all that is known where it is called.
use Rattle.mv_linker.proofs.Common.{ℕ, ◌<◌, ◌∙◌, ◌≡◌, ◌≤◌, List, Some, ap, arith, get_or, length, slice_get, slice_get-get_or, sym}

-- below a number that is at most another
pub below-most : (a b c : ℕ) → a < b → b ≤ c → a < c
below-most a b c lt le = omega arith

-- an index within a list, and one past it, where the list is another one
pub within-same : {A : Type 0} (i : ℕ) (xs ys : List A) → i < length xs → xs ≡ ys → i < length ys
within-same i xs ys lt same = let long : length xs ≡ length ys = ap length same in omega arith

pub past-same : {A : Type 0} (i : ℕ) (xs ys : List A) → length xs ≤ i → xs ≡ ys → length ys ≤ i
past-same i xs ys le same = let long : length xs ≡ length ys = ap length same in omega arith

-- what stands there in the other one
pub read-same : {A : Type 0} (i : ℕ) (xs ys : List A) (d : A) → xs ≡ ys → i < length ys → slice_get ys i ≡ Some (get_or xs i d)
read-same i xs ys d same low = ap (λ l. slice_get l i) (sym same) ∙ slice_get-get_or xs i d (within-same i ys xs low (sym same))
