-- The first byte of a buffer, taken.
use Rattle.std.proofs.Common.{◌≡◌, ℕ, Bool, true, false, List, [], ◌∷◌, ◌++◌, Option, None, Some, length, cond, ap, arith}
use Rattle.std.specs.List.{slice_get}
use Rattle.std.specs.Io.KnownBytes.{Consumes, prepend_known}
use Rattle.std.specs.Io.BufRead.{DropsConsumable}

-- it is the first of the bytes that the reader has, where these are known
pub first-taken : (is_none : Bool) (buffer : List ℕ) (inner new : Option (List ℕ)) (first : ℕ) → slice_get buffer 0 ≡ Some first
    → DropsConsumable (cond is_none None (prepend_known buffer inner)) new (Some (length buffer)) 1
    → Consumes (cond is_none None (prepend_known buffer inner)) new (first ∷ [])
first-taken true buffer inner new first at drops = tt
first-taken false buffer None new first at drops = tt
first-taken false [] (Some ys) new first at drops = cc
first-taken false (x ∷ xs) (Some ys) new first at drops =
    rw (drops (omega arith)) (ap (λ y. y ∷ xs ++ ys) (same x first at))
  where
    same : (x y : ℕ) → Some x ≡ Some y → x ≡ y
    same x y h = cc
