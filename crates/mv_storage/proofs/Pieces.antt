-- Pieces of words that are there.
use Rattle.mv_storage.proofs.Common.{ℕ, ◌∙◌, ◌≡◌, ◌≤◌, Bool, List, None, Option, Some, cond, false, is_some, length, option_and_then, refl, sym, take, true}
use Rattle.std.proofs.Common.{◌+◌, drop, nat_le}
use Rattle.std.specs.Prelude.{IfSome}
use Rattle.std.specs.Option.{option_map}
use Rattle.std.proofs.lemmas.Bool.{le-leb, leb-true}
use Rattle.mv_storage.specs.WordLists.{piece}

found : (b : Bool) (words : List ℕ) → is_some (cond b (Some words) None) ≡ b
found true words = refl
found false words = refl

-- a piece that is there lies within the words
pub piece-fits : (from width : ℕ) (o : Option (List ℕ)) → is_some (option_and_then (piece from width) o) ≡ true → IfSome o (λ old. from + width ≤ length old)
piece-fits from width None h = tt
piece-fits from width (Some old) h = leb-true (from + width) (length old) (sym (found (nat_le (from + width) (length old)) (take width (drop from old))) ∙ h)

-- a piece within the words is there
pub piece-is : (from width : ℕ) (o : Option (List ℕ)) → IfSome o (λ old. from + width ≤ length old) → option_and_then (piece from width) o ≡ option_map (λ old. take width (drop from old)) o
piece-is from width None h = refl
piece-is from width (Some old) h = rw (le-leb (from + width) (length old) h) refl
