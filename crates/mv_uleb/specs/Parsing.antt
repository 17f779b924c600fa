-- The number that stands at the front of bytes.
use Rattle.std.specs.Prelude.{ℕ, ◌+◌, ◌-◌, ◌*◌, ◌==◌, nat_lt, nat_le, cond, List, [], ◌∷◌, Option, Some, None, option_and_then}
use Rattle.std.specs.Bool.{then_some}

-- puts the low seven bits of a byte before a number, which isn't 0, that the bytes after it stand for
abbrev pub with_low : ℕ → ℕ × List ℕ → Option (ℕ × List ℕ)
with_low b high = cond (high.0 == 0) None (Some (b - 128 + 128 * high.0, high.1))

-- the number that the front stands for in its one form, and the bytes after it
abbrev pub spelled : List ℕ → Option (ℕ × List ℕ)
spelled [] = None
spelled (b ∷ bs) = cond (nat_lt b 128) (Some (b, bs)) (option_and_then (with_low b) (spelled bs))

-- the same, up to a greatest number
abbrev pub number_from : ℕ → List ℕ → Option (ℕ × List ℕ)
number_from max bytes = option_and_then (λ r. then_some (nat_le r.0 max) r) (spelled bytes)
