-- How often a number stands in a list.
use Rattle.std.specs.Prelude.{◌+◌, ◌==◌, ℕ, Bool, true, false, List, [], ◌∷◌}

-- one for a test that holds, and zero for one that doesn't
abbrev pub as_number : Bool → ℕ
as_number true = 1
as_number false = 0

-- how often a number stands in a list
abbrev pub times : ℕ → List ℕ → ℕ
times j [] = 0
times j (x ∷ xs) = as_number (x == j) + times j xs

-- one for zero, and zero for the others
abbrev pub is_zero : ℕ → ℕ
is_zero n = as_number (n == 0)
