-- What proofs of the linker speak of.
use Rattle.std.specs.Prelude.{ℕ, ◌+◌, ◌≤◌, ◌==◌, cond, List, [], ◌∷◌}

-- each of these places is one of so many, or the next one
abbrev pub ArePlaces : List ℕ → ℕ → Type 0
ArePlaces [] count = Unit {0}
ArePlaces (p ∷ places) count = (p ≤ count) × ArePlaces places (cond (p == count) (count + 1) count)
