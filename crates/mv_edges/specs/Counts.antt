-- How many comparisons searches take.
use Rattle.std.specs.Prelude.{ℕ, ◌+◌, ◌-◌, ◌*◌, ◌^◌, ◌<◌, ◌≤◌, min}

-- so many searches among so many edges add at most one comparison for each halving of the edges
abbrev pub IsWithin : ℕ → ℕ → ℕ → ℕ → Type 0
IsWithin edges searches old new = (r : ℕ) → edges < 2 ^ r → new ≤ old + searches * r

-- a count that grows by so much, and stops at 2^64 - 1
abbrev pub counted : ℕ → ℕ → ℕ
counted more old = min (old + more) (2 ^ 64 - 1)

-- where there are edges to compare with, one comparison is counted at least; a count never falls
pub record IsCounted (edges old new : ℕ) : Type 0 where
  pub least : 0 < edges → counted 1 old ≤ new
  pub kept : old ≤ new
