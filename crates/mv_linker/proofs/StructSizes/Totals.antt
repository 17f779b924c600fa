-- The sum over fields, from its first part on.
use Rattle.mv_linker.proofs.Common.{ℕ, ◌+◌, ◌>>=◌, Option, Some, Total, greater}

-- what was summed before, and the rest
abbrev pub plus : ℕ → ℕ → Option Total → Option Total
plus l d o = o >>= λ t. Some (record { leaves = l + t.leaves; nesting = greater d t.nesting })
