use Rattle.std.proofs.Common.{All, ℕ, ◌/◌, ◌<◌, ◌≤◌, length}
use Rattle.mv_bit_sets.proofs.Bits.{HasFirst}
use Rattle.mv_bit_sets.proofs.BitSet.of.Given as goal

abbrev pub invariant-loop-number : goal.invariant-loop-number
invariant-loop-number l = HasFirst l.set l.numbers l.number-index × ((words : ℕ) → All (λ p. p / 64 < words) l.numbers → length l.set ≤ words)
