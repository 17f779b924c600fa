use Rattle.std.proofs.Common.{◌≡◌, ◌≤◌, ◌-◌, ℕ, length, max}
use Rattle.mv_bit_sets.specs.BitSets.{has}
use Rattle.mv_bit_sets.proofs.BitSet.grow.Given as goal

abbrev pub invariant-loop-self : goal.invariant-loop-self
invariant-loop-self l = ((p : ℕ) → has l.self-inside.words.items p ≡ has l.fn.self p) × (length l.self-inside.words.items ≤ 1024) × (length l.self-inside.words.items ≤ max (length l.fn.self) l.words)

abbrev pub decreases-loop-self : goal.decreases-loop-self
decreases-loop-self l = l.words - length l.self-inside.words.items
