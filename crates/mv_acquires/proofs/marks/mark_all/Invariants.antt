use Rattle.std.proofs.Common.{◌≡◌, ℕ, ◌||◌, take}
use Rattle.mv_acquires.specs.Acquires.{has_member}
use Rattle.mv_bit_sets.specs.BitSets.{has}
use Rattle.mv_acquires.proofs.marks.mark_all.Given as goal

-- the numbers so far are marked
abbrev pub invariant-loop-number : goal.invariant-loop-number
invariant-loop-number l = (y : ℕ) → has l.marks y ≡ (has l.initial.marks y || has_member (take l.number-index l.numbers) y)
