use Rattle.std.proofs.Common.{◌≡◌, ◌==◌, ◌≤◌, ℕ, true, length, drop}
use Rattle.mv_bound_rules.specs.Definitions.{all_differ}
use Rattle.mv_acquires.specs.Acquires.{has_member}
use Rattle.mv_bit_sets.specs.BitSets.{has}
use Rattle.mv_acquires.proofs.is_distinct.Given as goal

-- those from here on differ, and are marked
abbrev pub invariant-loop-left : goal.invariant-loop-left
invariant-loop-left l = record {
  within : l.left ≤ length l.numbers;
  differ : all_differ ◌==◌ (drop l.left l.numbers) ≡ true;
  exact : (y : ℕ) → has l.later y ≡ has_member (drop l.left l.numbers) y;
}

abbrev pub decreases-loop-left : goal.decreases-loop-left
decreases-loop-left l = l.left
