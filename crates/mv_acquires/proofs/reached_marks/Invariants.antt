use Rattle.std.proofs.Common.{◌≡◌, ℕ, flat_map, take}
use Rattle.mv_acquires.specs.Acquires.{reached_by, has_member}
use Rattle.mv_bit_sets.specs.BitSets.{has}
use Rattle.mv_acquires.specs.Marks.{AreFollowed}
use Rattle.mv_acquires.proofs.reached_marks.Given as goal

-- what the instructions so far reach is marked
abbrev pub invariant-loop-i : goal.invariant-loop-i
invariant-loop-i l = record {
  exact : (y : ℕ) → has l.marks y ≡ has_member (flat_map (reached_by l.m) (take l.i-index l.code)) y;
  followed : AreFollowed l.m l.called l.marks;
}
