use Rattle.mv_edges.proofs.Common.{◌-◌, ◌<◌, ◌≡◌, length, take, true, are_ascending}
use Rattle.mv_edges.proofs.unordered.ascend.Given as goal

abbrev pub invariant-loop-place : goal.invariant-loop-place
invariant-loop-place l = record {
  some : 0 < l.place;
  ascend : are_ascending (take l.place l.items) ≡ true;
}

abbrev pub decreases-loop-place : goal.decreases-loop-place
decreases-loop-place l = length l.items - l.place
