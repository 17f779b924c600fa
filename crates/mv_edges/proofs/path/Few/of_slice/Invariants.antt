use Rattle.mv_edges.proofs.Common.{◌≡◌, take}
use Rattle.mv_edges.proofs.path.Few.of_slice.Given as goal

abbrev pub invariant-loop-position : goal.invariant-loop-position
invariant-loop-position l = l.few ≡ take l.position-index l.path
