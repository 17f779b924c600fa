use Rattle.mv_edges.proofs.Common.{◌≡◌, take}
use Rattle.mv_ways.proofs.provenances.tying.are_same.Given as goal

abbrev pub invariant-loop-i : goal.invariant-loop-i
invariant-loop-i l = take l.i l.a ≡ take l.i l.b
