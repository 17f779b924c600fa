use Rattle.mv_edges.proofs.Common.{◌≡◌, take}
use Rattle.mv_edges.proofs.edges.Edges.copy.Given as goal

abbrev pub invariant-loop-e : goal.invariant-loop-e
invariant-loop-e l = l.items.items ≡ take l.e-index l.e-items
