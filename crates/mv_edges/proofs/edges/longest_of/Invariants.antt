use Rattle.mv_edges.proofs.Common.{◌≡◌, take, longest}
use Rattle.mv_edges.proofs.edges.longest_of.Given as goal

abbrev pub invariant-loop-e : goal.invariant-loop-e
invariant-loop-e l = l.most ≡ longest (take l.e-index l.items)
