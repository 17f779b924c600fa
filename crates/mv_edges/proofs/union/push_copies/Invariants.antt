use Rattle.mv_edges.proofs.Common.{◌++◌, ◌≡◌, take}
use Rattle.mv_edges.proofs.union.push_copies.Given as goal

abbrev pub invariant-loop-e : goal.invariant-loop-e
invariant-loop-e l = l.items.items ≡ l.fn.items.items ++ take l.e-index l.more
