use Rattle.mv_edges.proofs.Common.{◌++◌, ◌≡◌, take}
use Rattle.mv_edges.proofs.path.Path.extended.Given as goal

abbrev pub invariant-loop-position : goal.invariant-loop-position
invariant-loop-position l = l.path ≡ l.self ++ take l.position-index l.more
