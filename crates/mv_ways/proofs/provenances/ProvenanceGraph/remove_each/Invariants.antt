use Rattle.mv_edges.proofs.Common.{◌≡◌, take}
use Rattle.mv_ways.specs.Provenances.{gone_each}
use Rattle.mv_ways.proofs.provenances.ProvenanceGraph.remove_each.Given as goal

-- without the edges at the nodes so far
abbrev pub invariant-loop-n : goal.invariant-loop-n
invariant-loop-n l = l.self ≡ gone_each (take l.n-index l.nodes) l.fn.self
