use Rattle.mv_edges.proofs.Common.{◌≡◌, map, take}
use Rattle.mv_ways.specs.Provenances.{edges_of}
use Rattle.mv_ways.proofs.ProvenanceGraph.Stating.{given_to}
use Rattle.mv_ways.proofs.provenances.ProvenanceGraph.given_to.Given as goal

abbrev pub invariant-loop-reborrow : goal.invariant-loop-reborrow
invariant-loop-reborrow l = l.given.items ≡ map (given_to (edges_of l.self)) (take l.reborrow-index l.reborrows)
