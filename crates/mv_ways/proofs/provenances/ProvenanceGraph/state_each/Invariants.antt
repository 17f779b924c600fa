use Rattle.mv_edges.proofs.Common.{◌++◌, ◌≡◌, take}
use Rattle.mv_ways.specs.Provenances.{edges_of, opened_into}
use Rattle.mv_ways.proofs.provenances.ProvenanceGraph.state_each.Given as goal

abbrev pub invariant-loop-place : goal.invariant-loop-place
invariant-loop-place l = edges_of l.self ≡ edges_of l.fn.self ++ opened_into (take l.place l.reborrows) (take l.place l.given)
