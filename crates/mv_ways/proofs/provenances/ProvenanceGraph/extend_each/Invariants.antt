use Rattle.mv_edges.proofs.Common.{◌++◌, ◌≡◌, drop, map, take}
use Rattle.mv_ways.specs.Provenances.{edge_lists, extended_into}
use Rattle.mv_ways.proofs.provenances.ProvenanceGraph.extend_each.Given as goal

-- the edges of the references so far lead one position further
abbrev pub invariant-loop-place : goal.invariant-loop-place
invariant-loop-place l =
    edge_lists l.self ≡ map (map (extended_into l.position l.n)) (take l.place (edge_lists l.fn.self)) ++ drop l.place (edge_lists l.fn.self)
