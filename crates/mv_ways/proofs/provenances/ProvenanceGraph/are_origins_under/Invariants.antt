use Rattle.mv_edges.proofs.Common.{◌≡◌, ◌∷◌, [], edges_leq, flat_map, take, true}
use Rattle.mv_ways.specs.Behind.{edges_from}
use Rattle.mv_ways.specs.Covered.{open_tail}
use Rattle.mv_ways.proofs.provenances.ProvenanceGraph.are_origins_under.Given as goal

abbrev pub invariant-loop-index : goal.invariant-loop-index
invariant-loop-index l = edges_leq (flat_map (edges_from l.self.sources l.to (open_tail l.path ∷ [])) (take l.index l.origins)) l.others ≡ true
