use Rattle.mv_edges.proofs.Common.{◌≡◌, ◌∷◌, [], edges_leq, flat_map, take}
use Rattle.mv_ways.specs.Behind.{edges_from}
use Rattle.mv_ways.specs.Covered.{AreCovered, open_tail}
use Rattle.mv_ways.proofs.provenances.ProvenanceGraph.are_origins_covered.Given as goal

abbrev pub invariant-loop-index : goal.invariant-loop-index
invariant-loop-index l = record {
  covered : AreCovered l.self l.to l.others l.covered;
  all : l.all ≡ edges_leq (flat_map (edges_from l.self.sources l.to (open_tail [] ∷ [])) (take l.index l.origins)) l.others;
}
