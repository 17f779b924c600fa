use Rattle.mv_edges.proofs.Common.{◌≡◌, edges_leq, length, list_all, take, true}
use Rattle.mv_ways.specs.Provenances.{all_origins, reference_edges}
use Rattle.mv_ways.proofs.provenances.ProvenanceGraph.are_under.Given as goal

-- the edges of the first references are below the others
abbrev pub invariant-loop-reference : goal.invariant-loop-reference
invariant-loop-reference l = record {
  marks : length l.marks ≡ length l.self.provenances;
  room : length l.room ≡ length l.self.provenances;
  under : list_all (λ r. edges_leq (reference_edges l.self.sources (all_origins l.self.provenances) r) l.others) (take l.reference-index l.self.references) ≡ true;
}
