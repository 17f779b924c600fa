use Rattle.mv_edges.proofs.Common.{◌≡◌}
use Rattle.mv_ways.specs.Provenances.{edges_of}
use Rattle.mv_ways.proofs.ProvenanceGraph.Tying.{AreGiven}
use Rattle.mv_ways.proofs.provenances.ProvenanceGraph.inherited_by.Given as goal

abbrev pub invariant-loop-place : goal.invariant-loop-place
invariant-loop-place l = record {
  kept : edges_of l.self ≡ edges_of l.fn.self;
  given : AreGiven l.fn.self l.self l.reborrows l.place l.new.items;
}
