use Rattle.mv_edges.proofs.Common.{◌≡◌, ◌≤◌, length, take, true}
use Rattle.mv_ways.specs.Provenances.{are_below}
use Rattle.mv_ways.proofs.provenances.ProvenanceGraph.count_used.Given as goal

abbrev pub invariant-loop-r : goal.invariant-loop-r
invariant-loop-r l = record {
  most : l.count ≤ length l.self.provenances;
  below : are_below l.count (take l.r-index l.self.references) ≡ true;
}
