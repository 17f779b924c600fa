use Rattle.mv_edges.proofs.Common.{◌≡◌, ◌≤◌, ◌+◌, length}
use Rattle.mv_ways.proofs.ProvenanceGraph.Terms.{AreMarked}
use Rattle.mv_ways.proofs.provenances.ProvenanceGraph.mark.Given as goal

-- what is told by the provenances from the place on is marked
abbrev pub invariant-loop-place : goal.invariant-loop-place
invariant-loop-place l = record {
  room : length l.marks ≡ length l.self.provenances;
  within : l.place ≤ l.last + 1;
  marked : AreMarked l.self.provenances l.last l.place l.marks;
}

abbrev pub decreases-loop-place : goal.decreases-loop-place
decreases-loop-place l = l.place
