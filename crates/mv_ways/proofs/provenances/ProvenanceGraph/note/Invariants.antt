use Rattle.mv_edges.proofs.Common.{◌≡◌, length}
use Rattle.mv_ways.specs.Asking.{AreNoted}
use Rattle.mv_ways.proofs.provenances.ProvenanceGraph.note.Given as goal

abbrev pub invariant-loop-place : goal.invariant-loop-place
invariant-loop-place g l = record {
  count : length l.noted ≡ length l.initial.noted;
  noted : AreNoted l.self (g.P.NodeSet.test l.from) l.position l.place l.noted;
}
