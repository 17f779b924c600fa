use Rattle.mv_edges.proofs.Common.{◌≡◌, length, true}
use Rattle.mv_ways.specs.Derived.{derived_edges}
use Rattle.mv_ways.specs.Telling.{given_edges}
use Rattle.mv_ways.proofs.provenances.ProvenanceGraph.tell_given.Given as goal

-- the edges of the first provenances were told
abbrev pub invariant-loop-place : goal.invariant-loop-place
invariant-loop-place g l =
    (length l.room ≡ length l.self.provenances) × g.S.Sink.after l.fn.sink (given_edges (derived_edges l.self l.to true) l.marks l.place) l.sink
