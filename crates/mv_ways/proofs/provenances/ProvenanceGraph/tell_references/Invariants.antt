use Rattle.mv_edges.proofs.Common.{◌≡◌, flat_map, length, take}
use Rattle.mv_ways.specs.Telling.{edges_at}
use Rattle.mv_ways.proofs.provenances.ProvenanceGraph.tell_references.Given as goal

-- the edges of the first references were told
abbrev pub invariant-loop-reference : goal.invariant-loop-reference
invariant-loop-reference g l =
    (length l.marks ≡ length l.self.provenances)
    × (length l.room ≡ length l.self.provenances)
    × g.S.Sink.after l.fn.sink (flat_map (edges_at (g.N.NodeSet.test l.nodes) l.self) (take l.reference-index l.self.references)) l.sink
