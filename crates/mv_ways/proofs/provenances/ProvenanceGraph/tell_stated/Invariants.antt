use Rattle.mv_edges.proofs.Common.{◌∷◌, [], take}
use Rattle.mv_ways.specs.Behind.{a_tail, edges_with}
use Rattle.mv_ways.proofs.provenances.ProvenanceGraph.tell_stated.Given as goal

abbrev pub invariant-loop-origin : goal.invariant-loop-origin
invariant-loop-origin g l =
    g.S.Sink.after l.fn.sink (edges_with l.self.sources l.to (take l.origin-index l.origins) (a_tail (record { path = l.path; is_open = l.is_open }) ∷ [])) l.sink
