use Rattle.mv_edges.proofs.Common.{◌≡◌, take}
use Rattle.mv_ways.specs.Provenances.{with_references}
use Rattle.mv_ways.proofs.provenances.ProvenanceGraph.push_references.Given as goal

abbrev pub invariant-loop-r : goal.invariant-loop-r
invariant-loop-r l = l.self ≡ with_references (take l.r-index l.references) l.fn.self
