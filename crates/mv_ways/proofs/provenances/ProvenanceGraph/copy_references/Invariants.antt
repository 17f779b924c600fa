use Rattle.mv_edges.proofs.Common.{◌≡◌, take}
use Rattle.mv_ways.specs.Provenances.{copied, with_references}
use Rattle.mv_ways.proofs.provenances.ProvenanceGraph.copy_references.Given as goal

abbrev pub invariant-loop-place : goal.invariant-loop-place
invariant-loop-place l = l.self ≡ with_references (copied l.old l.new (take l.place l.fn.self.references)) l.fn.self
