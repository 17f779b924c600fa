use Rattle.mv_edges.proofs.Common.{take}
use Rattle.mv_ways.specs.Asking.{SaysOf}
use Rattle.mv_ways.proofs.provenances.ProvenanceGraph.origins_passing.Given as goal

abbrev pub invariant-loop-origin : goal.invariant-loop-origin
invariant-loop-origin g l = SaysOf l.self.sources (g.P.NodeSet.test l.from) l.position l.passing (take l.origin-index l.origins)
