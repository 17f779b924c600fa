use Rattle.mv_edges.proofs.Common.{flat_map, take, opened}
use Rattle.mv_ways.specs.Provenances.{all_origins, changed_origins, origins_at}
use Rattle.mv_ways.specs.Asking.{SaysOf}
use Rattle.mv_ways.proofs.provenances.ProvenanceGraph.returned_passing.Given as goal

abbrev pub invariant-loop-over : goal.invariant-loop-over
invariant-loop-over g l = SaysOf l.self.sources (g.P.NodeSet.test l.from) l.fn.position l.passing (flat_map (λ k. changed_origins opened (origins_at (all_origins l.self.provenances) k)) (take l.over-index l.provenances))
