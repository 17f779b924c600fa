use Rattle.mv_edges.proofs.Common.{◌&&◌, ◌≡◌, false, here, list_any, take}
use Rattle.mv_ways.specs.declared.provenances.Reference.{Reference}
use Rattle.mv_ways.specs.Provenances.{all_origins, origins_at}
use Rattle.mv_ways.specs.Asking.{origins_pass}
use Rattle.mv_ways.proofs.provenances.ProvenanceGraph.any_noted.Given as goal

abbrev pub invariant-loop-r : goal.invariant-loop-r
invariant-loop-r g l =
    list_any (λ (r : Reference). g.Q.NodeSet.test l.to r.node && origins_pass l.self.sources (g.P.NodeSet.test l.fn.from) l.fn.position here (origins_at (all_origins l.self.provenances) r.provenance))
    (take l.r-index l.self.references) ≡ false
