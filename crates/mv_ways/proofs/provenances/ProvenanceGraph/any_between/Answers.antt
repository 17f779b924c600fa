use Rattle.mv_edges.proofs.Common.{◌∙◌, sym}
use Rattle.mv_ways.proofs.ProvenanceGraph.Asked.{sourceless, unreferred}
use Rattle.mv_ways.proofs.provenances.ProvenanceGraph.any_between.Goals as goal
use Rattle.mv_ways.proofs.provenances.ProvenanceGraph.any_between.Goals.{then-not-has_source-via-then-not-has_source, then-not-has_source-via-else-not-has_source+then-not-has_reference}

pub returns-then-not-has_source : goal.returns-then-not-has_source
returns-then-not-has_source g c =
    let it = c.args.self.now in
    let from = g.P.NodeSet.test c.args.from.now in
    let to = g.Q.NodeSet.test c.args.to.now in
    elim c.then-not-has_source.branch [
      | then-not-has_source-via-then-not-has_source w ↦ sym (sourceless it from to c.args.position (sym c.has_source.ensures ∙ w.if-not-has_source.true))
      | then-not-has_source-via-else-not-has_source+then-not-has_reference w ↦ sym (unreferred it from to c.args.position (sym w.has_reference.ensures.value ∙ w.if-not-has_reference.true))
    ]
