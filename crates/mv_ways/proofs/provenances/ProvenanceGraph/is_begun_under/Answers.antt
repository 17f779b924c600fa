use Rattle.mv_edges.proofs.Common.{◌∙◌, ap, edges_leq}
use Rattle.mv_ways.specs.Derived.{begun_open}
use Rattle.mv_ways.proofs.ProvenanceGraph.Under.{told_under}
use Rattle.mv_ways.proofs.provenances.ProvenanceGraph.is_begun_under.Goals as goal

pub returns : goal.returns
returns c =
    let told = begun_open c.args.self.now c.args.to c.args.provenance.now in
    c.holds.ensures ∙ told_under c.of-under.result c.tell_begun-more.new.sink told c.tell_begun-more.result c.tell_begun-more.ensures c.of-under.ensures.holds ∙ ap (edges_leq told) c.of-under.ensures.others
