use Rattle.mv_edges.proofs.Common.{◌∙◌, ap, edges_leq}
use Rattle.mv_ways.specs.Derived.{derived_edges}
use Rattle.mv_ways.proofs.ProvenanceGraph.Under.{told_under}
use Rattle.mv_ways.proofs.provenances.ProvenanceGraph.is_derived_under.Goals as goal

pub returns : goal.returns
returns c =
    let told = derived_edges c.args.self.now c.args.to c.args.is_open c.args.end in
    c.holds.ensures ∙ told_under c.of-under.result c.tell_derived-more.new.sink told c.tell_derived-more.result c.tell_derived-more.ensures c.of-under.ensures.holds ∙ ap (edges_leq told) c.of-under.ensures.others
