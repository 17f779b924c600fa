use Rattle.mv_edges.proofs.Common.{◌∙◌, ◌≡◌, ap, subst, sym, true}
use Rattle.mv_ways.specs.Provenances.{ProvenanceGraph, are_below, edges_of}
use Rattle.mv_ways.proofs.ProvenanceGraph.Kept.{edges_forgotten, edges_of-kept}
use Rattle.mv_ways.proofs.provenances.ProvenanceGraph.trim.Goals as goal

pub returns-then-count-eq0 : goal.returns-then-count-eq0
returns-then-count-eq0 c =
    let count = c.count_used-count.result in
    let below : are_below count c.keep_provenances.new.self.references ≡ true =
    subst (λ (g : ProvenanceGraph). are_below count g.references ≡ true) (sym c.keep_provenances.ensures) c.count_used-count.ensures.below in
    edges_forgotten count c.keep_provenances.new.self c.forget_sources.new.self below c.if-count-eq0.true c.forget_sources.ensures
    ∙ ap edges_of c.keep_provenances.ensures
    ∙ edges_of-kept c.args.self.now count c.count_used-count.ensures.most c.count_used-count.ensures.below

pub returns-else-count-eq0 : goal.returns-else-count-eq0
returns-else-count-eq0 c =
    ap edges_of c.keep_provenances.ensures
    ∙ edges_of-kept c.args.self.now c.count_used-count.result c.count_used-count.ensures.most c.count_used-count.ensures.below
