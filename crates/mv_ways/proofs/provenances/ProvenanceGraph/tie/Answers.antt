use Rattle.mv_edges.proofs.Common.{◌∙◌, ◌≡◌, List, ap, length, subst, sym, true}
use Rattle.mv_ways.specs.declared.provenances.Reference.{Reference}
use Rattle.mv_ways.specs.declared.provenances.Provenance.{Provenance}
use Rattle.mv_ways.specs.Provenances.{ProvenanceGraph, are_below, with_references}
use Rattle.mv_ways.proofs.ProvenanceGraph.Tying.{tied_edges, provenances-gone_each}
use Rattle.mv_ways.proofs.provenances.ProvenanceGraph.tie.Goals as goal

pub push_references-requires : goal.push_references-requires
push_references-requires c =
    let same = ap (λ (g : ProvenanceGraph). g.provenances) c.remove_each.ensures ∙ provenances-gone_each c.args.taken.now c.inherited_by.new.self in
    subst (λ (ws : List Provenance). are_below (length ws) c.deref.result.now ≡ true) (sym same)
    (subst (λ (rs : List Reference). are_below (length c.inherited_by.new.self.provenances) rs ≡ true) (sym c.deref.ensures.value) c.in_ok-new.ensures.below)

pub returns : goal.returns
returns c =
    tied_edges c.args.taken.now c.args.reborrows.now c.in_ok-new.new.items c.args.self.now c.inherited_by.new.self c.remove_each.new.self c.push_references.new.self c.trim.new.self
    (sym c.any_between.ensures ∙ c.if-any_between.false) c.in_ok-new.ensures.kept c.in_ok-new.ensures.edges c.remove_each.ensures
    (c.in_ok-push_references.ensures ∙ ap (λ rs. with_references rs c.remove_each.new.self) c.deref.ensures.value) c.trim.ensures
