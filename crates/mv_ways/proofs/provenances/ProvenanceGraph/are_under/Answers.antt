use Rattle.mv_edges.proofs.Common.{◌<◌, ◌∙◌, ◌≡◌, ◌≤◌, ap, arith, edges_leq, false, get_or, length, list_all, subst, sym, take_all, Slot}
use Rattle.std.proofs.lemmas.List.Folds.{list_all_at}
use Rattle.mv_ways.specs.declared.provenances.Reference.{Reference}
use Rattle.mv_ways.specs.Provenances.{all_origins, reference_edges}
use Rattle.mv_ways.proofs.ProvenanceGraph.Under.{leq_each_of}
use Rattle.mv_ways.proofs.provenances.ProvenanceGraph.are_under.Goals as goal

pub returns-then-not-is_reference_under : goal.returns-then-not-is_reference_under
returns-then-not-is_reference_under c =
    let g = c.args.self.now in
    let others = c.args.others.now in
    let i = c.loop-reference.reference-index in
    let d : Reference = record { node = Slot 0; provenance = 0 } in
    let same = c.references-reference-items.ensures.value in
    let long = ap length same in
    let test = c.loop-reference-test.true in
    let inside : i < length g.references = omega (arith, long, test) in
    let fails : edges_leq (reference_edges g.sources (all_origins g.provenances) (get_or c.references-reference-items.result.now i d)) others ≡ false = sym c.is_reference_under.ensures ∙ c.if-not-is_reference_under.true in
    sym (leq_each_of (reference_edges g.sources (all_origins g.provenances)) others g.references
    ∙ list_all_at (λ r. edges_leq (reference_edges g.sources (all_origins g.provenances) r) others) g.references i d inside
    (subst (λ rs. edges_leq (reference_edges g.sources (all_origins g.provenances) (get_or rs i d)) others ≡ false) same fails))

pub returns : goal.returns
returns c =
    let g = c.args.self.now in
    let others = c.args.others.now in
    let i = c.loop-reference.reference-index in
    let same = c.references-reference-items.ensures.value in
    let long = ap length same in
    let test = c.loop-reference-test.false in
    let end : length g.references ≤ i = omega (arith, long, test) in
    sym (leq_each_of (reference_edges g.sources (all_origins g.provenances)) others g.references
    ∙ ap (list_all (λ r. edges_leq (reference_edges g.sources (all_origins g.provenances) r) others)) (sym (take_all i g.references end))
    ∙ c.loop-reference.invariant.under)
