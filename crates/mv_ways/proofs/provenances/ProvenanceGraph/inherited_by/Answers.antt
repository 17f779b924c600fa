use Rattle.mv_edges.proofs.Common.{◌<◌, ◌∙◌, ◌≡◌, ap, arith, length, subst, sym}
use Rattle.mv_ways.specs.declared.provenances.Reference.{Reference}
use Rattle.mv_ways.specs.Provenances.{ProvenanceGraph, HasMoreProvenances, IsGivenBy, a_reference, edges_of}
use Rattle.mv_ways.proofs.ProvenanceGraph.Kept.{same_provenances}
use Rattle.mv_ways.proofs.ProvenanceGraph.Tying.{AreGiven, given_below, given_edges, reborrow_again, reborrow_anew, node_of_reborrow, one_given}
use Rattle.mv_ways.proofs.provenances.ProvenanceGraph.inherited_by.Goals as goal
use Rattle.mv_ways.proofs.provenances.ProvenanceGraph.inherited_by.Goals.{in-Some, in-None+in_ok-provenance-in-None}

pub loop-place-preserved : goal.loop-place-preserved
loop-place-preserved c =
    let g = c.args.self.now in
    let reborrows = c.args.reborrows.now in
    let i = c.loop-place.place in
    let mid = c.loop-place.self in
    let after = c.match-first_alike.self in
    let provenance = c.match-first_alike.provenance in
    let inside : i < length reborrows = c.loop-place-test.true in
    let reborrow = c.index-reborrows-place-in-loop-place.result in
    let node = node_of_reborrow reborrows i c.node-node.result reborrow inside c.index-reborrows-place-in-loop-place.is c.node-node.ensures in
    let r : Reference = a_reference c.node-node.result provenance in
    elim c.match-first_alike.branch [
      | in-Some w ↦
          record {
            kept = ap edges_of w.self-is ∙ c.loop-place.invariant.kept;
            given = one_given g mid after reborrows i c.loop-place.new.items c.push.new.self.items r c.loop-place.invariant.given (subst (HasMoreProvenances mid) (sym w.self-is) (same_provenances mid)) inside
                c.in_ok-push.ensures.items node
                (reborrow_again g mid after reborrows i w.in-Some.before c.loop-place.new.items provenance w.index.result.now c.loop-place.invariant.given w.in-Some.ensures.before w.in-Some.ensures.alike w.self-is
                (w.provenance-is ∙ w.provenance-provenance.ensures ∙ ap (λ (x : Reference). x.provenance) w.index.ensures));
          }
      | in-None+in_ok-provenance-in-None w ↦
          record {
            kept = ap edges_of w.self-is ∙ w.in_ok-provenance-in-None.ensures.kept ∙ c.loop-place.invariant.kept;
            given = one_given g mid after reborrows i c.loop-place.new.items c.push.new.self.items r c.loop-place.invariant.given (subst (HasMoreProvenances mid) (sym w.self-is) w.in_ok-provenance-in-None.ensures.more) inside
                c.in_ok-push.ensures.items node
                (reborrow_anew g mid after reborrows i w.givers.result.now provenance w.index-reborrows-place.result inside w.index-reborrows-place.is w.givers.ensures c.loop-place.invariant.kept
                (subst (λ (x : ProvenanceGraph). IsGivenBy mid x w.givers.result.now provenance) (sym w.self-is)
                (subst (λ k. IsGivenBy mid w.returned.new.self w.givers.result.now k) (sym w.provenance-is) w.in_ok-provenance-in-None.ensures.given)));
          }
    ]

pub returns-clause-below : goal.returns-clause-below
returns-clause-below c =
    let same : c.loop-place.place ≡ length c.args.reborrows.now = omega arith in
    given_below c.args.self.now c.loop-place.self c.args.reborrows.now c.loop-place.new.items
    (subst (λ k. AreGiven c.args.self.now c.loop-place.self c.args.reborrows.now k c.loop-place.new.items) same c.loop-place.invariant.given)

pub returns-clause-edges : goal.returns-clause-edges
returns-clause-edges c =
    let same : c.loop-place.place ≡ length c.args.reborrows.now = omega arith in
    given_edges c.args.self.now c.loop-place.self c.args.reborrows.now c.loop-place.new.items
    (subst (λ k. AreGiven c.args.self.now c.loop-place.self c.args.reborrows.now k c.loop-place.new.items) same c.loop-place.invariant.given)
