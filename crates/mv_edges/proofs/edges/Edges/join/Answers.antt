use Rattle.mv_edges.proofs.Common.{◌++◌, ◌∙◌, ◌≡◌, ap, subst, sym, true, are_ascending, IsJoin, sorted}
use Rattle.mv_edges.proofs.Order.{join-sorted}
use Rattle.mv_edges.proofs.Sorting.{ascending-sorted}
use Rattle.mv_edges.proofs.edges.Edges.join.Goals as goal

pub of_items-requires : goal.of_items-requires
of_items-requires c = subst (λ es. are_ascending es ≡ true) (sym c.in_ok-items.ensures) (ascending-sorted (c.as_slice-left.result.now ++ c.as_slice-right.result.now))

pub returns-clause-least : goal.returns-clause-least
returns-clause-least c =
    let a = c.args.a.now in
    let b = c.args.b.now in
    let union : c.in_ok-items.items.items ≡ sorted (a ++ b) =
    c.in_ok-items.ensures ∙ ap (λ es. sorted (es ++ c.as_slice-right.result.now)) c.as_slice-left.ensures.value ∙ ap (λ es. sorted (a ++ es)) c.as_slice-right.ensures.value in
    subst (λ s. IsJoin a b s) (sym (c.of_items.ensures ∙ union)) (join-sorted a b)
