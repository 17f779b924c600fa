use Rattle.mv_edges.proofs.Common.{◌++◌, ◌∙◌, ◌≡◌, ap, longest, subst, sym, true, are_ascending}
use Rattle.mv_edges.proofs.Sorting.{ascending-sorted}
use Rattle.mv_edges.proofs.edges.Edges.add_all.Goals as goal

pub invariant_of-self-2 : goal.invariant_of-self-2
invariant_of-self-2 c =
    (subst (λ es. are_ascending es ≡ true) (sym c.in_ok-add_in_order.ensures.ok) (ascending-sorted (c.self.inside.items.items ++ c.into_items.result.items)), c.longest_of-self-inside.ensures ∙ ap longest c.deref.ensures.value)
