use Rattle.mv_edges.proofs.Common.{◌≡◌, subst, sym, true, are_ascending}
use Rattle.mv_edges.proofs.Sorting.{ascending-sorted}
use Rattle.mv_edges.proofs.edges.Edges.of_unordered.Goals as goal

pub of_items-requires : goal.of_items-requires
of_items-requires c = subst (λ es. are_ascending es ≡ true) (sym c.in_ok-put_in_order.ensures.ok) (ascending-sorted c.args.items.items)
