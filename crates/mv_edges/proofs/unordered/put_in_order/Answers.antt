use Rattle.mv_edges.proofs.Common.{◌∙◌, ◌≡◌, rules, subst, sym, true, are_ascending, edge_before, same_edge}
use Rattle.std.proofs.lemmas.List.Filters.{dedup_is}
use Rattle.std.proofs.lemmas.List.Sorted.{answers_always}
use Rattle.mv_edges.proofs.Comparisons.{order_before}
use Rattle.mv_edges.proofs.Sorting.{sorted-ascending}
use Rattle.mv_edges.proofs.Deduped.{edge_weak, deduped}
use Rattle.mv_edges.proofs.unordered.put_in_order.Goals as goal

pub returns-clause-ok : goal.returns-clause-ok
returns-clause-ok c =
    let rises = c.in_ok-sort_by.ensures.sorted edge_before edge_weak (answers_always _ _ _ (λ f a r g h. search (rules, order_before))) in
    dedup_is same_edge _ _ c.dedup.ensures.filtered ∙ deduped c.args.items.now.items c.sort_by.new.self.items c.in_ok-sort_by.ensures.permutation rises

pub returns-then-ascend-clause-ok : goal.returns-then-ascend-clause-ok
returns-then-ascend-clause-ok c = sym (sorted-ascending c.args.items.now.items (subst (λ es. are_ascending es ≡ true) c.deref.ensures.value (c.ascend.ensures c.if-ascend.true)))
