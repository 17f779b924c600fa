use Rattle.mv_edges.proofs.Common.{◌-◌, ◌∙◌, ◌≡◌, Some, length, slice_get, subst, sym, true, are_ascending}
use Rattle.mv_edges.proofs.Sorting.{ascending-push_some}
use Rattle.mv_edges.proofs.edges.Edges.ascend_with.Goals as goal

pub returns-in-Some : goal.returns-in-Some
returns-in-Some c =
    let same = c.deref.ensures.value ∙ c.self.view_is in
    let last = c.in-Some.last.now in
    let is_last = subst (λ es. slice_get es (length es - 1) ≡ Some last) same (sym c.in-Some.ensures.value) in
    let ascending = subst (λ es. are_ascending es ≡ true) c.self.view_is c.self.invariant.0 in
    c.is_before.ensures ∙ sym (ascending-push_some c.args.self.now c.args.e.now last is_last ascending)
