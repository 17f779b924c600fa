use Rattle.mv_edges.proofs.Common.{◌∙◌, ◌≡◌, Contains, ap, longest, subst, sym, true, are_ascending}
use Rattle.mv_edges.proofs.Searches.{contains_at}
use Rattle.mv_edges.proofs.Sorting.{inserted_missing, inserted_again, ascending-inserted, sorted_push}
use Rattle.mv_edges.proofs.edges.Edges.insert.Goals as goal

pub invariant_of-self-in-Err : goal.invariant_of-self-in-Err
invariant_of-self-in-Err c =
    let es = c.args.self.now in
    let e = c.args.e in
    let items = inserted_missing es e c.view-view.result c.in-Err.place c.insert.new.self.items c.self.inside.items.items c.view-view.ensures c.in-Err.ensures.before c.in-Err.ensures.after c.in_ok-insert-in-Err.ensures.items c.self.view_is in
    let ascending = subst (λ xs. are_ascending xs ≡ true) c.self.view_is c.self.invariant.0 in
    (subst (λ xs. are_ascending xs ≡ true) (sym items) (ascending-inserted e es ascending), c.longest_of-self-inside.ensures ∙ ap longest c.deref.ensures.value)

pub returns-in_ok-insert-in-Err-clause-ok : goal.returns-in_ok-insert-in-Err-clause-ok
returns-in_ok-insert-in-Err-clause-ok c =
    inserted_missing c.args.self.now c.args.e c.view-view.result c.in-Err.place c.insert.new.self.items c.self.inside.items.items c.view-view.ensures c.in-Err.ensures.before c.in-Err.ensures.after c.in_ok-insert-in-Err.ensures.items c.self.view_is

pub returns-in_ok-insert-in-Err-clause-sorted : goal.returns-in_ok-insert-in-Err-clause-sorted
returns-in_ok-insert-in-Err-clause-sorted c =
    inserted_missing c.args.self.now c.args.e c.view-view.result c.in-Err.place c.insert.new.self.items c.self.inside.items.items c.view-view.ensures c.in-Err.ensures.before c.in-Err.ensures.after c.in_ok-insert-in-Err.ensures.items c.self.view_is
    ∙ sym (sorted_push c.args.self.now c.args.e (subst (λ xs. are_ascending xs ≡ true) c.self.view_is c.self.invariant.0))

pub returns-in-Ok-clause-ok : goal.returns-in-Ok-clause-ok
returns-in-Ok-clause-ok c =
    let es = c.args.self.now in
    let there = subst (λ x. Contains es x) c.view-view.ensures (contains_at es c.in-Ok.field-0 c.view-view.result c.in-Ok.ensures.found) in
    sym (inserted_again c.args.e es (subst (λ xs. are_ascending xs ≡ true) c.self.view_is c.self.invariant.0) there)

pub returns-in-Ok-clause-sorted : goal.returns-in-Ok-clause-sorted
returns-in-Ok-clause-sorted c = returns-in-Ok-clause-ok c ∙ sym (sorted_push c.args.self.now c.args.e (subst (λ xs. are_ascending xs ≡ true) c.self.view_is c.self.invariant.0))
