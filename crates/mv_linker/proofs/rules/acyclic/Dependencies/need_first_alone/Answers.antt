use Rattle.mv_linker.proofs.Common.{[], ℕ, ◌∙◌, ◌≡◌, List, Some, ap, arith, both_ways, false, length, modules_in, offered, refl, slice_get, slice_get_read, subst, sym, tables_in}
use Rattle.mv_linker.specs.Finished.{IsNext, LeadsToFinished}
use Rattle.mv_linker.proofs.Cycles.DependenciesStay.{place-there}
use Rattle.mv_linker.proofs.Cycles.Finished.{each-all, each-more, next-none, next-some}
use Rattle.mv_linker.proofs.rules.acyclic.Dependencies.need_first_alone.Goals as goal
use Rattle.mv_linker.proofs.rules.acyclic.Dependencies.need_first_alone.Goals.{After-index}

was_found : (c : After-index) → slice_get c.args.self.now.scope.now.places.items c.loop-k.k ≡ Some c.index.result.now
was_found c =
    let places = c.args.self.now.scope.now.places in
    slice_get_read places.items (length places.items) c.loop-k.k c.index.result.now refl (omega (arith, c.loop-k-test.true, c.len-k-end.ensures, places.ok.0)) c.index.ensures

pub next_after-requires-clause-place : goal.next_after-requires-clause-place
next_after-requires-clause-place c =
    let s = c.args.self.now.scope.now in
    place-there (tables_in s.store.now) (offered s.new.now) s.once c.loop-k.k c.index.result.now (ap (λ l. slice_get l c.loop-k.k) (sym s.placed) ∙ was_found (goal.at.next_after-requires-clause-place c).After-index)

pub returns-then-is_some : goal.returns-then-is_some
returns-then-is_some c =
    let at = was_found (goal.at.returns-then-is_some c).After-index in
    let next = next-some _ _ c.next_after.result (sym c.is_some.ensures ∙ c.if-is_some.true) c.next_after.ensures in
    let leads : IsNext (modules_in c.args.self.now.scope.now) c.args.base [] c.index.result.now next.0 =
    subst (λ (l : List ℕ). IsNext (modules_in c.args.self.now.scope.now) c.args.base l c.index.result.now next.0) c.new-none.ensures next.1 in
    (λ e. absurd (both_ways false refl e), λ all. absurd (leads.unfinished (all c.loop-k.k c.index.result.now at next.0 leads.leads)))

pub loop-k-preserved : goal.loop-k-preserved
loop-k-preserved c =
    let at = was_found (goal.at.loop-k-preserved c).After-index in
    let all = next-none _ _ c.next_after.result (sym c.is_some.ensures ∙ c.if-is_some.false) c.next_after.ensures in
    each-more c.args.self.now.scope.now.places.items c.loop-k.k c.index.result.now c.loop-k.invariant at
    (subst (λ (l : List ℕ). LeadsToFinished (modules_in c.args.self.now.scope.now) c.args.base l c.index.result.now) c.new-none.ensures all)

pub returns : goal.returns
returns c =
    let places = c.args.self.now.scope.now.places in
    (λ yes. each-all places.items c.loop-k.k c.loop-k.invariant (omega (arith, c.loop-k-test.false, c.len-k-end.ensures, places.ok.0)), λ all. refl)
