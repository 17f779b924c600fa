use Rattle.mv_linker.proofs.Common.{ℕ, ◌<◌, ◌∙◌, ◌≡◌, AreHandlePlaces, List, Module, New, Some, ap, arith, get_or, length, length-map, modules_in, offered, places_in, refl, same_Some, slice_get, slice_get-get_or, slice_get_read, subst, sym, tables_in}
use Rattle.mv_linker.specs.DependencyGraph.{AreNeeds}
use Rattle.mv_linker.proofs.Joining.Bundled.{bundle-at}
use Rattle.mv_linker.proofs.Joining.Joins.{placed-length}
use Rattle.mv_linker.proofs.Cycles.DependencyLemmas.{none-yet, one-more, all-found}
use Rattle.mv_linker.proofs.Cycles.Depends.{others-below}
use Rattle.mv_linker.proofs.Lemmas.{differ-result, element_at}
use Rattle.mv_linker.proofs.rules.scope.Scope.dependencies.Goals as goal
use Rattle.mv_linker.proofs.rules.scope.Scope.dependencies.Goals.{After-deref}

pub loop-k-init : goal.loop-k-init
loop-k-init c = none-yet _ _ _ c.in_ok-all.ensures.items

pub index-requires : goal.index-requires
index-requires c = let s = c.args.self.now in omega (arith, placed-length s, s.places.ok.0, c.requires.names.len, length-map s.new.now (λ (n : New). n.module))

-- the next module of the bundle, and the places that its handles name
record Next (c : After-deref) : Type 0 where
  m : Module
  at : slice_get (offered c.args.self.now.new.now) c.loop-k.k ≡ Some m
  was_found : slice_get (modules_in c.args.self.now) c.index.result.now ≡ Some m
  handles : AreHandlePlaces (modules_in c.args.self.now) m c.deref.result.now

next : (c : After-deref) → Next c
next c =
    let s = c.args.self.now in
    let k = c.loop-k.k in
    let own = c.index.result.now in
    let n = get_or c.args.names.now k c.index-names-k.result in
    let m = element_at (offered s.new.now) k (omega (arith, c.loop-k-test.true, c.requires.names.len)) in
    let low : k < length s.places.items = omega (arith, c.loop-k-test.true, placed-length s, c.requires.names.len, length-map s.new.now (λ (n : New). n.module)) in
    let placed : slice_get (places_in (tables_in s.store.now) (offered s.new.now)) k ≡ Some own =
    ap (λ l. slice_get l k) (sym s.placed) ∙ slice_get_read s.places.items (length s.places.items) k own refl low c.index.ensures in
    record {
      m = m.0;
      at = m.1;
      was_found = bundle-at (tables_in s.store.now) (offered s.new.now) k own m.0 s.once m.1 placed;
      handles =
          subst (λ (l : List ℕ). AreHandlePlaces (modules_in s) m.0 l) (sym c.deref.ensures.value)
          (c.requires.names.each k m.0 n m.1 (slice_get-get_or c.args.names.now k c.index-names-k.result c.loop-k-test.true)).places;
    }

pub needs_of-requires : goal.needs_of-requires
needs_of-requires c =
    let s = c.args.self.now in
    let x = next (goal.at.needs_of-requires c).After-deref in
    others-below (modules_in s) x.m c.index.result.now c.deref.result.now x.was_found (differ-result (tables_in s.store.now) (offered s.new.now) c.requires.store.once) x.handles c.args.self.now.few

pub loop-k-preserved : goal.loop-k-preserved
loop-k-preserved c =
    let s = c.args.self.now in
    let x = next (goal.at.loop-k-preserved c).After-deref in
    let is = c.in_ok-needs_of.ensures (modules_in s) x.m x.was_found (differ-result (tables_in s.store.now) (offered s.new.now) c.requires.store.once) x.handles in
    one-more _ _ _ _ _ c.in_ok-needs_of.field-0 c.loop-k.invariant c.in_ok-push.ensures.items
    (λ (m : Module) at. subst (λ (n : Module). AreNeeds (modules_in s) n c.in_ok-needs_of.field-0) (same_Some x.m m (sym x.at ∙ at)) is)

pub returns : goal.returns
returns c = all-found _ _ _ _ c.loop-k.invariant (omega (arith, c.requires.names.len))
