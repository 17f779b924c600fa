use Rattle.mv_linker.proofs.Common.{◌<◌, ◌∙◌, ℕ, ◌≡◌, ◌≤◌, List, New, PublishedModule, Some, ap, arith, both_ways, false, get_or, length, length-map, modules_in, offered, refl, slice_get, slice_get-get_or, slice_get_read, sym, tables_in}
use Rattle.mv_bit_sets.specs.BitSets.{IsOutside, IsWithin}
use Rattle.mv_linker.specs.ScopeDependencies.{AreNeedsAt}
use Rattle.mv_linker.proofs.Joining.Joins.{placed-length}
use Rattle.mv_linker.proofs.Cycles.DependenciesStay.{bundled-dependencies, place-there}
use Rattle.mv_linker.proofs.Cycles.Finished.{each-all, each-more, gained, gains-none, gains-nothing, gains-past, next-none, next-some}
use Rattle.mv_linker.proofs.rules.acyclic.Dependencies.gains_nothing.Goals as goal
use Rattle.mv_linker.proofs.rules.acyclic.Dependencies.gains_nothing.Goals.{After-index-place}

-- the place of the next module of the bundle
was_found : (c : After-index-place) → slice_get c.args.self.now.scope.now.places.items c.loop-k.k ≡ Some c.index-place.result.now
was_found c =
    let places = c.args.self.now.scope.now.places in
    slice_get_read places.items (length places.items) c.loop-k.k c.index-place.result.now refl (omega (arith, c.loop-k-test.true, c.len-k-end.ensures, places.ok.0)) c.index-place.ensures

inside : (c : After-index-place) → c.loop-k.k < length c.args.self.now.needed.now
inside c =
    let s = c.args.self.now.scope.now in
    omega (arith, c.loop-k-test.true, c.len-k-end.ensures, s.places.ok.0, placed-length s, c.args.self.now.are.len, length-map s.new.now (λ (n : New). n.module))

-- what it depends on
new-needs : (c : After-index-place) (d : List ℕ) → AreNeedsAt (modules_in c.args.self.now.scope.now) c.index-place.result.now (get_or c.args.self.now.needed.now c.loop-k.k d)
new-needs c d m m_at =
    let s = c.args.self.now.scope.now in
    let fits = c.requires in
    (bundled-dependencies (tables_in s.store.now) (offered s.new.now) fits.store.once fits.once fits.store.links c.args.self.now.needed.now c.args.self.now.are c.loop-k.k c.index-place.result.now (get_or c.args.self.now.needed.now c.loop-k.k d)
    (ap (λ l. slice_get l c.loop-k.k) (sym s.placed) ∙ was_found c) (slice_get-get_or c.args.self.now.needed.now c.loop-k.k d (inside c)) m m_at)

pub offset_bounds-self-k : goal.offset_bounds-self-k
offset_bounds-self-k c = let low = inside (goal.at.offset_bounds-self-k c).After-index-place in grind (arith, low)

pub bounds-self-k : goal.bounds-self-k
bounds-self-k c = inside (goal.at.bounds-self-k c).After-index-place

pub returns-then-is_some : goal.returns-then-is_some
returns-then-is_some c =
    let s = c.args.self.now.scope.now in
    let fits = c.requires in
    let i = (goal.at.returns-then-is_some c).After-index-place in
    let place = c.index-place.result.now in
    let new = get_or c.args.self.now.needed.now c.loop-k.k c.index-self-k.result in
    let those = new-needs i c.index-self-k.result in
    let q = next-some _ (IsOutside 0 new c.needs_at-old.result.now) c.outside.result (sym c.is_some.ensures ∙ c.if-is_some.true) c.outside.ensures in
    let there = place-there (tables_in s.store.now) (offered s.new.now) fits.once c.loop-k.k place (ap (λ l. slice_get l c.loop-k.k) (sym s.placed) ∙ was_found i) in
    let low : c.index-place.result.now < length (tables_in s.store.now) = omega (arith, c.if-place-len.false, c.len.ensures.count, length-map s.store.now (λ (p : PublishedModule). p.tables)) in
    (λ e. absurd (both_ways false refl e), λ nothing. absurd (gained (tables_in s.store.now) (offered s.new.now) fits.store.once place q.0 c.needs_at-old.result.now new low there c.needs_at-old.ensures those q.1 nothing))

pub loop-k-preserved-then-place-len : goal.loop-k-preserved-then-place-len
loop-k-preserved-then-place-len c =
    let s = c.args.self.now.scope.now in
    let i = (goal.at.loop-k-preserved-then-place-len c).After-index-place in
    let past : length (tables_in s.store.now) ≤ c.index-place.result.now = omega (arith, c.if-place-len.true, c.len.ensures.count, length-map s.store.now (λ (p : PublishedModule). p.tables)) in
    each-more s.places.items c.loop-k.k c.index-place.result.now c.loop-k.invariant (was_found i)
    (gains-past (tables_in s.store.now) (offered s.new.now) c.requires.store.once c.index-place.result.now past)

pub loop-k-preserved : goal.loop-k-preserved
loop-k-preserved c =
    let s = c.args.self.now.scope.now in
    let i = (goal.at.loop-k-preserved c).After-index-place in
    let new = get_or c.args.self.now.needed.now c.loop-k.k c.index-self-k.result in
    let those = new-needs i c.index-self-k.result in
    let within = next-none (IsWithin 0 new c.needs_at-old.result.now) _ c.outside.result (sym c.is_some.ensures ∙ c.if-is_some.false) c.outside.ensures in
    let low : c.index-place.result.now < length (tables_in s.store.now) = omega (arith, c.if-place-len.false, c.len.ensures.count, length-map s.store.now (λ (p : PublishedModule). p.tables)) in
    each-more s.places.items c.loop-k.k c.index-place.result.now c.loop-k.invariant (was_found i)
    (gains-none (tables_in s.store.now) (offered s.new.now) c.requires.store.once c.index-place.result.now c.needs_at-old.result.now new low c.needs_at-old.ensures those within)

pub returns : goal.returns
returns c =
    let s = c.args.self.now.scope.now in
    let store = c.requires.store in
    let all = each-all s.places.items c.loop-k.k c.loop-k.invariant (omega (arith, c.loop-k-test.false, c.len-k-end.ensures, s.places.ok.0)) in
    (λ yes. gains-nothing (tables_in s.store.now) (offered s.new.now) store.once store.links (λ k p at. all k p (ap (λ l. slice_get l k) s.placed ∙ at)), λ nothing. refl)
