use Rattle.mv_linker.proofs.Common.{◌<◌, ◌==◌, ◌∙◌, ◌≡◌, New, None, Some, ap, arith, length, length-map, offered, places_in, position, slice_get, slice_get-get_or, slice_get_within, sym, tables_in, true, get_or}
use Rattle.mv_bit_sets.specs.BitSets.{has}
use Rattle.mv_linker.proofs.Joining.Bundled.{no-newest, place-at}
use Rattle.mv_linker.proofs.Cycles.DependenciesStay.{bundled-dependencies, kept-those}
use Rattle.mv_linker.proofs.Joining.Joins.{placed-length}
use Rattle.mv_linker.proofs.Joining.Scopes.{kept-below}
use Rattle.mv_linker.proofs.rules.acyclic.Dependencies.needs_at.Goals as goal
use Rattle.mv_linker.proofs.rules.acyclic.Dependencies.needs_at.Goals.{In-Some, In-None}

was_found : (c : In-Some) → slice_get c.args.self.now.scope.now.places.items c.in-Some.k ≡ Some c.args.place
was_found c = place-at c.args.place c.in-Some.k c.args.self.now.scope.now.places.items (sym c.in-Some.ensures)

inside : (c : In-Some) → c.in-Some.k < length c.args.self.now.needed.now
inside c =
    let s = c.args.self.now.scope.now in
    let low = slice_get_within s.places.items c.in-Some.k c.args.place (was_found c) in
    omega (arith, low, placed-length s, c.args.self.now.are.len, length-map s.new.now (λ (n : New). n.module))

none-placed : (c : In-None) → position (λ p. p == c.args.place) (places_in (tables_in c.args.self.now.scope.now.store.now) (offered c.args.self.now.scope.now.new.now)) ≡ None
none-placed c = ap (position (λ p. p == c.args.place)) (sym c.args.self.now.scope.now.placed) ∙ sym c.in-None.ensures

pub offset_bounds-self-k : goal.offset_bounds-self-k
offset_bounds-self-k c = let low = inside (goal.at.offset_bounds-self-k c).In-Some in grind (arith, low)

pub bounds-self-k : goal.bounds-self-k
bounds-self-k c = inside (goal.at.bounds-self-k c).In-Some

pub needs_at-requires : goal.needs_at-requires
needs_at-requires c =
    let s = c.args.self.now.scope.now in
    kept-below s.store.now (offered s.new.now) c.args.place (no-newest (tables_in s.store.now) (offered s.new.now) c.args.place (none-placed (goal.at.needs_at-requires c).In-None)) c.requires.place

pub returns-in-Some : goal.returns-in-Some
returns-in-Some c m m_at =
    let s = c.args.self.now.scope.now in
    let i = (goal.at.returns-in-Some c).In-Some in
    let d = get_or c.args.self.now.needed.now c.in-Some.k c.index-self-k.result in
    (bundled-dependencies (tables_in s.store.now) (offered s.new.now) c.requires.store.once s.once c.requires.store.links c.args.self.now.needed.now c.args.self.now.are c.in-Some.k c.args.place d
    (ap (λ l. slice_get l c.in-Some.k) (sym s.placed) ∙ was_found i) (slice_get-get_or c.args.self.now.needed.now c.in-Some.k c.index-self-k.result (inside i)) m m_at)

pub returns-in-None : goal.returns-in-None
returns-in-None c =
    let s = c.args.self.now.scope.now in
    kept-those (tables_in s.store.now) (offered s.new.now) c.requires.store.once s.once c.requires.store.links c.args.place (λ j. has c.needs_at.result.now j ≡ true)
    (none-placed (goal.at.returns-in-None c).In-None) c.needs_at.ensures
