use Rattle.mv_linker.proofs.Common.{◌<◌, ◌∙◌, ◌≡◌, None, New, ap, arith, length, length-map, offered, refl, slice_get_read, slice_get_within, sym, tables_in, ◌==◌, places_in, position}
use Rattle.mv_linker.proofs.Joining.Bundled.{no-newest, place-at}
use Rattle.mv_linker.proofs.Joining.FoundLemmas.{kept-found, new-found}
use Rattle.mv_linker.proofs.Joining.Joins.{placed-length}
use Rattle.mv_linker.proofs.Joining.Scopes.{kept-below}
use Rattle.mv_linker.proofs.rules.scope.Scope.found.Goals as goal

pub offset_bounds-self-k : goal.offset_bounds-self-k
offset_bounds-self-k c =
    let s = c.args.self.now in
    let low : c.in-Some.k < length s.places.items = slice_get_within s.places.items c.in-Some.k c.args.place (place-at c.args.place c.in-Some.k s.places.items (sym c.in-Some.ensures)) in
    omega (arith, low, placed-length s)

pub bounds-self-k : goal.bounds-self-k
bounds-self-k c =
    let s = c.args.self.now in
    let low : c.in-Some.k < length s.places.items = slice_get_within s.places.items c.in-Some.k c.args.place (place-at c.args.place c.in-Some.k s.places.items (sym c.in-Some.ensures)) in
    omega (arith, low, placed-length s)

pub offset_bounds-outlines-k : goal.offset_bounds-outlines-k
offset_bounds-outlines-k c =
    let s = c.args.self.now in
    let low : c.in-Some.k < length s.places.items = slice_get_within s.places.items c.in-Some.k c.args.place (place-at c.args.place c.in-Some.k s.places.items (sym c.in-Some.ensures)) in
    omega (arith, low, placed-length s, length-map s.new.now (λ (x : New). x.module), c.requires.outlines.len)

pub bounds-outlines-k : goal.bounds-outlines-k
bounds-outlines-k c =
    let s = c.args.self.now in
    let low : c.in-Some.k < length s.places.items = slice_get_within s.places.items c.in-Some.k c.args.place (place-at c.args.place c.in-Some.k s.places.items (sym c.in-Some.ensures)) in
    omega (arith, low, placed-length s, length-map s.new.now (λ (x : New). x.module), c.requires.outlines.len)

pub interface-requires : goal.interface-requires
interface-requires c =
    let s = c.args.self.now in
    let old = tables_in s.store.now in
    let none : position (λ p. p == c.args.place) (places_in old (offered s.new.now)) ≡ None = ap (position (λ p. p == c.args.place)) (sym s.placed) ∙ sym c.in-None.ensures in
    kept-below s.store.now (offered s.new.now) c.args.place (no-newest old (offered s.new.now) c.args.place none) c.requires.place

pub returns-in-None : goal.returns-in-None
returns-in-None c n at = kept-found c.args.self.now c.requires.fits c.args.place n at c.interface.result.now (sym c.in-None.ensures) c.interface.ensures

pub returns-in-Some : goal.returns-in-Some
returns-in-Some c n at =
    let s = c.args.self.now in
    let k = c.in-Some.k in
    let x = c.index-self-k.result in
    let o = c.index-outlines-k.result in
    let low_k : k < length s.places.items = slice_get_within s.places.items k c.args.place (place-at c.args.place k s.places.items (sym c.in-Some.ensures)) in
    let low : k < length s.new.now = omega (arith, low_k, placed-length s) in
    let low_o : k < length c.args.outlines.now = omega (arith, low, length-map s.new.now (λ (y : New). y.module), c.requires.outlines.len) in
    let both =
    new-found s c.requires.fits c.args.place n at c.args.outlines.now k x o c.requires.outlines (sym c.in-Some.ensures) (slice_get_read s.new.now (length s.new.now) k x refl low c.index-self-k.is)
    (slice_get_read c.args.outlines.now (length c.args.outlines.now) k o refl low_o c.index-outlines-k.is) in
    (c.module.ensures.value ∙ ap (λ (y : New). y.module) (sym c.index-self-k.is) ∙ both.0, both.1)
