use Rattle.mv_storage.proofs.Common.{⊎_elim, ◌∙◌, ◌≡◌, arith, false, refl, sym, true, slice_get_within, Committed}
use Rattle.std.proofs.lemmas.Bool.{cases_Bool}
use Rattle.mv_storage.specs.Slots.{is_pinned}
use Rattle.std.proofs.Common.{length-set}
use Rattle.mv_storage.proofs.PlaceLemmas.{place-read}
use Rattle.mv_storage.proofs.Steps.{resolves-none, resolves-kept, resolves-removed}
use Rattle.mv_storage.proofs.slots.resolve_one.Goals as goal

pub returns-then-is_vacant-clause-at : goal.returns-then-is_vacant-clause-at
returns-then-is_vacant-clause-at c =
    resolves-none c.args.layer c.args.places.now _ c.args.key.now c.args.place c.index_mut-slot.result.now c.requires.sound c.requires.resolving c.index_mut-slot.ensures.value
    c.if-is_vacant.ensures refl refl

pub returns-then-resolve-clause-at : goal.returns-then-resolve-clause-at
returns-then-resolve-clause-at c =
    resolves-kept c.args.layer c.args.places.now _ c.args.key.now c.args.place c.index_mut-slot.result.now c.resolve.new.self c.requires.sound c.requires.resolving c.index_mut-slot.ensures.value
    c.if-is_vacant.ensures refl refl c.resolve.ensures.used (c.resolve.ensures.kept c.if-resolve.true) c.resolve.ensures.same (λ is was. (c.resolve.ensures.pinned is was).1)

pub remove-requires : goal.remove-requires
remove-requires c =
    let slots = c.args.places.now.slots.items in
    let s = c.index_mut-slot.result.now in
    let read = place-read c.args.places.now c.args.key.now c.args.place s c.requires.sound c.requires.resolving c.index_mut-slot.ensures.value in
    omega (arith, length-set slots c.args.place c.resolve.new.self, slice_get_within slots c.args.place s read)

pub returns-clause-at : goal.returns-clause-at
returns-clause-at c =
    resolves-removed c.args.layer c.args.places.now c.remove.new.self c.args.key.now c.args.place c.index_mut-slot.result.now c.resolve.new.self c.requires.sound c.requires.resolving c.index_mut-slot.ensures.value
    c.if-is_vacant.ensures (c.resolve.ensures.there c.if-resolve.false) loose c.remove.ensures.ordered c.remove.ensures.tree c.remove.ensures.slots
  where
    loose : c.args.layer ≡ Committed → is_pinned c.index_mut-slot.result.now ≡ false
    loose is =
        ⊎_elim
        (λ (pinned : is_pinned c.index_mut-slot.result.now ≡ true). let no : true ≡ false = sym (c.resolve.ensures.pinned is pinned).0 ∙ c.if-resolve.false in cc)
        (λ (off : is_pinned c.index_mut-slot.result.now ≡ false). off)
        (cases_Bool (is_pinned c.index_mut-slot.result.now))
