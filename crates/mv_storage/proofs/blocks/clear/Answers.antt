use Rattle.mv_storage.proofs.Common.{◌∙◌, refl, sym, slice_get_within, Current, Vacant}
use Rattle.mv_storage.proofs.PlaceLemmas.{resolving-within, slice_set-again}
use Rattle.mv_storage.proofs.SlotKinds.{gone-none, gone-used}
use Rattle.mv_storage.proofs.Steps.{resolves-removed}
use Rattle.mv_storage.proofs.blocks.clear.Goals as goal

pub index-requires : goal.index-requires
index-requires c =
    let m = c.args.places.now in
    let there = resolving-within m c.args.key.now c.args.place c.requires.sound c.requires.resolving in
    rw m.slots.ok.0 (slice_get_within m.slots.items c.args.place there.0 there.1)

pub remove-requires : goal.remove-requires
remove-requires c =
    let m = c.args.places.now in
    let there = resolving-within m c.args.key.now c.args.place c.requires.sound c.requires.resolving in
    slice_get_within m.slots.items c.args.place there.0 there.1

pub returns-then-is_gone : goal.returns-then-is_gone
returns-then-is_gone c =
    let m = c.args.places.now in
    let n = c.remove.new.self in
    let k = c.args.key.now in
    let p = c.args.place in
    let s = c.index.result.now in
    let gone = sym c.if-is_gone.ensures in
    resolves-removed Current m n k p s s c.requires.sound c.requires.resolving c.index.ensures (gone-used s gone) (gone-none Current s gone) (λ e. absurd (let x : ⊥ = cc in x))
    c.remove.ensures.ordered c.remove.ensures.tree (c.remove.ensures.slots ∙ sym (slice_set-again m.slots.items p s (Vacant m.free)))

pub returns-else-is_gone : goal.returns-else-is_gone
returns-else-is_gone c = record {
  sound = c.requires.sound;
  same = λ q. refl;
  resolved = c.requires.kept c.args.key.now;
  others = λ q _. refl;
  resolving = λ q place h. h;
  pinned = λ _ q place h. h;
}
