use Rattle.mv_storage.proofs.Common.{◌∙◌, ◌≡◌, Some, ap, arith, refl, sym, get, slice_get_within, key_cmp, of_layer, with_item, Places, Committed, Current}
use Rattle.std.proofs.Common.{length-set}
use Rattle.mv_storage.specs.Slots.{keeps_place, IsPinned}
use Rattle.mv_storage.proofs.PlaceLemmas.{place-read, resolving-used, wrote-at}
use Rattle.mv_storage.proofs.Shown.{layers-same}
use Rattle.mv_storage.proofs.SlotKinds.{empty-none, empty-loose}
use Rattle.mv_storage.proofs.Steps.{resolves-none, resolves-kept, resolves-removed, slot-read, wrote, has-here}
use Rattle.mv_storage.proofs.Undoing.{noted-none, noted-change}
use Rattle.mv_storage.proofs.blocks.note_one.Goals as goal

-- the key was taken out before
pub returns-then-is_vacant : goal.returns-then-is_vacant
returns-then-is_vacant c =
    let m = c.args.places.now in
    let k = c.args.key in
    let p = c.args.place in
    let s = c.index_mut-slot.result.now in
    let n : Places = record { tree = m.tree; slots = with_item m.slots p s; nothing = m.nothing; free = m.free } in
    let seen = resolves-none Current m n k p s c.requires.sound c.requires.resolving c.index_mut-slot.ensures.value c.if-is_vacant.ensures refl refl in
    let committed = resolves-none Committed m n k p s c.requires.sound c.requires.resolving c.index_mut-slot.ensures.value c.if-is_vacant.ensures refl refl in
    record {
      resolved = seen;
      noted = noted-none m n c.args.undo.now.items c.requires.sound.ordered c.requires.sound.ordered c.requires.undoable (committed.pinned refl) committed.same;
      more = omega arith;
      capacity = refl;
    }

pub remove-requires : goal.remove-requires
remove-requires c =
    let slots = c.args.places.now.slots.items in
    let s = c.index_mut-slot.result.now in
    let read = place-read c.args.places.now c.args.key c.args.place s c.requires.sound c.requires.resolving c.index_mut-slot.ensures.value in
    omega (arith, length-set slots c.args.place s, slice_get_within slots c.args.place s read)

-- the run has taken out what it put there
pub returns-then-is_empty : goal.returns-then-is_empty
returns-then-is_empty c =
    let m = c.args.places.now in
    let n = c.remove.new.self in
    let k = c.args.key in
    let p = c.args.place in
    let s = c.index_mut-slot.result.now in
    let empty = sym c.if-is_empty.ensures in
    let loose = empty-loose s empty in
    let seen = resolves-removed Current m n k p s s c.requires.sound c.requires.resolving c.index_mut-slot.ensures.value c.if-is_vacant.ensures
    (empty-none Current s empty) (λ _. loose) c.remove.ensures.ordered c.remove.ensures.tree c.remove.ensures.slots in
    let committed = resolves-removed Committed m n k p s s c.requires.sound c.requires.resolving c.index_mut-slot.ensures.value c.if-is_vacant.ensures
    (empty-none Committed s empty) (λ _. loose) c.remove.ensures.ordered c.remove.ensures.tree c.remove.ensures.slots in
    record {
      resolved = seen;
      noted = noted-none m n c.args.undo.now.items c.requires.sound.ordered c.remove.ensures.ordered c.requires.undoable (committed.pinned refl) committed.same;
      more = omega arith;
      capacity = refl;
    }

-- the run has changed what was committed
pub returns-in-Some : goal.returns-in-Some
returns-in-Some c =
    let m = c.args.places.now in
    let k = c.args.key in
    let p = c.args.place in
    let s = c.index_mut-slot.result.now in
    let t = c.note.new.self in
    let n : Places = record { tree = m.tree; slots = with_item m.slots p t; nothing = m.nothing; free = m.free } in
    let read = place-read m k p s c.requires.sound c.requires.resolving c.index_mut-slot.ensures.value in
    let at : get key_cmp m.tree k ≡ Some p = resolving-used m k p s read (sym c.if-is_vacant.ensures) c.requires.resolving in
    let w = wrote m n k p s t c.requires.sound (sym at) c.index_mut-slot.ensures.value c.note.ensures.used refl refl in
    let put = wrote-at m n k p t c.requires.sound at c.note.ensures.used refl refl in
    let here : IsPinned n k p = (at, ap keeps_place (has-here m n k (Some t) put.has) ∙ c.note.ensures.pinned) in
    record {
      resolved = resolves-kept Current m n k p s t c.requires.sound c.requires.resolving c.index_mut-slot.ensures.value c.if-is_vacant.ensures refl refl
          c.note.ensures.used c.note.ensures.kept c.note.ensures.same (λ _ _. c.note.ensures.pinned);
      noted = noted-change m n c.args.undo.now.items c.push_reserved.new.self.items (record { key = k; place = p; before = c.in-Some.before }) (of_layer Current s)
          c.requires.sound.ordered c.requires.sound.ordered c.requires.undoable (w.pinned (λ _. c.note.ensures.pinned)) here
          (λ absent. ap keeps_place (slot-read m k p s c.requires.sound at c.index_mut-slot.ensures.value) ∙ c.in-Some.ensures.absent absent)
          (w.shows Committed (of_layer Current s) (sym (layers-same (Some t) c.note.ensures.kept) ∙ c.note.ensures.same))
          (c.in-Some.ensures.before ∙ w.was Committed) c.push_reserved.ensures.items;
      more = omega (arith, c.push_reserved.ensures.len);
      capacity = c.push_reserved.ensures.capacity;
    }

-- or has left it alone
pub returns-in_default : goal.returns-in_default
returns-in_default c =
    let m = c.args.places.now in
    let k = c.args.key in
    let p = c.args.place in
    let s = c.index_mut-slot.result.now in
    let t = c.note.new.self in
    let n : Places = record { tree = m.tree; slots = with_item m.slots p t; nothing = m.nothing; free = m.free } in
    let read = place-read m k p s c.requires.sound c.requires.resolving c.index_mut-slot.ensures.value in
    let at : get key_cmp m.tree k ≡ Some p = resolving-used m k p s read (sym c.if-is_vacant.ensures) c.requires.resolving in
    let w = wrote m n k p s t c.requires.sound (sym at) c.index_mut-slot.ensures.value c.note.ensures.used refl refl in
    record {
      resolved = resolves-kept Current m n k p s t c.requires.sound c.requires.resolving c.index_mut-slot.ensures.value c.if-is_vacant.ensures refl refl
          c.note.ensures.used c.note.ensures.kept c.note.ensures.same (λ _ _. c.note.ensures.pinned);
      noted = noted-none m n c.args.undo.now.items c.requires.sound.ordered c.requires.sound.ordered c.requires.undoable (w.pinned (λ _. c.note.ensures.pinned))
          (w.same Committed (sym (layers-same (Some t) c.note.ensures.kept) ∙ c.note.ensures.same ∙ c.in_default.ensures.before));
      more = omega arith;
      capacity = refl;
    }
