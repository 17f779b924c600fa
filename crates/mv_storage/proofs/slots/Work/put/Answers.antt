use Rattle.mv_storage.proofs.Common.{◌∙◌, ◌≡◌, Some, ap, cond, false, inl, refl, subst, sym, on_err_weaker, on_ok_weaker, with_item, layer_at, of_layer, same_key, is_vacant, slot_at, Places, Slot, Committed, Current}
use Rattle.mv_storage.proofs.PlaceLemmas.{place-read}
use Rattle.mv_storage.proofs.SlotReads.{at-err, place-within}
use Rattle.mv_storage.proofs.Steps.{slot-read, wrote}
use Rattle.mv_storage.proofs.slots.Work.put.Goals as goal

pub put-requires-clause-absent : goal.put-requires-clause-absent
put-requires-clause-absent c =
    let m = c.place_for.new.self.places in
    let k = c.args.key in
    let s = c.index_mut.result.now in
    let is : slot_at m k ≡ Some s = slot-read m k c.in_ok-place.place s c.place_for.ensures.at_work.tracked.sound c.in_ok-place.ensures.at c.index_mut.ensures.value in
    ap (layer_at Current) (sym is) ∙ c.place_for.ensures.same Current k ∙ c.requires.absent

pub returns : goal.returns
returns c =
    let m = c.place_for.new.self.places in
    let k = c.args.key in
    let p = c.in_ok-place.place in
    let t = c.put.new.self in
    let n : Places = record { tree = m.tree; slots = with_item m.slots p t; nothing = m.nothing; free = m.free } in
    let had = c.place_for.ensures in
    let w = wrote m n k p c.index_mut.result.now t had.at_work.tracked.sound (sym c.in_ok-place.ensures.at) c.index_mut.ensures.value c.put.ensures.used refl refl in
    record {
      at_work = record {
        tracked = w.tracked c.index.result.now c.place_for.new.self.touched.items c.note.new.touched.items c.index.ensures had.at_work.tracked c.note.ensures.kept c.in_ok-note.ensures.noted c.note.ensures.placed;
        remembered = had.at_work.remembered;
      };
      pinned = λ q place h. w.pinned c.put.ensures.pinned q place (had.pinned q place h);
      current = on_ok_weaker c.put.result (λ e q. w.shows Current (Some c.args.value) e q ∙ ap (cond (same_key k q) (Some c.args.value)) (had.same Current q)) c.put.ensures.current;
      committed = λ q. w.same Committed c.put.ensures.committed q ∙ had.same Committed q;
      err = on_err_weaker c.put.result (λ e q. w.same Current (ap (of_layer Current) e) q ∙ had.same Current q) c.put.ensures.err;
    }

-- the place is in the list, where a slot in use stands
pub index-requires : goal.index-requires
index-requires c = place-within c.place_for.new.self.places c.args.key c.in_ok-place.place c.place_for.ensures.at_work.tracked.sound c.in_ok-place.ensures.at

pub index_mut-requires : goal.index_mut-requires
index_mut-requires c = place-within c.place_for.new.self.places c.args.key c.in_ok-place.place c.place_for.ensures.at_work.tracked.sound c.in_ok-place.ensures.at

pub put-requires-clause-used : goal.put-requires-clause-used
put-requires-clause-used c =
    let sound = c.place_for.ensures.at_work.tracked.sound in
    let there = sound.used c.args.key c.in_ok-place.place c.in_ok-place.ensures.at in
    let read = place-read c.place_for.new.self.places c.args.key c.in_ok-place.place c.index_mut.result.now sound (inl c.in_ok-place.ensures.at) c.index_mut.ensures.value in
    let same : Some there.0 ≡ Some c.index_mut.result.now = sym there.1 ∙ read in
    let one : there.0 ≡ c.index_mut.result.now = cc in
    subst (λ (s : Slot). is_vacant s ≡ false) one there.2

-- no memory
pub returns-in_err-place-clause-committed : goal.returns-in_err-place-clause-committed
returns-in_err-place-clause-committed c = c.place_for.ensures.same Committed

pub returns-in_err-place-clause-err : goal.returns-in_err-place-clause-err
returns-in_err-place-clause-err c = at-err c.from_residual.result _ (c.place_for.ensures.same Current)

pub returns-in_err-note-clause-committed : goal.returns-in_err-note-clause-committed
returns-in_err-note-clause-committed c = c.place_for.ensures.same Committed

pub returns-in_err-note-clause-err : goal.returns-in_err-note-clause-err
returns-in_err-note-clause-err c = at-err c.from_residual-in_err-note.result _ (c.place_for.ensures.same Current)
