use Rattle.mv_storage.proofs.Common.{◌∙◌, None, ap, refl, IfOk-weaker, on_err_weaker, on_ok_weaker, with_item, of_layer, Places, Committed, Current}
use Rattle.mv_storage.proofs.Steps.{wrote}
use Rattle.mv_storage.proofs.slots.Work.take.Goals as goal

pub returns : goal.returns
returns c =
    let m = c.args.self.now.places in
    let p = c.in-Some.place in
    let t = c.take.new.self in
    let n : Places = record { tree = m.tree; slots = with_item m.slots p t; nothing = m.nothing; free = m.free } in
    let w = wrote m n c.args.key.now p c.index_mut.result.now t c.requires.tracked.sound c.in-Some.ensures.place c.index_mut.ensures.value c.take.ensures.used refl refl in
    record {
      at_work = record {
        tracked = w.tracked c.index.result.now c.args.self.now.touched.items c.note.new.touched.items c.index.ensures c.requires.tracked c.note.ensures.kept c.in_ok-note.ensures.noted c.note.ensures.placed;
        remembered = c.recall.ensures.remembered;
      };
      pinned = w.pinned c.take.ensures.pinned;
      value = IfOk-weaker c.take.result _ _ (λ v e. e ∙ w.was Current) c.take.ensures.value;
      current = on_ok_weaker c.take.result (w.shows Current None) c.take.ensures.gone;
      committed = w.same Committed c.take.ensures.committed;
      err = on_err_weaker c.take.result (λ e. w.same Current (ap (of_layer Current) e)) c.take.ensures.err;
    }
