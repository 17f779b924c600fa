use Rattle.mv_storage.proofs.Common.{◌∙◌, ap, inl, is_some, refl, sym, IfOk-weaker, option_and_then, with_item, of_layer, Key, Places, Current}
use Rattle.mv_storage.specs.WordLists.{piece}
use Rattle.mv_storage.proofs.PlaceLemmas.{place-read}
use Rattle.mv_storage.proofs.SlotReads.{own-at, set-read, some-cond}
use Rattle.mv_storage.proofs.Steps.{wrote}
use Rattle.mv_storage.proofs.slots.Work.own.Goals as goal

pub returns : goal.returns
returns c =
    let m = c.args.self.now.places in
    let k : Key = record { address = c.args.address; place = c.args.place; index = c.args.index } in
    let p = c.in-Some.at in
    let s = c.index_mut.result.now in
    let t = c.own_place.new.self in
    let n : Places = record { tree = m.tree; slots = with_item m.slots p t; nothing = m.nothing; free = m.free } in
    let at = sym c.in-Some.ensures.place in
    let w = wrote m n k p s t c.requires.tracked.sound c.in-Some.ensures.place c.index_mut.ensures.value c.own_place.ensures.used refl refl in
    let there = set-read m.slots.items p s t (place-read m k p s c.requires.tracked.sound (inl at) c.index_mut.ensures.value) in
    let held = is_some (option_and_then (piece c.args.from c.args.width) (of_layer Current s)) in
    record {
      at_work = record {
        tracked = w.tracked c.index.result.now c.args.self.now.touched.items c.note.new.touched.items c.index.ensures c.requires.tracked c.note.ensures.kept c.in_ok-note.ensures.noted c.note.ensures.placed;
        remembered = c.recall.ensures.remembered;
      };
      pinned = w.pinned c.own_place.ensures.pinned;
      same = λ layer. w.same layer (c.own_place.ensures.layers layer);
      none = IfOk-weaker c.own_place.result _ _ (λ found e. ap is_some e ∙ some-cond held p ∙ ap (λ o. is_some (option_and_then (piece c.args.from c.args.width) o)) (w.was Current)) c.own_place.ensures.place;
      own = own-at n k p t held c.own_place.result at there c.own_place.ensures.place c.own_place.ensures.own;
    }
