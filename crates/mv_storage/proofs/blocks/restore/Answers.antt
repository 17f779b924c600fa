use Rattle.mv_storage.proofs.Common.{◌∙◌, ◌≡◌, None, Some, ap, cond, false, inl, refl, subst, sym, true, get, slice_get_within, key_cmp, with_item, Places, Committed, Vacant}
use Rattle.mv_storage.specs.declared.slot.Slot.TheVariants.{Gone}
use Rattle.mv_storage.specs.Slots.{keeps_place, ShowsAt}
use Rattle.mv_storage.specs.Blocks.{value_before, is_absent}
use Rattle.mv_storage.proofs.PlaceLemmas.{removed-at, wrote-at}
use Rattle.mv_storage.proofs.Steps.{has-shows, has-here, has-off}
use Rattle.mv_storage.proofs.Undoing.{kept-at}
use Rattle.mv_storage.proofs.blocks.restore.Goals as goal

pub remove-requires : goal.remove-requires
remove-requires c =
    let m = c.args.places.now in
    let used = c.requires.sound.used c.args.change.key c.args.change.place c.requires.pinned.0 in
    slice_get_within m.slots.items c.args.change.place used.0 used.1

pub index_mut-requires : goal.index_mut-requires
index_mut-requires c =
    let m = c.args.places.now in
    let used = c.requires.sound.used c.args.change.key c.args.change.place c.requires.pinned.0 in
    rw m.slots.ok.0 (slice_get_within m.slots.items c.args.change.place used.0 used.1)

pub index_mut-requires-in-Held : goal.index_mut-requires-in-Held
index_mut-requires-in-Held c =
    let m = c.args.places.now in
    let used = c.requires.sound.used c.args.change.key c.args.change.place c.requires.pinned.0 in
    rw m.slots.ok.0 (slice_get_within m.slots.items c.args.change.place used.0 used.1)

pub returns-in-Absent : goal.returns-in-Absent
returns-in-Absent c =
    let m = c.args.places.now in
    let n = c.remove.new.self in
    let k = c.args.change.key in
    let p = c.args.change.place in
    let gone = removed-at m n k p (Vacant m.free) c.requires.sound (inl c.requires.pinned.0) c.remove.ensures.ordered c.remove.ensures.tree c.remove.ensures.slots in
    record {
      sound = gone.sound;
      kept = kept-at m n k None gone.has refl c.requires.kept;
      committed = subst (λ b. ShowsAt Committed k (value_before b) m n) (sym c.in-Absent.is) (has-shows Committed m n k None None gone.has refl);
      others = λ q place off h. (c.remove.ensures.tree q ∙ ap (λ b. cond b None (get key_cmp m.tree q)) off ∙ h.0, ap keeps_place (has-off m n k None gone.has q off) ∙ h.1);
      here = λ e. absurd (let no : true ≡ false = sym (ap is_absent c.in-Absent.is) ∙ e in let x : ⊥ = cc in x);
    }

pub returns-in-Nothing : goal.returns-in-Nothing
returns-in-Nothing c =
    let m = c.args.places.now in
    let k = c.args.change.key in
    let p = c.args.change.place in
    let n : Places = record { tree = m.tree; slots = with_item m.slots p Gone; nothing = m.nothing; free = m.free } in
    let put = wrote-at m n k p Gone c.requires.sound c.requires.pinned.0 refl refl refl in
    record {
      sound = put.sound;
      kept = kept-at m n k (Some Gone) put.has refl c.requires.kept;
      committed = subst (λ b. ShowsAt Committed k (value_before b) m n) (sym c.in-Nothing.is) (has-shows Committed m n k (Some Gone) None put.has refl);
      others = λ q place off h. (h.0, ap keeps_place (has-off m n k (Some Gone) put.has q off) ∙ h.1);
      here = λ e. (c.requires.pinned.0, ap keeps_place (has-here m n k (Some Gone) put.has));
    }

pub returns-in-Held : goal.returns-in-Held
returns-in-Held c =
    let m = c.args.places.now in
    let k = c.args.change.key in
    let p = c.args.change.place in
    let t = c.kept.result in
    let n : Places = record { tree = m.tree; slots = with_item m.slots p t; nothing = m.nothing; free = m.free } in
    let put = wrote-at m n k p t c.requires.sound c.requires.pinned.0 c.kept.ensures.used refl refl in
    record {
      sound = put.sound;
      kept = kept-at m n k (Some t) put.has c.kept.ensures.kept c.requires.kept;
      committed = subst (λ b. ShowsAt Committed k (value_before b) m n) (sym c.in-Held.is) (has-shows Committed m n k (Some t) (Some c.in-Held.value) put.has (c.kept.ensures.value Committed));
      others = λ q place off h. (h.0, ap keeps_place (has-off m n k (Some t) put.has q off) ∙ h.1);
      here = λ e. (c.requires.pinned.0, ap keeps_place (has-here m n k (Some t) put.has) ∙ c.kept.ensures.pinned);
    }
