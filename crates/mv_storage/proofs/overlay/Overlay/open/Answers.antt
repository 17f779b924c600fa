use Rattle.mv_storage.proofs.Common.{◌∙◌, ◌≡◌, Some, ap, false, is_some, refl, subst, sym, true, ℕ, Ascends, words_under, value_at, Current}
use Rattle.std.specs.Prelude.{Ok}
use Rattle.std.specs.Option.{option_and_then}
use Rattle.mv_storage.specs.WordLists.{piece}
use Rattle.std.specs.BTreeMap.{BTreeMap}
use Rattle.mv_move_types.specs.declared.tables.Key.{Key}
use Rattle.mv_storage.specs.Map.{Layers, written_if}
use Rattle.mv_storage.specs.Slots.{IsRemembered, layers, written_at}
use Rattle.mv_storage.proofs.Undoing.{keeps-undoable, over, with_marks, written-marks}
use Rattle.mv_storage.proofs.Lent.{Found, can-lend, none-there, opened-layers, opened-pinned, opened-tracked, opened-tree, opened-words}
use Rattle.mv_storage.proofs.Shown.{Ascends-shown}
use Rattle.mv_storage.proofs.overlay.Overlay.open.Goals as goal

-- the run has the value to itself already

pub invariant_of-storage-lent : goal.invariant_of-storage-lent
invariant_of-storage-lent c = λ w.
    let m = c.storage.inside.work.places in
    let had = c.storage.invariant.0.tracked in
    let key = c.args.key.now in
    let p = c.in-Some.place in
    let there : true ≡ is_some (option_and_then (piece c.args.from c.args.width) (value_at Current m key)) = sym (c.in-Some.ensures.there refl) in
    let how : Found m key c.args.width (Some p) true (Ok (Some p)) = (c.in-Some.ensures.own, (refl, c.in-Some.ensures.some refl, refl)) in (
      record {
        tracked = opened-tracked m m c.storage.inside.work.touched.items had had.sound.ordered (λ layer q. refl) key c.args.from c.args.width (Ok (Some p)) there (Some p) true how w;
        remembered = subst (λ (tree : BTreeMap Key ℕ). IsRemembered tree c.storage.inside.work.known.lines)
            (sym (opened-tree m m c.storage.inside.work.touched.items had had.sound.ordered (λ layer q. refl) key c.args.from c.args.width (Ok (Some p)) there (Some p) w)) c.storage.invariant.0.remembered;
      },
      keeps-undoable m (written_at m (Some p) c.args.from w) c.storage.inside.undo.items
          (opened-pinned m m c.storage.inside.work.touched.items had had.sound.ordered (λ layer q. refl) key c.args.from c.args.width (Ok (Some p)) there (Some p) true how w) c.storage.invariant.1,
      c.storage.invariant.2,
      c.storage.invariant.3,
    )

pub returns-in-Some : goal.returns-in-Some
returns-in-Some c =
    let m = c.storage.inside.work.places in
    let touched = c.storage.inside.work.touched.items in
    let had = c.storage.invariant.0.tracked in
    let ordered = had.sound.ordered in
    let key = c.args.key.now in
    let p = c.in-Some.place in
    let there : true ≡ is_some (option_and_then (piece c.args.from c.args.width) (value_at Current m key)) = sym (c.in-Some.ensures.there refl) in
    let how : Found m key c.args.width (Some p) true (Ok (Some p)) = (c.in-Some.ensures.own, (refl, c.in-Some.ensures.some refl, refl)) in (
      (
        refl,
        λ w. ap (over c.args.self.now) (ap (with_marks c.storage.inside.undo.items c.storage.inside.marks) (opened-layers m m touched had ordered (λ layer q. refl) key c.args.from c.args.width (Ok (Some p)) there (Some p) true how w)
            ∙ written-marks c.storage.inside.undo.items c.storage.inside.marks true c.args.width (layers m) key c.args.from w
            ∙ ap (λ (l : Layers). written_if true c.args.width l key c.args.from w) c.storage.view_is),
      ),
      record {
        loan = tt;
        words = λ is. opened-words m m touched had ordered (λ layer q. refl) key c.args.from c.args.width (Ok (Some p)) there (Some p) true how c.words_at.result.now (λ e. (p, refl)) c.words_at.ensures.words c.words_at.ensures.none is
            ∙ ap (λ (l : Layers). option_and_then (piece c.args.from c.args.width) (words_under l.current key)) c.storage.view_is;
        there = λ is. let e : true ≡ false = is in cc;
        ascends = subst Ascends (ap (λ (l : Layers). l.current) c.storage.view_is) (Ascends-shown Current m.slots.items m.tree.entries ordered);
      },
    )

-- any other case

pub words_at-requires-in-None : goal.words_at-requires-in-None
words_at-requires-in-None c =
    can-lend c.storage.inside.work.places c.own-found.new.self.places c.own-found.new.self.touched.items c.own-found.ensures.at_work.tracked c.storage.invariant.0.tracked.sound.ordered c.own-found.ensures.same c.args.key.now c.args.from c.args.width c.own-found.result c.own-found.ensures.none
    c.own_place-place.result c.own_place-place.new.lent (c.own-found.ensures.own, c.own_place-place.ensures.place)

pub invariant_of-storage-lent-in-None : goal.invariant_of-storage-lent-in-None
invariant_of-storage-lent-in-None c = λ w. (
  record {
    tracked = opened-tracked c.storage.inside.work.places c.own-found.new.self.places c.own-found.new.self.touched.items c.own-found.ensures.at_work.tracked c.storage.invariant.0.tracked.sound.ordered c.own-found.ensures.same c.args.key.now c.args.from c.args.width c.own-found.result c.own-found.ensures.none
        c.own_place-place.result c.own_place-place.new.lent (c.own-found.ensures.own, c.own_place-place.ensures.place) w;
    remembered = subst (λ (tree : BTreeMap Key ℕ). IsRemembered tree c.own-found.new.self.known.lines)
        (sym (opened-tree c.storage.inside.work.places c.own-found.new.self.places c.own-found.new.self.touched.items c.own-found.ensures.at_work.tracked c.storage.invariant.0.tracked.sound.ordered c.own-found.ensures.same c.args.key.now c.args.from c.args.width c.own-found.result c.own-found.ensures.none c.own_place-place.result w))
        c.own-found.ensures.at_work.remembered;
  },
  keeps-undoable c.storage.inside.work.places (written_at c.own-found.new.self.places c.own_place-place.result c.args.from w) c.storage.inside.undo.items
      (λ q place h. opened-pinned c.storage.inside.work.places c.own-found.new.self.places c.own-found.new.self.touched.items c.own-found.ensures.at_work.tracked c.storage.invariant.0.tracked.sound.ordered c.own-found.ensures.same c.args.key.now c.args.from c.args.width c.own-found.result c.own-found.ensures.none
      c.own_place-place.result c.own_place-place.new.lent (c.own-found.ensures.own, c.own_place-place.ensures.place) w q place (c.own-found.ensures.pinned q place h)) c.storage.invariant.1,
  c.storage.invariant.2,
  c.storage.invariant.3,
)

pub returns-in-None : goal.returns-in-None
returns-in-None c =
    let m = c.storage.inside.work.places in
    let n = c.own-found.new.self.places in
    let touched = c.own-found.new.self.touched.items in
    let had = c.own-found.ensures.at_work.tracked in
    let ordered = c.storage.invariant.0.tracked.sound.ordered in
    let same = c.own-found.ensures.same in
    let key = c.args.key.now in
    let place = c.own_place-place.result in
    let lent = c.own_place-place.new.lent in
    let own = c.own-found.result in
    let there = c.own-found.ensures.none in
    let how = c.own_place-place.ensures.place in (
      (
        refl,
        λ w. ap (over c.args.self.now) (ap (with_marks c.storage.inside.undo.items c.storage.inside.marks) (opened-layers m n touched had ordered same key c.args.from c.args.width own there place lent (c.own-found.ensures.own, how) w)
            ∙ written-marks c.storage.inside.undo.items c.storage.inside.marks lent c.args.width (layers m) key c.args.from w
            ∙ ap (λ (l : Layers). written_if lent c.args.width l key c.args.from w) c.storage.view_is),
      ),
      record {
        loan = tt;
        words = λ is. opened-words m n touched had ordered same key c.args.from c.args.width own there place lent (c.own-found.ensures.own, how) c.words_at-in-None.result.now c.own_place-place.ensures.lent c.words_at-in-None.ensures.words c.words_at-in-None.ensures.none is
            ∙ ap (λ (l : Layers). option_and_then (piece c.args.from c.args.width) (words_under l.current key)) c.storage.view_is;
        there = λ is. ap (λ (l : Layers). option_and_then (piece c.args.from c.args.width) (words_under l.current key)) (sym c.storage.view_is)
            ∙ none-there m key c.args.from c.args.width ordered own c.own_place-place.new.there there c.own_place-place.ensures.there c.own_place-place.ensures.refused is;
        ascends = subst Ascends (ap (λ (l : Layers). l.current) c.storage.view_is) (Ascends-shown Current m.slots.items m.tree.entries ordered);
      },
    )
