use Rattle.mv_storage.proofs.Common.{[], ◌++◌, ◌∙◌, ◌∷◌, ◌≡◌, List, ap, length, refl, subst, sym, ℕ, Committed}
use Rattle.std.proofs.Common.{drop}
use Rattle.mv_undo.specs.Undo.{undone, marks_of, AreMarks}
use Rattle.mv_undo.proofs.Undoing.{AreMarks-before, marks-append-of}
use Rattle.mv_storage.specs.Blocks.{back}
use Rattle.mv_storage.proofs.Shown.{shown_of, shown-same}
use Rattle.mv_storage.proofs.Steps.{resolved-shows}
use Rattle.mv_storage.proofs.Undoing.{keeps-undoable, kept-at_work, resolved-at_work}
use Rattle.mv_storage.proofs.storage.Storage.keep.Goals as goal

pub close-requires-clause-undoable : goal.close-requires-clause-undoable
close-requires-clause-undoable c = keeps-undoable c.self.inside.work.places c.resolve.new.self.places c.self.inside.undo.items (c.resolve.ensures.pinned refl) c.self.invariant.1

pub invariant_of-self : goal.invariant_of-self
invariant_of-self c =
    let n = length c.self.inside.undo.items in
    let marks = c.end.new.self in (
      kept-at_work _ c.close.ensures.sound c.close.ensures.kept c.resolve.ensures.resolved.none c.forget.ensures,
      c.close.ensures.undoable,
      c.close.ensures.fits (AreMarks-before marks c.in-Some._mark n (subst (λ (ms : List ℕ). AreMarks ms n) c.in-Some.ensures c.self.invariant.2)),
      c.close.ensures.none,
    )

pub invariant_of-self-in-None : goal.invariant_of-self-in-None
invariant_of-self-in-None c = (
  resolved-at_work c.resolve.new.self c.resolve.ensures.resolved c.resolve.ensures.remembered,
  keeps-undoable c.self.inside.work.places c.resolve.new.self.places c.self.inside.undo.items (c.resolve.ensures.pinned refl) c.self.invariant.1,
  subst (λ (ms : List ℕ). AreMarks ms (length c.self.inside.undo.items)) (sym c.in-None.ensures.1) tt,
  λ e. c.self.invariant.3 c.in-None.ensures.0,
)

pub returns-in-Some-clause-committed : goal.returns-in-Some-clause-committed
returns-in-Some-clause-committed c =
    shown-same Committed Committed c.resolve.new.self.places c.close.new.places c.resolve.ensures.resolved.sound.ordered c.close.ensures.sound.ordered c.close.ensures.same
    ∙ resolved-shows Committed c.self.inside.work.places c.resolve.new.self.places c.resolve.new.self.touched.items c.self.invariant.0.tracked.sound c.resolve.ensures.resolved c.resolve.ensures.same
    ∙ ap (λ l. l.committed) c.self.view_is

pub returns-in-Some-clause-closed : goal.returns-in-Some-clause-closed
returns-in-Some-clause-closed c e =
    let us = c.self.inside.undo.items in
    let marks = c.end.new.self in
    let m = c.in-Some._mark in
    let old = shown_of Committed c.self.inside.work.places in
    let left = shown_of Committed c.resolve.new.self.places in
    let same : left ≡ old = resolved-shows Committed c.self.inside.work.places c.resolve.new.self.places c.resolve.new.self.touched.items c.self.invariant.0.tracked.sound c.resolve.ensures.resolved c.resolve.ensures.same in (
      undone back (drop m us) old,
      ap (λ l. l.marks) (sym c.self.view_is) ∙ ap (λ ms. marks_of back us ms old) c.in-Some.ensures ∙ marks-append-of back us marks m old
          ∙ ap (λ h. marks_of back us marks h ++ undone back (drop m us) old ∷ []) (sym same)
          ∙ ap (λ xs. xs ++ undone back (drop m us) old ∷ []) (sym c.close.ensures.marks),
    )

pub returns-in-None-clause-committed : goal.returns-in-None-clause-committed
returns-in-None-clause-committed c =
    resolved-shows Committed c.self.inside.work.places c.resolve.new.self.places c.resolve.new.self.touched.items c.self.invariant.0.tracked.sound c.resolve.ensures.resolved c.resolve.ensures.same
    ∙ ap (λ l. l.committed) c.self.view_is

pub returns-in-None-clause-none : goal.returns-in-None-clause-none
returns-in-None-clause-none c e =
    let us = c.self.inside.undo.items in (
      ap (λ l. l.marks) (sym c.self.view_is) ∙ ap (λ ms. marks_of back us ms (shown_of Committed c.self.inside.work.places)) c.in-None.ensures.0,
      ap (λ ms. marks_of back us ms (shown_of Committed c.resolve.new.self.places)) c.in-None.ensures.1,
    )
