use Rattle.mv_storage.proofs.Common.{[], ◌++◌, ◌∙◌, ◌∷◌, ◌≡◌, List, ap, length, refl, subst, sym, ℕ, Committed}
use Rattle.mv_undo.specs.Undo.{marks_of, AreMarks}
use Rattle.mv_undo.proofs.Undoing.{AreMarks-back, AreMarks-last}
use Rattle.mv_storage.specs.Blocks.{back}
use Rattle.mv_storage.proofs.Shown.{shown_of, shown-same}
use Rattle.mv_storage.proofs.Steps.{resolved-shows}
use Rattle.mv_storage.proofs.Undoing.{keeps-undoable, kept-at_work, marks-back, resolved-at_work}
use Rattle.mv_storage.proofs.storage.Storage.rollback.Goals as goal

pub take_back-requires-clause-undoable : goal.take_back-requires-clause-undoable
take_back-requires-clause-undoable c = keeps-undoable c.self.inside.work.places c.resolve.new.self.places c.self.inside.undo.items (c.resolve.ensures.pinned refl) c.self.invariant.1

pub take_back-requires-clause-mark : goal.take_back-requires-clause-mark
take_back-requires-clause-mark c =
    let n = length c.self.inside.undo.items in
    AreMarks-last c.end.new.self c.in-Some.mark n (subst (λ (ms : List ℕ). AreMarks ms n) c.in-Some.ensures c.self.invariant.2)

pub invariant_of-self : goal.invariant_of-self
invariant_of-self c =
    let n = length c.self.inside.undo.items in
    let marks = c.end.new.self in
    let older : AreMarks marks c.in-Some.mark = AreMarks-back marks c.in-Some.mark n (subst (λ (ms : List ℕ). AreMarks ms n) c.in-Some.ensures c.self.invariant.2) in (
      kept-at_work _ c.close.ensures.sound c.close.ensures.kept c.resolve.ensures.resolved.none c.forget.ensures,
      c.close.ensures.undoable,
      c.close.ensures.fits (subst (AreMarks marks) (sym c.take_back.ensures.left) older),
      c.close.ensures.none,
    )

pub invariant_of-self-in-None : goal.invariant_of-self-in-None
invariant_of-self-in-None c = (
  resolved-at_work c.resolve.new.self c.resolve.ensures.resolved c.resolve.ensures.remembered,
  keeps-undoable c.self.inside.work.places c.resolve.new.self.places c.self.inside.undo.items (c.resolve.ensures.pinned refl) c.self.invariant.1,
  subst (λ (ms : List ℕ). AreMarks ms (length c.self.inside.undo.items)) (sym c.in-None.ensures.1) tt,
  λ e. c.self.invariant.3 c.in-None.ensures.0,
)

-- what was committed when the newest block was begun is committed, and at the older marks what was
pub returns-in-Some-clause-back : goal.returns-in-Some-clause-back
returns-in-Some-clause-back c e =
    let us = c.self.inside.undo.items in
    let n = length us in
    let marks = c.end.new.self in
    let m = c.in-Some.mark in
    let old = shown_of Committed c.self.inside.work.places in
    let left = shown_of Committed c.resolve.new.self.places in
    let taken = shown_of Committed c.take_back.new.places in
    let new = shown_of Committed c.close.new.places in
    let same : left ≡ old = resolved-shows Committed c.self.inside.work.places c.resolve.new.self.places c.resolve.new.self.touched.items c.self.invariant.0.tracked.sound c.resolve.ensures.resolved c.resolve.ensures.same in
    let closed : new ≡ taken = shown-same Committed Committed c.take_back.new.places c.close.new.places c.take_back.ensures.sound.ordered c.close.ensures.sound.ordered c.close.ensures.same in
    let are : AreMarks (marks ++ m ∷ []) n = subst (λ (ms : List ℕ). AreMarks ms n) c.in-Some.ensures c.self.invariant.2 in
    ap (λ l. l.marks) (sym c.self.view_is) ∙ ap (λ ms. marks_of back us ms old) c.in-Some.ensures ∙ ap (marks_of back us (marks ++ m ∷ [])) (sym same)
    ∙ marks-back us c.take_back.new.undo.items marks m left taken are c.take_back.ensures.left c.take_back.ensures.same
    ∙ ap (λ xs. xs ++ taken ∷ []) (sym c.close.ensures.marks) ∙ ap (λ h. marks_of back c.close.new.undo.items marks new ++ h ∷ []) (sym closed)

pub returns-in-None-clause-none : goal.returns-in-None-clause-none
returns-in-None-clause-none c e =
    let us = c.self.inside.undo.items in
    let same = resolved-shows Committed c.self.inside.work.places c.resolve.new.self.places c.resolve.new.self.touched.items c.self.invariant.0.tracked.sound c.resolve.ensures.resolved c.resolve.ensures.same in (
      ap (λ l. l.marks) (sym c.self.view_is) ∙ ap (λ ms. marks_of back us ms (shown_of Committed c.self.inside.work.places)) c.in-None.ensures.0,
      same ∙ ap (λ l. l.committed) c.self.view_is,
      ap (λ ms. marks_of back us ms (shown_of Committed c.resolve.new.self.places)) c.in-None.ensures.1,
    )
