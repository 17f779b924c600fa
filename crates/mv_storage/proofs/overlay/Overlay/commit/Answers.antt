use Rattle.mv_storage.proofs.Common.{[], ◌∙◌, ◌≡◌, List, ap, false, length, refl, subst, sym, true, Committed, Current}
use Rattle.std.specs.Prelude.{OnErr, Result, Ok, Err}
use Rattle.std.specs.declared.alloc.AllocError.{AllocError}
use Rattle.mv_undo.proofs.Undoing.{AreMarks-more}
use Rattle.mv_undo.specs.Undo.{marks_of, AreMarks}
use Rattle.mv_storage.specs.Blocks.{back, contents, IsUndoable}
use Rattle.mv_storage.specs.declared.blocks.Undone.{Undone}
use Rattle.mv_storage.proofs.Shown.{shown_of, shown-same, layers-same}
use Rattle.mv_storage.proofs.Steps.{resolved-shows}
use Rattle.mv_storage.proofs.Undoing.{marks-none, resolved-at_work, undoable-none}
use Rattle.mv_storage.proofs.overlay.Overlay.commit.Goals as goal

-- ---- no block is open

pub invariant_of-storage : goal.invariant_of-storage
invariant_of-storage c = (
  resolved-at_work c.resolve.new.self c.resolve.ensures.resolved c.resolve.ensures.remembered,
  undoable-none c.resolve.new.self.places c.storage.inside.undo.items (c.storage.invariant.3 (c.if-is_empty.ensures.empty refl)),
  c.storage.invariant.2,
  c.storage.invariant.3,
)

pub returns-then-is_empty-clause-committed : goal.returns-then-is_empty-clause-committed
returns-then-is_empty-clause-committed c =
    resolved-shows Current c.storage.inside.work.places c.resolve.new.self.places c.resolve.new.self.touched.items c.storage.invariant.0.tracked.sound c.resolve.ensures.resolved c.resolve.ensures.same
    ∙ ap (λ l. l.current) c.storage.view_is

pub returns-then-is_empty-clause-current : goal.returns-then-is_empty-clause-current
returns-then-is_empty-clause-current c =
    let n = c.resolve.new.self.places in
    let resolved = c.resolve.ensures.resolved in
    shown-same Committed Current n n resolved.sound.ordered resolved.sound.ordered (λ q. layers-same _ (resolved.kept q))
    ∙ resolved-shows Current c.storage.inside.work.places n c.resolve.new.self.touched.items c.storage.invariant.0.tracked.sound resolved c.resolve.ensures.same
    ∙ ap (λ l. l.current) c.storage.view_is

pub returns-then-is_empty-clause-marks : goal.returns-then-is_empty-clause-marks
returns-then-is_empty-clause-marks c =
    let us = c.storage.inside.undo.items in
    let none = c.if-is_empty.ensures.empty refl in
    ap (λ ms. marks_of back us ms (shown_of Committed c.resolve.new.self.places)) none
    ∙ sym (ap (λ ms. marks_of back us ms (shown_of Committed c.storage.inside.work.places)) none)
    ∙ ap (λ l. l.marks) c.storage.view_is

-- ---- a block is open

pub returns-clause-done : goal.returns-clause-done
returns-clause-done c e = refl

pub returns-in_err-reserve-clause-done : goal.returns-in_err-reserve-clause-done
returns-in_err-reserve-clause-done c e =
    let none : c.storage.inside.marks ≡ [] = marks-none c.storage.inside.undo.items c.storage.inside.marks (shown_of Committed c.storage.inside.work.places) (ap (λ l. l.marks) c.storage.view_is ∙ e) in
    let no : false ≡ true = c.if-is_empty.ensures.open none in
    absurd (let x : ⊥ = cc in x)

pub note_all-requires-clause-undoable : goal.note_all-requires-clause-undoable
note_all-requires-clause-undoable c = subst (IsUndoable c.storage.inside.work.places) (sym c.reserve.ensures.items) c.storage.invariant.1

pub invariant_of-storage-2 : goal.invariant_of-storage-2
invariant_of-storage-2 c =
    let more = subst (λ (us : List Undone). AreMarks c.storage.inside.marks (length us)) (sym c.reserve.ensures.items) c.storage.invariant.2 in (
      resolved-at_work _ c.note_all.ensures.resolved (c.forget.ensures c.note_all.new.places.tree),
      c.note_all.ensures.noted.undoable,
      AreMarks-more c.storage.inside.marks (length c.reserve.new.self.items) (length c.note_all.new.undo.items) c.note_all.ensures.noted.more more,
      λ none. (let no : false ≡ true = c.if-is_empty.ensures.open none in absurd (let x : ⊥ = cc in x)),
    )

pub returns-clause-committed : goal.returns-clause-committed
returns-clause-committed c =
    resolved-shows Current c.storage.inside.work.places c.note_all.new.places c.note_all.new.touched.items c.storage.invariant.0.tracked.sound c.note_all.ensures.resolved c.note_all.ensures.same
    ∙ ap (λ l. l.current) c.storage.view_is

pub returns-clause-current : goal.returns-clause-current
returns-clause-current c =
    let n = c.note_all.new.places in
    let resolved = c.note_all.ensures.resolved in
    shown-same Committed Current n n resolved.sound.ordered resolved.sound.ordered (λ q. layers-same _ (resolved.kept q))
    ∙ resolved-shows Current c.storage.inside.work.places n c.note_all.new.touched.items c.storage.invariant.0.tracked.sound resolved c.note_all.ensures.same
    ∙ ap (λ l. l.current) c.storage.view_is

pub returns-clause-marks : goal.returns-clause-marks
returns-clause-marks c =
    let fits = subst (λ (us : List Undone). AreMarks c.storage.inside.marks (length us)) (sym c.reserve.ensures.items) c.storage.invariant.2 in
    c.note_all.ensures.noted.marks c.storage.inside.marks fits
    ∙ ap (λ us. marks_of back us c.storage.inside.marks (shown_of Committed c.storage.inside.work.places)) c.reserve.ensures.items
    ∙ ap (λ l. l.marks) c.storage.view_is

-- ---- no memory to note it

pub invariant_of-storage-in-Break-1 : goal.invariant_of-storage-in-Break-1
invariant_of-storage-in-Break-1 c = (
  record { tracked = c.storage.invariant.0.tracked; remembered = c.forget.ensures c.storage.inside.work.places.tree },
  subst (IsUndoable c.storage.inside.work.places) (sym c.reserve.ensures.items) c.storage.invariant.1,
  subst (λ (us : List Undone). AreMarks c.storage.inside.marks (length us)) (sym c.reserve.ensures.items) c.storage.invariant.2,
  λ none. c.reserve.ensures.items ∙ c.storage.invariant.3 none,
)

pub returns-in_err-reserve-clause-err : goal.returns-in_err-reserve-clause-err
returns-in_err-reserve-clause-err c = by c.from_residual.result (ap (λ us. contents c.storage.inside.work.places us c.storage.inside.marks) c.reserve.ensures.items ∙ c.storage.view_is)
  where
    by : {X : Type 0} (r : Result (Unit {0}) AllocError) → X → OnErr r X
    by (Ok x) h = tt
    by (Err e) h = h

pub returns-in_err-reserve-clause-current : goal.returns-in_err-reserve-clause-current
returns-in_err-reserve-clause-current c = ap (λ l. l.current) c.storage.view_is

pub returns-in_err-reserve-clause-marks : goal.returns-in_err-reserve-clause-marks
returns-in_err-reserve-clause-marks c =
    ap (λ us. marks_of back us c.storage.inside.marks (shown_of Committed c.storage.inside.work.places)) c.reserve.ensures.items ∙ ap (λ l. l.marks) c.storage.view_is
