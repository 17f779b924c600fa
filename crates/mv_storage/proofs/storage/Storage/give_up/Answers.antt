use Rattle.mv_storage.proofs.Common.{◌∙◌, ap, refl, Committed, Current}
use Rattle.mv_undo.specs.Undo.{marks_of}
use Rattle.mv_storage.specs.Blocks.{back}
use Rattle.mv_storage.proofs.Shown.{shown-same, layers-same}
use Rattle.mv_storage.proofs.Steps.{resolved-shows}
use Rattle.mv_storage.proofs.Undoing.{keeps-undoable, resolved-at_work}
use Rattle.mv_storage.proofs.storage.Storage.give_up.Goals as goal

pub invariant_of-self : goal.invariant_of-self
invariant_of-self c = (
  resolved-at_work c.resolve.new.self c.resolve.ensures.resolved c.resolve.ensures.remembered,
  keeps-undoable c.self.inside.work.places c.resolve.new.self.places c.self.inside.undo.items (c.resolve.ensures.pinned refl) c.self.invariant.1,
  c.self.invariant.2,
  c.self.invariant.3,
)

pub returns-clause-committed : goal.returns-clause-committed
returns-clause-committed c =
    resolved-shows Committed c.self.inside.work.places c.resolve.new.self.places c.resolve.new.self.touched.items c.self.invariant.0.tracked.sound c.resolve.ensures.resolved c.resolve.ensures.same
    ∙ ap (λ l. l.committed) c.self.view_is

-- no slot is changed any more, so both layers are the committed one
pub returns-clause-current : goal.returns-clause-current
returns-clause-current c =
    let n = c.resolve.new.self.places in
    let resolved = c.resolve.ensures.resolved in
    shown-same Committed Current n n resolved.sound.ordered resolved.sound.ordered (λ q. layers-same _ (resolved.kept q))
    ∙ resolved-shows Committed c.self.inside.work.places n c.resolve.new.self.touched.items c.self.invariant.0.tracked.sound resolved c.resolve.ensures.same
    ∙ ap (λ l. l.committed) c.self.view_is

pub returns-clause-marks : goal.returns-clause-marks
returns-clause-marks c =
    ap (marks_of back c.self.inside.undo.items c.self.inside.marks)
    (resolved-shows Committed c.self.inside.work.places c.resolve.new.self.places c.resolve.new.self.touched.items c.self.invariant.0.tracked.sound c.resolve.ensures.resolved c.resolve.ensures.same)
    ∙ ap (λ l. l.marks) c.self.view_is
