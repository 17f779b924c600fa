use Rattle.mv_storage.proofs.Common.{◌∙◌, None, Some, sym, Current}
use Rattle.mv_storage.proofs.Steps.{reads}
use Rattle.mv_storage.proofs.overlay.Overlay.find.Goals as goal

pub returns-in-Some : goal.returns-in-Some
returns-in-Some c = rw (← c.storage.view_is) (c.current.ensures ∙ sym (reads Current c.storage.inside.work.places c.args.key.now (Some c.in-Some.slot.now) c.storage.invariant.0.tracked.sound.ordered c.in-Some.ensures))

pub returns-in-None : goal.returns-in-None
returns-in-None c = rw (← c.storage.view_is) (sym (reads Current c.storage.inside.work.places c.args.key.now None c.storage.invariant.0.tracked.sound.ordered c.in-None.ensures))
