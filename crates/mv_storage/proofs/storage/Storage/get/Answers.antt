use Rattle.mv_storage.proofs.Common.{◌∙◌, None, Some, sym, Committed}
use Rattle.mv_storage.proofs.Steps.{reads}
use Rattle.mv_storage.proofs.storage.Storage.get.Goals as goal

pub returns-in-Some : goal.returns-in-Some
returns-in-Some c = rw (← c.self.view_is) (c.committed.ensures ∙ sym (reads Committed c.self.inside.work.places c.args.key.now (Some c.in-Some.slot.now) c.self.invariant.0.tracked.sound.ordered c.in-Some.ensures))

pub returns-in-None : goal.returns-in-None
returns-in-None c = rw (← c.self.view_is) (sym (reads Committed c.self.inside.work.places c.args.key.now None c.self.invariant.0.tracked.sound.ordered c.in-None.ensures))
