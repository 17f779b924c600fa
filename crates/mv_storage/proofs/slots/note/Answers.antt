use Rattle.mv_storage.proofs.Steps.{placed-push}
use Rattle.mv_storage.proofs.slots.note.Goals as goal

pub returns-in_ok-push-clause-placed : goal.returns-in_ok-push-clause-placed
returns-in_ok-push-clause-placed c tree at placed =
    rw c.in_ok-push.ensures.items (placed-push tree c.args.touched.now.items (c.args.key, c.args.place) at placed)
