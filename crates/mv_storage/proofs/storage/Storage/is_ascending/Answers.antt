use Rattle.mv_storage.proofs.Common.{ap, subst, Ascends, Committed}
use Rattle.mv_storage.proofs.Shown.{Ascends-shown}
use Rattle.mv_storage.proofs.storage.Storage.is_ascending.Goals as goal

pub returns : goal.returns
returns c =
    let places = c.self.inside.work.places in
    subst Ascends (ap (λ l. l.committed) c.self.view_is) (Ascends-shown Committed places.slots.items places.tree.entries c.self.invariant.0.tracked.sound.ordered)
