use Rattle.mv_storage.proofs.Common.{Committed, Current}
use Rattle.mv_storage.proofs.Shown.{shown-same, layers-same}
use Rattle.mv_storage.proofs.storage.Storage.holding.Goals as goal

-- no slot is changed, so both layers are the committed one
pub returns-clause-current : goal.returns-clause-current
returns-clause-current c =
    let p = c.args.places in shown-same Committed Current p p c.requires.sound.ordered c.requires.sound.ordered (λ q. layers-same _ (c.requires.kept q))
