use Rattle.mv_saved_text.proofs.Saves.Steps.{batch-comes}
use Rattle.mv_saved_text.proofs.steps.batch.Goals as goal

pub returns : goal.returns
returns c = λ s is.
    batch-comes c.args.layouts.now c.args.storage.now.committed s is c.args.i c.args.end c.requires.some c.requires.within c.in_ok-text.text.items c.in_ok-text.ensures
