use Rattle.mv_soundness.proofs.Guided.Published.{runs_faultless}
use Rattle.mv_soundness.proofs.laws.runs_are_faultless.Goals as goal

pub returns : goal.returns
returns c = runs_faultless
