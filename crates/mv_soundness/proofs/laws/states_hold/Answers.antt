use Rattle.mv_soundness.proofs.Guided.Published.{states_hold}
use Rattle.mv_soundness.proofs.laws.states_hold.Goals as goal

pub returns : goal.returns
returns c = states_hold
