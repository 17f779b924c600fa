use Rattle.mv_analyser.proofs.OneLeast.{least_is_one}
use Rattle.mv_analyser.proofs.least_is_one.Goals as goal

pub returns : goal.returns
returns c = least_is_one
