use Rattle.mv_ledger_state.proofs.Counting.Ended.{counts-tallied}
use Rattle.mv_ledger.proofs.laws.every_count_is_tallied.Goals as goal

pub returns : goal.returns
returns c = counts-tallied
