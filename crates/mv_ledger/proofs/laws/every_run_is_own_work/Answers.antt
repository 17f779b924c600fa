use Rattle.mv_ledger_state.proofs.Counting.Own.{run-own}
use Rattle.mv_ledger.proofs.laws.every_run_is_own_work.Goals as goal

pub returns : goal.returns
returns c = run-own
