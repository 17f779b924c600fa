use Rattle.mv_ledger_state.proofs.Counting.Conserved.{run-conserves}
use Rattle.mv_ledger.proofs.laws.every_run_conserves.Goals as goal

pub returns : goal.returns
returns c = run-conserves
