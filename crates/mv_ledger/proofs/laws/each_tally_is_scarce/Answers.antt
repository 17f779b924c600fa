use Rattle.mv_ledger_state.proofs.Runs.ScarceTallies.{all-scarce}
use Rattle.mv_ledger.proofs.laws.each_tally_is_scarce.Goals as goal

pub returns : goal.returns
returns c = all-scarce
