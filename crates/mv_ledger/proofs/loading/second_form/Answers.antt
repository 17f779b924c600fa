use Rattle.mv_ledger.proofs.Common.{state_of}
use Rattle.mv_ledger.proofs.loading.second_form.Goals as goal

pub returns-clause-new : goal.returns-clause-new
returns-clause-new c = λ old loaded. (state_of c.args.ledger.now, (loaded, c.in_ok-save.ensures))
