use Rattle.mv_ledger_state.proofs.Common.{sym, set_past}
use Rattle.mv_ledger_state.proofs.tallies.set_back.Goals as goal

pub returns-in_default : goal.returns-in_default
returns-in_default c = sym (set_past c.args.tallies.now.items c.args.index c.args.was c.in_default.ensures.item.3)
