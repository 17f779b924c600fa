use Rattle.std.proofs.Common.{refl, inr}
use Rattle.moveledger_c.proofs.Reports.{StopsAfter-none}
use Rattle.moveledger_c.proofs.ledgers.apply.Goals as goal

pub returns-in_default : goal.returns-in_default
returns-in_default c = (c.args.ledger.now, refl, inr (refl, c.args.records.now, StopsAfter-none _ _ _ _ _ c.in_default.ensures.kept c.take.ensures.none))
