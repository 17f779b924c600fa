use Rattle.std.proofs.Common.{ap, rules}
use Rattle.moveledger_c.proofs.Reports.{IsProved-given, IsProved-none, of_limits-not_refused}
use Rattle.moveledger_c.proofs.modules.moveledger_prove.Goals as goal

pub returns-in-Ok-clause-proved : goal.returns-in-Ok-clause-proved
returns-in-Ok-clause-proved c = IsProved-given _ _ _ c.give.result c.into_bytes.result c.give.ensures (ap (λ v. v.items) c.into_bytes.ensures.value) c.in-Ok.ensures.proved c.in-Ok.ensures.accepted

pub returns-in-Err-clause-proved : goal.returns-in-Err-clause-proved
returns-in-Err-clause-proved c = IsProved-none c.args.module.now c.none.result.items c.unproved.result c.phase_of.result c.in-Err.error c.in-Err.ensures.refused (search rules) c.phase_of.ensures c.unproved.ensures

pub returns-in-Err-clause-principal : goal.returns-in-Err-clause-principal
returns-in-Err-clause-principal c = λ provable is. of_limits-not_refused c.in-Err.error c.unproved.result (c.in-Err.ensures.principal provable) c.unproved.ensures is
