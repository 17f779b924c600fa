use Rattle.std.proofs.Common.{ap, inl, rules}
use Rattle.moveledger_c.proofs.Reports.{IsProved-given, IsProved-none, of_limits-not_refused}
use Rattle.moveledger_c.proofs.modules.moveledger_prove_within.Goals as goal

pub returns-in-Ok-clause-proved : goal.returns-in-Ok-clause-proved
returns-in-Ok-clause-proved c = inl (IsProved-given _ _ _ c.give.result c.into_bytes.result c.give.ensures (ap (λ v. v.items) c.into_bytes.ensures.value) c.in-Ok.ensures.proved c.in-Ok.ensures.accepted)

pub returns-in-Err-Unproved-clause-proved : goal.returns-in-Err-Unproved-clause-proved
returns-in-Err-Unproved-clause-proved c =
    let is = c.in-Err-Unproved.field-0-is in
    inl (IsProved-none c.args.module.now c.none.result.items c.unproved.result c.phase_of.result c.in-Err-Unproved.error (rw is at c.in-Err-Unproved.ensures.refused) (search rules)
    (rw is at c.phase_of.ensures) (rw is at c.unproved.ensures))

pub returns-in-Err-Unproved-clause-principal : goal.returns-in-Err-Unproved-clause-principal
returns-in-Err-Unproved-clause-principal c = λ provable is.
    let same = c.in-Err-Unproved.field-0-is in
    of_limits-not_refused c.in-Err-Unproved.error c.unproved.result (rw same at (c.in-Err-Unproved.ensures.principal provable)) (rw same at c.unproved.ensures) is
