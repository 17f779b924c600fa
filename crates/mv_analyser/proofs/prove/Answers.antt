use Rattle.std.proofs.Common.{◌≡◌, true, false, Err, ap, subst}
use Rattle.mv_analyser.specs.Principal.{IsOfLimitsWithin, IsUnprovedWithin}
use Rattle.mv_analyser.proofs.prove.Goals as goal

pub unlimited-requires : goal.unlimited-requires
unlimited-requires c = λ is.
    let some : false ≡ true = c.in-Err.ensures.limited (ap Err is) in
    cc

pub returns-in-Err-clause-refused : goal.returns-in-Err-clause-refused
returns-in-Err-clause-refused c = subst (IsUnprovedWithin c.args.m.now) c.unlimited.ensures c.in-Err.ensures.refused

pub returns-in-Err-clause-principal : goal.returns-in-Err-clause-principal
returns-in-Err-clause-principal c = λ provable. subst IsOfLimitsWithin c.unlimited.ensures (c.in-Err.ensures.principal provable)
