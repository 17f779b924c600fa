use Rattle.std.proofs.Common.{◌≡◌}
use Rattle.mv_analyser.specs.declared.LimitError.TheVariants.{TooLong}
use Rattle.mv_analyser.proofs.Modules.{only_limits, passes_check, told_limited, told_of_limits, told_unproved}
use Rattle.mv_analyser.proofs.prove_limited.Goals as goal

pub returns-in-Ok-clause-passes : goal.returns-in-Ok-clause-passes
returns-in-Ok-clause-passes c = passes_check c.args.m.now c.in-Ok.c c.in-Ok.ensures.holds c.in-Ok.ensures.acquires

pub returns-in-Err-clause-refused : goal.returns-in-Err-clause-refused
returns-in-Err-clause-refused c = told_unproved c.args.m.now c.new-steps.result c.in-Err.e c.told.result c.told.ensures c.in-Err.ensures.refused

pub returns-in-Err-clause-principal : goal.returns-in-Err-clause-principal
returns-in-Err-clause-principal c = λ provable.
    told_of_limits c.new-steps.result c.in-Err.e c.told.result c.told.ensures (only_limits c.args.m.now provable c.in-Err.e c.in-Err.ensures.refused)

pub returns-in-Err-clause-limited : goal.returns-in-Err-clause-limited
returns-in-Err-clause-limited c = λ is.
    let same : c.told.result ≡ TooLong = cc in
    c.new-steps.ensures (told_limited c.new-steps.result c.in-Err.e c.told.result c.told.ensures same)
