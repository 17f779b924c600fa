use Rattle.std.proofs.Common.{subst}
use Rattle.mv_acquires.specs.Acquires.{AcquiresHold}
use Rattle.mv_analyser.proofs.Modules.{unproved_lists}
use Rattle.mv_analyser.proofs.check_acquires.Goals as goal

pub returns-in-Err-Phase-clause-refused : goal.returns-in-Err-Phase-clause-refused
returns-in-Err-Phase-clause-refused c =
    let refused = rw c.in-Err-Phase.field-0-is at c.in-Err-Phase.ensures.refused in
    unproved_lists c.args.m.now c.args.c.now c.requires.shape c.requires.holds c.in-Err-Phase.phase refused.0 (subst (λ z. AcquiresHold z → ⊥) c.bounded.ensures.value refused.1)
