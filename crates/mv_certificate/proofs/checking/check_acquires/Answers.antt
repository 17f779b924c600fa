use Rattle.mv_certificate.proofs.Common.{IfErr-weaker, subst}
use Rattle.mv_move_types.proofs.Refusals.{refused-as}
use Rattle.mv_acquires.specs.Acquires.{AcquiresHold}
use Rattle.mv_certificate.specs.Answers.{bad_acquires}
use Rattle.mv_certificate.proofs.checking.check_acquires.Goals as goal

pub returns-clause-refused : goal.returns-clause-refused
returns-clause-refused c =
    let out : (AcquiresHold c.bounded.result.now → ⊥) → AcquiresHold c.args.m.now → ⊥ = subst (λ m. AcquiresHold m → ⊥) c.bounded.ensures.value in
    IfErr-weaker c.check.result _ _ (λ e r d held. refused-as _ _ _ e (λ no. bad_acquires held (out no)) r) c.check.ensures.refused
