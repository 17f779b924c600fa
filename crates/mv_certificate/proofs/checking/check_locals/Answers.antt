use Rattle.mv_certificate.proofs.Common.{IfErr-weaker}
use Rattle.mv_move_types.proofs.Refusals.{refused-as}
use Rattle.mv_certificate.specs.Answers.{bad_locals}
use Rattle.mv_certificate.proofs.checking.check_locals.Goals as goal

pub returns-clause-refused : goal.returns-clause-refused
returns-clause-refused c = IfErr-weaker c.try_locals.result _ _ (λ e. refused-as _ _ _ e bad_locals) c.try_locals.ensures.refused
