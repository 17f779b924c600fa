use Rattle.mv_certificate.proofs.Common.{IfErr-weaker}
use Rattle.mv_move_types.proofs.Refusals.{refused-as}
use Rattle.mv_certificate.specs.Answers.{bad_borrows}
use Rattle.mv_certificate.proofs.checking.check_edges.Goals as goal

pub returns-clause-refused : goal.returns-clause-refused
returns-clause-refused c = IfErr-weaker c.try_edges.result _ _ (λ e. refused-as _ _ _ e (bad_borrows c.requires.locals)) c.try_edges.ensures.refused
