use Rattle.std.proofs.lemmas.Result.{IfErr-weaker}
use Rattle.moveledger.proofs.Verdicts.{accepted-refused}
use Rattle.moveledger.proofs.checking.check_text.Goals as goal

pub returns-clause-accepts : goal.returns-clause-accepts
returns-clause-accepts c = λ accepted.
    IfErr-weaker c.check_phases.result _ _ (accepted-refused c.args.module.now c.args.certificate.now accepted) c.check_phases.ensures.refused
