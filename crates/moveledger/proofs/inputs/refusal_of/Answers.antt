use Rattle.std.proofs.Common.{arith, rules}
use Rattle.std.proofs.lemmas.Grind.{common_steps}
use Rattle.moveledger.proofs.Fronts.{longer-found}
use Rattle.moveledger.proofs.inputs.refusal_of.Goals as goal

pub returns-in-Ok-clause-number : goal.returns-in-Ok-clause-number
returns-in-Ok-clause-number c =
    longer-found c.args.bytes.now _ c.in-Ok.found (grind (arith, common_steps)) (search rules) c.in-Ok.ensures
