use Rattle.moveledger.proofs.Proved.{unlimited-never_long, unlimited-no_proof, unlimited-of_limits}
use Rattle.moveledger.proofs.proving.prove_text.Goals as goal

pub unlimited-requires : goal.unlimited-requires
unlimited-requires c = unlimited-never_long c.args.module.now c.in-Err.e c.in-Err.ensures.refused

pub returns-in-Err-clause-refused : goal.returns-in-Err-clause-refused
returns-in-Err-clause-refused c = unlimited-no_proof c.args.module.now c.in-Err.e c.unlimited.result c.unlimited.ensures c.in-Err.ensures.refused

pub returns-in-Err-clause-principal : goal.returns-in-Err-clause-principal
returns-in-Err-clause-principal c = λ provable. unlimited-of_limits c.in-Err.e c.unlimited.result c.unlimited.ensures (c.in-Err.ensures.principal provable)
