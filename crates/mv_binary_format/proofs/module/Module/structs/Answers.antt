use Rattle.mv_binary_format.proofs.Fitting.{few_structs}
use Rattle.mv_binary_format.proofs.module.Module.structs.Goals as goal

pub returns-clause-few : goal.returns-clause-few
returns-clause-few c = few_structs c.args.self.now c.parts.ensures.text
