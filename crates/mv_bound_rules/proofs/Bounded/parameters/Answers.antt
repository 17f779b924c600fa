use Rattle.mv_bound_rules.proofs.FunctionLemmas.{parameters_are}
use Rattle.mv_bound_rules.proofs.Bounded.parameters.Goals as goal

pub returns : goal.returns
returns c = parameters_are c.args.self.now c.args.f c.defined.result.0.now c.defined.result.1.now c.signature.result.now c.defined.ensures c.signature.ensures
