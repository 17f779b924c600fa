use Rattle.mv_bound_rules.proofs.FunctionLemmas.{count_is}
use Rattle.mv_bound_rules.proofs.Bounded.local_count.Goals as goal

pub returns : goal.returns
returns c = count_is c.args.self.now c.args.f c.parameters.result.now c.other_locals.result.now c.parameters.ensures c.other_locals.ensures
