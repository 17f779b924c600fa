use Rattle.mv_bound_rules.proofs.Common.{subst, InBounds}
use Rattle.mv_bound_rules.proofs.Bounded.module.Goals as goal

pub returns-clause-bounds : goal.returns-clause-bounds
returns-clause-bounds c = subst InBounds c.self.view_is c.self.invariant.bounds
