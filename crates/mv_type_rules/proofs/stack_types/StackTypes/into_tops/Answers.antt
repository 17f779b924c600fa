use Rattle.mv_type_rules.proofs.TopLemmas.{tops-kept}
use Rattle.mv_type_rules.proofs.stack_types.StackTypes.into_tops.Goals as goal

pub returns-then-is_high : goal.returns-then-is_high
returns-then-is_high c = tops-kept c.tops.result c.args.self c.tops.ensures
