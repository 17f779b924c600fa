use Rattle.mv_type_states.proofs.Stacks.{pushed_fields}
use Rattle.mv_type_states.proofs.stack.push_fields.Goals as goal

pub loop-field-preserved : goal.loop-field-preserved
loop-field-preserved c = pushed_fields c.args.fields.now c.loop-field.field-index _ _ _ _ c.loop-field-test.true c.loop-field.invariant c.in_ok-push.ensures
