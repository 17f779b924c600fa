use Rattle.mv_type_states.proofs.Common.{[], ◌++◌, ◌+◌, ◌∙◌, ◌∷◌, ap, drop, reverse, err_from_is_err_and, types_each}
use Rattle.mv_type_states.proofs.BlockLemmas.{carried, listed, carried-none, carried_all, listed_all}
use Rattle.mv_type_states.proofs.Stacks.{none-after}
use Rattle.mv_type_states.proofs.passes.carry.Goals as goal

pub loop-instruction-preserved : goal.loop-instruction-preserved
loop-instruction-preserved c =
    let m = c.args.scope.now.module.now in
    let d = c.args.scope.now.function.now in
    let code = c.args.code.now in
    let n = c.loop-instruction.instruction-index in
    let next = carried m d code n _ _ _ _ c.loop-instruction-test.true c.loop-instruction.invariant.leads c.loop-instruction.invariant.room c.in_ok-step.ensures in
    record {
      leads = next.0;
      room = next.1;
      listed = ap (λ l. l ++ types_each m d (drop (n + 1) code) (reverse c.step.new.stack.items)) (c.in_ok-add.ensures ∙ ap (λ stack. c.loop-instruction.all ++ reverse stack ∷ []) c.deref.ensures.value)
          ∙ listed m d code n _ (reverse c.loop-instruction.stack.items) (reverse c.step.new.stack.items) c.loop-instruction.all _ c.loop-instruction-test.true c.in_ok-step.ensures c.loop-instruction.invariant.listed;
    }

pub returns-in_err-step-clause-types : goal.returns-in_err-step-clause-types
returns-in_err-step-clause-types c =
    let p = err_from_is_err_and c.from_residual-in_err-step.result c.from_residual-in_err-step.ensures.1 in
    rw (p.1, p.2)
    (none-after _ _ _
    (carried-none c.args.scope.now.module.now c.args.scope.now.function.now c.args.code.now c.loop-instruction.instruction-index _ (reverse c.loop-instruction.stack.items) _ c.loop-instruction-test.true
    c.loop-instruction.invariant.leads) c.in_err-step.ensures)

pub returns-clause-types : goal.returns-clause-types
returns-clause-types c =
    carried_all c.args.scope.now.module.now c.args.scope.now.function.now c.args.code.now c.loop-instruction.instruction-index (reverse c.loop-instruction.stack.items) _ c.loop-instruction-test.false
    c.loop-instruction.invariant.leads

pub returns-clause-listed : goal.returns-clause-listed
returns-clause-listed c =
    listed_all c.args.scope.now.module.now c.args.scope.now.function.now c.args.code.now c.loop-instruction.instruction-index (reverse c.loop-instruction.stack.items) _ _ c.loop-instruction-test.false
    c.loop-instruction.invariant.listed
