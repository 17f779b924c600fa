use Rattle.mv_type_states.proofs.Common.{err_from_is_err_and}
use Rattle.mv_type_states.proofs.Stacks.{none-after, taken_turn, taken-none}
use Rattle.mv_type_states.proofs.stack.pop_all.Goals as goal

pub returns-in_err-pop-clause-types : goal.returns-in_err-pop-clause-types
returns-in_err-pop-clause-types c =
    let p = err_from_is_err_and c.from_residual.result c.from_residual.ensures.1 in
    rw (p.1, p.2) (none-after _ _ _ (taken-none _ _ _ _ _ c.in-Some.ensures.cases.0 c.loop-last.invariant) c.in_err-pop.ensures.types)

pub returns-in_err-pop-clause-phase : goal.returns-in_err-pop-clause-phase
returns-in_err-pop-clause-phase c =
    let p = err_from_is_err_and c.from_residual.result c.from_residual.ensures.1 in
    rw (p.1, p.2) c.in_err-pop.ensures.phase

pub loop-last-preserved : goal.loop-last-preserved
loop-last-preserved c = taken_turn _ _ _ _ _ _ c.in-Some.ensures.cases.0 c.loop-last.invariant c.in_ok-pop.ensures.types
