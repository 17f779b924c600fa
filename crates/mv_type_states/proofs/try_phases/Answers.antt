use Rattle.mv_type_states.proofs.Common.{err_from_is_err_and}
use Rattle.mv_move_types.proofs.Refusals.{refused-as}
use Rattle.mv_type_rules.specs.Sound.{ill_signed, unable, endless, ill_typed}
use Rattle.mv_type_rules.proofs.Functions.{FlowHolds-from_AreGraphs}
use Rattle.mv_type_states.proofs.try_phases.Goals as goal

pub returns-in_err-check-clause-refused : goal.returns-in_err-check-clause-refused
returns-in_err-check-clause-refused c =
    let p = err_from_is_err_and c.from_residual.result c.from_residual.ensures.1 in
    rw (p.1, p.2) (refused-as _ _ _ _ ill_signed c.in_err-check.ensures.refused)

pub returns-in_err-check-2-clause-refused : goal.returns-in_err-check-2-clause-refused
returns-in_err-check-2-clause-refused c =
    let p = err_from_is_err_and c.from_residual-in_err-check-2.result c.from_residual-in_err-check-2.ensures.1 in
    rw (p.1, p.2) (refused-as _ _ _ _ (unable c.in_ok-check.ensures.ok) c.in_err-check-2.ensures.refused)

pub returns-in_err-graphs-clause-refused : goal.returns-in_err-graphs-clause-refused
returns-in_err-graphs-clause-refused c =
    let p = err_from_is_err_and c.from_residual-in_err-graphs.result c.from_residual-in_err-graphs.ensures.1 in
    rw (p.1, p.2) (refused-as _ _ _ _ (endless c.in_ok-check.ensures.ok c.in_ok-check-2.ensures.ok) c.in_err-graphs.ensures.refused)

pub returns-in_err-stacks-clause-refused : goal.returns-in_err-stacks-clause-refused
returns-in_err-stacks-clause-refused c =
    let p = err_from_is_err_and c.from_residual-in_err-stacks.result c.from_residual-in_err-stacks.ensures.1 in
    let flow = FlowHolds-from_AreGraphs c.args.m.now c.in_ok-graphs.graphs.items c.in_ok-graphs.ensures.ok in
    rw (p.1, p.2) (refused-as _ _ _ _ (ill_typed c.in_ok-check.ensures.ok c.in_ok-check-2.ensures.ok flow) c.in_err-stacks.ensures.refused)
