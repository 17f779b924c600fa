use Rattle.mv_type_states.proofs.Common.{IsTrue, err_from_is_err_and, function_is_level, function_is_typed}
use Rattle.mv_type_states.proofs.BlockLemmas.{level-from_typed}
use Rattle.mv_move_types.proofs.Refusals.{refused-wider}
use Rattle.mv_type_states.proofs.passes.check_function.Goals as goal

pub returns-in_err-check-clause-refused : goal.returns-in_err-check-clause-refused
returns-in_err-check-clause-refused c =
    let s = c.scope_of-scope in
    let p = err_from_is_err_and c.from_residual.result c.from_residual.ensures.1 in
    let at = s.ensures.function in
    rw (p.1, p.2, at)
    (refused-wider 8 (IsTrue (function_is_level c.args.m.now s.result.function.now)) (IsTrue (function_is_typed c.args.m.now s.result.function.now)) _ (level-from_typed c.args.m.now s.result.function.now) (rw at at c.in_err-check.ensures.refused))
