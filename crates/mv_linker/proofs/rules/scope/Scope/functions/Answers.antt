use Rattle.mv_linker.proofs.Common.{ap, arith, length, err_from_is_err_and, modules_in}
use Rattle.mv_move_types.proofs.Refusals.{refused-wider}
use Rattle.mv_linker.proofs.Joining.Resolving.{all-functions, function-of-all, none-found, one-found-more}
use Rattle.mv_linker.proofs.Orders.{within-same, past-same, read-same}
use Rattle.mv_linker.proofs.rules.scope.Scope.functions.Goals as goal

pub loop-h-init : goal.loop-h-init
loop-h-init c = none-found _ _ _ _ c.in_ok-found.ensures.items

pub returns-in_err-definition-clause-refused : goal.returns-in_err-definition-clause-refused
returns-in_err-definition-clause-refused c =
    let low = within-same c.loop-h.h c.function_handles-h-end.result.now c.args.m.now.function_handles c.loop-h-test.true c.function_handles-h-end.ensures in
    let p = err_from_is_err_and c.from_residual-in_err-definition.result c.from_residual-in_err-definition.ensures.1 in
    rw (p.1, p.2) (refused-wider 13 _ _ _ (function-of-all (modules_in c.args.self.now) c.args.m.now c.loop-h.h _ (read-same c.loop-h.h _ _ _ c.function_handles.ensures low)) c.in_err-definition.ensures.refused)

pub loop-h-preserved : goal.loop-h-preserved
loop-h-preserved c =
    let low = within-same c.loop-h.h c.function_handles-h-end.result.now c.args.m.now.function_handles c.loop-h-test.true c.function_handles-h-end.ensures in
    one-found-more _ _ _ _ _ _ _ c.in_ok-definition.definition c.loop-h.invariant c.in_ok-pushed.ensures.ok (read-same c.loop-h.h _ _ _ c.function_handles.ensures low) c.in_ok-definition.ensures.ok c.in_ok-definition.ensures.there

pub returns-clause-ok : goal.returns-clause-ok
returns-clause-ok c = record {
  len = omega (arith, c.loop-h.invariant.len, ap length c.function_handles-h-end.ensures);
  each = c.loop-h.invariant.each;
}

pub returns-clause-there : goal.returns-clause-there
returns-clause-there c =
    let most = past-same c.loop-h.h c.function_handles-h-end.result.now c.args.m.now.function_handles c.loop-h-test.false c.function_handles-h-end.ensures in
    all-functions _ _ _ _ c.loop-h.invariant most

pub function-requires-clause-named : goal.function-requires-clause-named
function-requires-clause-named c = c.requires.named

pub function-requires-clause-handle : goal.function-requires-clause-handle
function-requires-clause-handle c =
    let low = within-same c.loop-h.h c.function_handles-h-end.result.now c.args.m.now.function_handles c.loop-h-test.true c.function_handles-h-end.ensures in
    read-same c.loop-h.h _ _ _ c.function_handles.ensures low

pub function-requires-clause-structs : goal.function-requires-clause-structs
function-requires-clause-structs c = c.requires.structs
