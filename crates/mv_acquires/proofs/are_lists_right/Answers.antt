use Rattle.std.proofs.Common.{◌≡◌, sym, ◌∙◌, ap, ◌<◌, length, arith}
use Rattle.mv_move_types.specs.Module.{Module}
use Rattle.mv_acquires.specs.Acquires.{acquires_are_right}
use Rattle.mv_acquires.proofs.Reached.{all_at_each, not_all_at}
use Rattle.mv_acquires.proofs.are_lists_right.Goals as goal

pub returns-then-not-branch : goal.returns-then-not-branch
returns-then-not-branch c =
    let functions_are : c.functions-f-end.result.now ≡ c.args.m.now.functions = c.functions-f-end.ensures.value ∙ ap (λ (m : Module). m.functions) c.module.ensures.value in
    let within : c.loop-f.f < length c.args.m.now.functions = omega (arith, c.loop-f-test.true, ap length functions_are) in
    sym (not_all_at (acquires_are_right c.args.m.now) c.args.m.now.functions c.loop-f.f c.in_ok-is_right.field-0 within c.in_ok-is_right.ensures c.if-not-branch.true)

pub returns : goal.returns
returns c =
    let functions_are : c.functions-f-end.result.now ≡ c.args.m.now.functions = c.functions-f-end.ensures.value ∙ ap (λ (m : Module). m.functions) c.module.ensures.value in
    sym (all_at_each (acquires_are_right c.args.m.now) c.args.m.now.functions (λ k within. c.loop-f.invariant k (omega (arith, c.loop-f-test.false, ap length functions_are, within))))
