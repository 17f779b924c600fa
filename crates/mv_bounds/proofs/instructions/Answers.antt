use Rattle.mv_bounds.proofs.Common.{◌<◌, ◌∙◌, ◌≡◌, Global, Vec, ap, arith, length, map, sym, FunctionDefinition}
use Rattle.std.proofs.lemmas.Option.{MatchOption-at_some}
use Rattle.mv_move_types.specs.declared.instruction.Instruction.{Instruction}
use Rattle.mv_bound_rules.proofs.Entries.{element_at, gather_asked}
use Rattle.mv_bounds.proofs.instructions.Goals as goal

pub loop-f-preserved : goal.loop-f-preserved
loop-f-preserved c =
    let functions = c.args.m.now.functions in
    let below : c.loop-f.f < length functions = omega (arith, c.loop-f-test.true, ap length c.functions-count.ensures.value) in
    let d = element_at functions c.loop-f.f below in
    let read = MatchOption-at_some _ (λ (d : FunctionDefinition). c.code.result ≡ d.code) d.0 d.1 c.code.ensures in
    ap (map (λ (v : Vec Instruction Global). v.items)) c.in_ok-push.ensures.items
    ∙ gather_asked (λ (v : Vec Instruction Global). v.items) (λ (d : FunctionDefinition). d.code) c.loop-f.codes.items functions c.loop-f.f c.in_ok-to_vec.field-0 d.0 c.loop-f.invariant (sym d.1) (c.in_ok-to_vec.ensures ∙ read)
