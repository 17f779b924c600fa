use Rattle.mv_bounds.proofs.Common.{◌<◌, ◌≡◌, ◌∙◌, Global, IfSome, Some, Vec, ap, arith, get_or, length, length-map, refl, slice_get, slice_get_read, subst, FunctionDefinition}
use Rattle.mv_move_types.specs.declared.instruction.Instruction.{Instruction}
use Rattle.mv_bound_rules.proofs.Entries.{listed_at}
use Rattle.mv_bounds.proofs.indices.functions_in.Goals as goal

pub function_in-requires : goal.function_in-requires
function_in-requires c =
    let functions = c.args.m.now.functions in
    let codes = c.args.codes.now in
    let d = c.index-functions-f.result in
    let code = c.index-codes-f.result in
    let below : c.loop-f.f < length functions =
    omega (arith, c.loop-f-test.true, ap length c.requires, length-map codes (λ (v : Vec Instruction Global). v.items), length-map functions (λ (d : FunctionDefinition). d.code)) in
    let at : slice_get functions c.loop-f.f ≡ Some d =
    slice_get_read functions (length functions) c.loop-f.f d refl below (c.index-functions-f.is ∙ ap (λ fs. get_or fs c.loop-f.f d) c.functions-functions.ensures.value) in
    let here = listed_at (λ (v : Vec Instruction Global). v.items) (λ (d : FunctionDefinition). d.code) functions c.loop-f.f code codes c.requires below c.index-codes-f.is in
    c.deref.ensures.value ∙ subst (λ o. IfSome o (λ (d : FunctionDefinition). code.items ≡ d.code)) at here
