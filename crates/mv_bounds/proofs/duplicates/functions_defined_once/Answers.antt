use Rattle.mv_bounds.proofs.Common.{◌∙◌, map, FunctionDefinition, FunctionHandle}
use Rattle.mv_bounds.proofs.Defined.{answer_of_homes}
use Rattle.mv_bounds.proofs.duplicates.functions_defined_once.Goals as goal

pub returns : goal.returns
returns c =
    let m = c.args.m.now in
    answer_of_homes (λ (h : FunctionHandle). h.module) m.function_handles c.deref.result.now c.own.result m.own c.deref-2.result.now (map (λ (d : FunctionDefinition). d.handle) m.functions) c.defined_once.result (c.deref.ensures.value ∙ c.in_ok-homes.ensures) c.own.ensures (c.deref-2.ensures.value ∙ c.in_ok-defined.ensures) c.defined_once.ensures
