use Rattle.mv_interface.proofs.Common.{[], ◌++◌, ◌+◌, ◌∙◌, ◌∷◌, ◌≡◌, FunctionDefinition, LinkedType, List, Some, ap, arith, leb-true, length, length-map, length_push, map, map-append, refl, slice_get}
use Rattle.mv_interface.proofs.Common.{slice_get_read, sym, take, take_all, type_by, types_by, unwrap_or}
use Rattle.mv_interface.specs.Interface.{tokens_on}
use Rattle.mv_bound_rules.proofs.Found.{taken-more}
use Rattle.mv_interface.proofs.interface.types_of.Goals.{After-put_types}
use Rattle.mv_interface.proofs.interface.types_of.Goals as goal

-- the function that is gone over
here : (c : After-put_types) → slice_get c.args.m.now.functions c.loop-d.d-index ≡ Some c.d-item.result
here c =
    let functions = c.functions-functions.result.now in
    sym (ap (λ l. slice_get l c.loop-d.d-index) c.functions-functions.ensures.value) ∙ slice_get_read functions (length functions) c.loop-d.d-index c.d-item.result refl c.loop-d-test.true c.d-item.is

pub push-requires-clause-few : goal.push-requires-clause-few
push-requires-clause-few c =
    let few = leb-true (length c.args.m.now.functions) 256 c.functions-functions.ensures.few in
    omega (arith, c.loop-d-test.true, c.loop-d.invariant.count, few, ap length c.functions-functions.ensures.value)

pub push-requires-clause-short : goal.push-requires-clause-short
push-requires-clause-short c = omega (arith, c.tokens_of.ensures.few, ap length c.deref.ensures.value, ap length c.in_ok-put_types.ensures, length-map c.tokens_of.result.now (type_by c.args.structs.now))

pub loop-d-init : goal.loop-d-init
loop-d-init c = record { so_far = c.in_ok-types.ensures; count = ap length c.in_ok-types.ensures }

pub loop-d-preserved : goal.loop-d-preserved
loop-d-preserved c =
    let at = (goal.at.loop-d-preserved c).After-put_types in
    let m = c.args.m.now in
    let i = c.loop-d.d-index in
    let d : FunctionDefinition = c.d-item.result in
    let made : FunctionDefinition → List LinkedType = λ d. types_by c.args.structs.now (unwrap_or (tokens_on c.args.side m d) []) in
    let one : c.deref.result.now ≡ made d = c.deref.ensures.value ∙ c.in_ok-put_types.ensures ∙ ap (types_by c.args.structs.now) c.tokens_of.ensures.value in
    record {
      so_far = c.in_ok-push.ensures ∙ ap (λ l. l ++ c.deref.result.now ∷ []) c.loop-d.invariant.so_far ∙ ap (λ x. map made (take i m.functions) ++ x ∷ []) one
          ∙ sym (ap (map made) (taken-more m.functions i d (here at)) ∙ map-append made (take i m.functions) (d ∷ []));
      count = ap length c.in_ok-push.ensures ∙ length_push c.loop-d.types c.deref.result.now ∙ ap (λ n. n + 1) c.loop-d.invariant.count;
    }

pub returns : goal.returns
returns c = c.loop-d.invariant.so_far ∙ ap (map (λ (d : FunctionDefinition). types_by c.args.structs.now (unwrap_or (tokens_on c.args.side c.args.m.now d) []))) (take_all c.loop-d.d-index c.args.m.now.functions (omega (arith, c.loop-d-test.false, c.loop-d.auto.d-index-end, ap length c.functions-functions.ensures.value)))
