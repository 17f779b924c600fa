use Rattle.mv_interface.proofs.Common.{[], ◌++◌, ◌+◌, ◌∙◌, ◌∷◌, ◌≡◌, ◌≤◌, Field, List, Part, Some, StructDefinition, ap, arith, length, length_push, map, map-append, parts_by, refl, slice_get, slice_get_read}
use Rattle.mv_interface.proofs.Common.{subst, sym, take, take_all}
use Rattle.mv_interface.proofs.ShapeLemmas.{few-fields}
use Rattle.mv_bound_rules.proofs.Found.{taken-more}
use Rattle.mv_interface.proofs.interface.parts_of.Goals.{After-put_parts}
use Rattle.mv_interface.proofs.interface.parts_of.Goals as goal

-- the struct that is gone over
here : (c : After-put_parts) → slice_get c.args.m.now.structs c.loop-d.d-index ≡ Some c.d-item.result
here c =
    let definitions = c.structs-definitions.result.now in
    sym (ap (λ l. slice_get l c.loop-d.d-index) c.structs-definitions.ensures.value) ∙ slice_get_read definitions (length definitions) c.loop-d.d-index c.d-item.result refl c.loop-d-test.true c.d-item.is

-- it has few fields
few : (c : After-put_parts) → length c.fields.result.now ≤ 32
few c = subst (λ (l : List Field). length l ≤ 32) (sym c.fields.ensures) (few-fields c.args.m.now c.loop-d.d-index c.d-item.result c.structs-definitions.ensures.fits (here c))

pub push-requires-clause-few : goal.push-requires-clause-few
push-requires-clause-few c = omega (arith, c.loop-d-test.true, c.loop-d.invariant.count, c.structs-definitions.ensures.few, ap length c.structs-definitions.ensures.value)

pub push-requires-clause-short : goal.push-requires-clause-short
push-requires-clause-short c =
    let low = few (goal.at.push-requires-clause-short c).After-put_parts in
    omega (arith, low, ap length c.deref.ensures.value, c.in_ok-put_parts.ensures.len, c.clear.ensures.len)

pub loop-d-init : goal.loop-d-init
loop-d-init c = record { so_far = c.in_ok-parts.ensures; count = ap length c.in_ok-parts.ensures }

pub loop-d-preserved : goal.loop-d-preserved
loop-d-preserved c =
    let at = (goal.at.loop-d-preserved c).After-put_parts in
    let m = c.args.m.now in
    let i = c.loop-d.d-index in
    let d : StructDefinition = c.d-item.result in
    let made : StructDefinition → List Part = λ d. parts_by c.args.structs.now d.fields in
    let one : c.deref.result.now ≡ made d = c.deref.ensures.value ∙ c.in_ok-put_parts.ensures.parts ∙ ap (λ l. l ++ parts_by c.args.structs.now c.fields.result.now) c.clear.ensures.items ∙ ap (parts_by c.args.structs.now) c.fields.ensures in
    record {
      so_far = c.in_ok-push.ensures ∙ ap (λ l. l ++ c.deref.result.now ∷ []) c.loop-d.invariant.so_far ∙ ap (λ x. map made (take i m.structs) ++ x ∷ []) one
          ∙ sym (ap (map made) (taken-more m.structs i d (here at)) ∙ map-append made (take i m.structs) (d ∷ []));
      count = ap length c.in_ok-push.ensures ∙ length_push c.loop-d.parts c.deref.result.now ∙ ap (λ n. n + 1) c.loop-d.invariant.count;
    }

pub returns : goal.returns
returns c = c.loop-d.invariant.so_far ∙ ap (map (λ (d : StructDefinition). parts_by c.args.structs.now d.fields)) (take_all c.loop-d.d-index c.args.m.now.structs (omega (arith, c.loop-d-test.false, c.loop-d.auto.d-index-end, ap length c.structs-definitions.ensures.value)))
