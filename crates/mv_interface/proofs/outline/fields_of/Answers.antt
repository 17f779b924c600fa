use Rattle.mv_interface.proofs.Common.{[], ◌++◌, ◌+◌, ◌∙◌, ◌∷◌, ◌≡◌, ◌≤◌, Field, List, Some, StructDefinition, ap, arith, length, length-map, length_push, map, map-append, names_by, refl, slice_get, slice_get_read, subst, sym, take, take_all}
use Rattle.mv_interface.proofs.ShapeLemmas.{few-fields}
use Rattle.mv_bound_rules.proofs.Found.{taken-more}
use Rattle.mv_interface.proofs.outline.fields_of.Goals.{After-put_names}
use Rattle.mv_interface.proofs.outline.fields_of.Goals as goal

-- the struct that is gone over
here : (c : After-put_names) → slice_get c.args.m.now.structs c.loop-d.d-index ≡ Some c.d-item.result
here c =
    let structs = c.structs-structs.result.now in
    sym (ap (λ l. slice_get l c.loop-d.d-index) c.structs-structs.ensures.value) ∙ slice_get_read structs (length structs) c.loop-d.d-index c.d-item.result refl c.loop-d-test.true c.d-item.is

-- it has few fields
few : (c : After-put_names) → length c.fields.result.now ≤ 32
few c = subst (λ (l : List Field). length l ≤ 32) (sym c.fields.ensures) (few-fields c.args.m.now c.loop-d.d-index c.d-item.result c.structs-structs.ensures.fits (here c))

pub push-requires-clause-few : goal.push-requires-clause-few
push-requires-clause-few c = omega (arith, c.loop-d-test.true, c.loop-d.invariant.count, c.structs-structs.ensures.few, ap length c.structs-structs.ensures.value)

pub push-requires-clause-short : goal.push-requires-clause-short
push-requires-clause-short c =
    let at = (goal.at.push-requires-clause-short c).After-put_names in
    let low = few at in
    omega (arith, low, ap length c.deref.ensures.value, ap length c.in_ok-put_names.ensures, length-map c.fields.result.now (λ (f : Field). f.name))

pub loop-d-init : goal.loop-d-init
loop-d-init c = record { so_far = c.in_ok-fields.ensures; count = ap length c.in_ok-fields.ensures }

pub loop-d-preserved : goal.loop-d-preserved
loop-d-preserved c =
    let at = (goal.at.loop-d-preserved c).After-put_names in
    let m = c.args.m.now in
    let i = c.loop-d.d-index in
    let d : StructDefinition = c.d-item.result in
    let one : c.deref.result.now ≡ names_by d = c.deref.ensures.value ∙ c.in_ok-put_names.ensures ∙ ap (map (λ (f : Field). f.name)) c.fields.ensures in
    record {
      so_far = c.in_ok-push.ensures ∙ ap (λ l. l ++ c.deref.result.now ∷ []) c.loop-d.invariant.so_far ∙ ap (λ x. map names_by (take i m.structs) ++ x ∷ []) one
          ∙ sym (ap (map names_by) (taken-more m.structs i d (here at)) ∙ map-append names_by (take i m.structs) (d ∷ []));
      count = ap length c.in_ok-push.ensures ∙ length_push c.loop-d.fields c.deref.result.now ∙ ap (λ n. n + 1) c.loop-d.invariant.count;
    }

pub returns : goal.returns
returns c = c.loop-d.invariant.so_far ∙ ap (map names_by) (take_all c.loop-d.d-index c.args.m.now.structs (omega (arith, c.loop-d-test.false, c.loop-d.auto.d-index-end, ap length c.structs-structs.ensures.value)))
