use Rattle.mv_type_states.proofs.Common.{◌∙◌, ◌≡◌, ap, refl, err_from_is_err_and, Module}
use Rattle.mv_type_states.proofs.Found.{got, missed, finds_refused}
use Rattle.mv_type_states.proofs.rules.references.field_types.Goals as goal

pub returns-in_default : goal.returns-in_default
returns-in_default c =
    let m = c.args.m.now in
    let home : c.module-module.result.now ≡ m = c.module-module.ensures.value in
    let table = c.field_handles.ensures ∙ ap (λ (n : Module). n.field_handles) home in
    (refl, rw (missed m.field_handles _ c.args.index _ table c.from.ensures c.in_default.ensures.lookup) refl)

pub returns-in_default-get : goal.returns-in_default-get
returns-in_default-get c =
    let m = c.args.m.now in
    let home : c.module-module.result.now ≡ m = c.module-module.ensures.value in
    let table = c.field_handles.ensures ∙ ap (λ (n : Module). n.field_handles) home in
    let handle = got m.field_handles _ c.args.index _ c.in-Some.handle table c.from.ensures c.in-Some.ensures.lookup in
    let structs = c.structs.ensures.value ∙ ap (λ (n : Module). n.structs) home in
    (refl, rw (handle, missed m.structs _ c.in-Some.handle.now.definition _ structs c.from-2.ensures c.in_default-get.ensures.lookup) refl)

pub returns-in_default-get-2 : goal.returns-in_default-get-2
returns-in_default-get-2 c =
    let m = c.args.m.now in
    let home : c.module-module.result.now ≡ m = c.module-module.ensures.value in
    let table = c.field_handles.ensures ∙ ap (λ (n : Module). n.field_handles) home in
    let handle = got m.field_handles _ c.args.index _ c.in-Some.handle table c.from.ensures c.in-Some.ensures.lookup in
    let structs = c.structs.ensures.value ∙ ap (λ (n : Module). n.structs) home in
    let definition = got m.structs _ c.in-Some.handle.now.definition _ c.in-Some-get.definition structs c.from-2.ensures c.in-Some-get.ensures.lookup in (
      refl,
      rw (handle, definition, missed c.in-Some-get.definition.now.fields _ c.in-Some.handle.now.position _ c.fields.ensures c.from-3.ensures c.in_default-get-2.ensures.lookup) refl,
    )

pub returns-in_err-field : goal.returns-in_err-field
returns-in_err-field c =
    let m = c.args.m.now in
    let home : c.module-module.result.now ≡ m = c.module-module.ensures.value in
    let table = c.field_handles.ensures ∙ ap (λ (n : Module). n.field_handles) home in
    let handle = got m.field_handles _ c.args.index _ c.in-Some.handle table c.from.ensures c.in-Some.ensures.lookup in
    let structs = c.structs.ensures.value ∙ ap (λ (n : Module). n.structs) home in
    let definition = got m.structs _ c.in-Some.handle.now.definition _ c.in-Some-get.definition structs c.from-2.ensures c.in-Some-get.ensures.lookup in
    let field = got c.in-Some-get.definition.now.fields _ c.in-Some.handle.now.position _ c.in-Some-get-2.field c.fields.ensures c.from-3.ensures c.in-Some-get-2.ensures.lookup in
    let p = err_from_is_err_and c.from_residual.result c.from_residual.ensures.1 in
    rw (p.1, p.2, handle, definition, field) (finds_refused _ _ _ c.in_err-field.ensures)

pub returns : goal.returns
returns c =
    let m = c.args.m.now in
    let home : c.module-module.result.now ≡ m = c.module-module.ensures.value in
    let table = c.field_handles.ensures ∙ ap (λ (n : Module). n.field_handles) home in
    let handle = got m.field_handles _ c.args.index _ c.in-Some.handle table c.from.ensures c.in-Some.ensures.lookup in
    let structs = c.structs.ensures.value ∙ ap (λ (n : Module). n.structs) home in
    let definition = got m.structs _ c.in-Some.handle.now.definition _ c.in-Some-get.definition structs c.from-2.ensures c.in-Some-get.ensures.lookup in
    let field = got c.in-Some-get.definition.now.fields _ c.in-Some.handle.now.position _ c.in-Some-get-2.field c.fields.ensures c.from-3.ensures c.in-Some-get-2.ensures.lookup in
    rw (handle, definition, field, c.in_ok-field.ensures, c.handle.ensures) refl
