use Rattle.mv_type_states.proofs.Common.{◌++◌, ◌∙◌, ◌≡◌, Some, ap, refl, reverse, err_from_is_err_and, Module, ◌>>=◌}
use Rattle.mv_type_states.proofs.Found.{got, missed, signature_at}
use Rattle.mv_type_states.proofs.Stacks.{none-after}
use Rattle.mv_type_states.proofs.rules.control.call.Goals as goal

pub returns-in_default : goal.returns-in_default
returns-in_default c =
    let m = c.args.m.now in
    let home : c.module-module.result.now ≡ m = c.module-module.ensures.value in
    let table = c.function_handles.ensures ∙ ap (λ (n : Module). n.function_handles) home in
    (refl, rw (missed m.function_handles _ c.args.index _ table c.from.ensures c.in_default.ensures.lookup) refl)

pub returns-in_default-signature : goal.returns-in_default-signature
returns-in_default-signature c =
    let m = c.args.m.now in
    let home : c.module-module.result.now ≡ m = c.module-module.ensures.value in
    let table = c.function_handles.ensures ∙ ap (λ (n : Module). n.function_handles) home in
    let handle = got m.function_handles _ c.args.index _ c.in-Some.handle table c.from.ensures c.in-Some.ensures.lookup in
    let parameters = signature_at m _ _ _ _ home c.from-2.ensures c.in_default-signature.ensures.value in
    (refl, rw (handle, parameters) refl)

pub returns-in_default-signature-2 : goal.returns-in_default-signature-2
returns-in_default-signature-2 c =
    let m = c.args.m.now in
    let home : c.module-module.result.now ≡ m = c.module-module.ensures.value in
    let table = c.function_handles.ensures ∙ ap (λ (n : Module). n.function_handles) home in
    let handle = got m.function_handles _ c.args.index _ c.in-Some.handle table c.from.ensures c.in-Some.ensures.lookup in
    let parameters = signature_at m _ _ _ _ home c.from-2.ensures c.in-Some-signature.ensures.value in
    let results = signature_at m _ _ _ _ home c.from-3.ensures c.in_default-signature-2.ensures.value in
    (refl, rw (handle, parameters, results) refl)

pub returns-in_err-pop_all : goal.returns-in_err-pop_all
returns-in_err-pop_all c =
    let m = c.args.m.now in
    let home : c.module-module.result.now ≡ m = c.module-module.ensures.value in
    let table = c.function_handles.ensures ∙ ap (λ (n : Module). n.function_handles) home in
    let handle = got m.function_handles _ c.args.index _ c.in-Some.handle table c.from.ensures c.in-Some.ensures.lookup in
    let parameters = signature_at m _ _ _ _ home c.from-2.ensures c.in-Some-signature.ensures.value in
    let results = signature_at m _ _ _ _ home c.from-3.ensures c.in-Some-signature-2.ensures.value in
    let p = err_from_is_err_and c.from_residual.result c.from_residual.ensures.1 in
    rw (p.1, p.2, handle, parameters, results)
    (none-after _ _ _ (λ none. ap (λ o. o >>= λ below. Some (reverse c.in-Some-signature-2.results.now ++ below)) none) c.in_err-pop_all.ensures.types)

pub returns : goal.returns
returns c =
    let m = c.args.m.now in
    let home : c.module-module.result.now ≡ m = c.module-module.ensures.value in
    let table = c.function_handles.ensures ∙ ap (λ (n : Module). n.function_handles) home in
    let handle = got m.function_handles _ c.args.index _ c.in-Some.handle table c.from.ensures c.in-Some.ensures.lookup in
    let parameters = signature_at m _ _ _ _ home c.from-2.ensures c.in-Some-signature.ensures.value in
    let results = signature_at m _ _ _ _ home c.from-3.ensures c.in-Some-signature-2.ensures.value in
    rw (handle, parameters, results, c.in_ok-pop_all.ensures.types) c.push_all.ensures
