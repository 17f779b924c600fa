use Rattle.mv_bound_rules.proofs.Common.{◌∙◌, ◌≡◌, Some, ap, get_or, length, refl, subst, sym, slice_get_read, slice_get, Module, InBounds, IsDefined}
use Rattle.std.proofs.lemmas.Option.{slice_get-get_or}
use Rattle.mv_bound_rules.proofs.FunctionLemmas.{is_defined, handle_below}
use Rattle.mv_bound_rules.proofs.Bounded.defined.Goals as goal

pub returns : goal.returns
returns c =
    let m = c.module-module.result.now in
    let d = c.index-functions-f.result in
    let at : slice_get m.functions c.args.f ≡ Some d =
    slice_get_read m.functions (length m.functions) c.args.f d refl (rw c.module-module.ensures.value c.requires) (c.index-functions-f.is ∙ ap (λ fs. get_or fs c.args.f d) c.functions.ensures.value) in
    let bounds : InBounds m = subst InBounds (sym c.module-module.ensures.value) c.module-module.ensures.bounds in
    let below = handle_below m bounds c.args.f d at in
    let place = c.from.ensures ∙ c.handle.ensures in
    let h = get_or c.function_handles.result.now c.from.result record { «module» = 0; name = 0; parameters = 0; results = 0 } in
    let named : slice_get m.function_handles d.handle ≡ Some h =
    slice_get-get_or m.function_handles d.handle record { «module» = 0; name = 0; parameters = 0; results = 0 } below.0
    ∙ ap (λ i. Some (get_or m.function_handles i record { «module» = 0; name = 0; parameters = 0; results = 0 })) (sym place)
    ∙ ap (λ hs. Some (get_or hs c.from.result record { «module» = 0; name = 0; parameters = 0; results = 0 })) (sym c.function_handles.ensures) in
    subst (λ (n : Module). IsDefined n c.args.f d h) c.module-module.ensures.value (is_defined m bounds c.args.f d h at named)
