use Rattle.mv_bound_rules.proofs.Common.{◌∙◌, ap, refl, Module}
use Rattle.mv_bound_rules.proofs.Entries.{got, missed}
use Rattle.mv_bound_rules.proofs.Bounded.has_key.Goals as goal

pub returns-in_default : goal.returns-in_default
returns-in_default c =
    let m = c.args.self.now in
    let structs = c.structs.ensures.value ∙ ap (λ (n : Module). n.structs) c.module-module.ensures.value in
    rw (missed m.structs _ c.args.definition _ structs c.from.ensures c.in_default.ensures.lookup) refl

pub returns-in-Some-get : goal.returns-in-Some-get
returns-in-Some-get c =
    let m = c.args.self.now in
    let structs = c.structs.ensures.value ∙ ap (λ (n : Module). n.structs) c.module-module.ensures.value in
    let handles = c.struct_handles.ensures ∙ ap (λ (n : Module). n.struct_handles) c.module-module.ensures.value in
    let definition = got m.structs _ c.args.definition _ c.in-Some.definition structs c.from.ensures c.in-Some.ensures.lookup in
    let handle = got m.struct_handles _ c.in-Some.definition.now.handle _ c.in-Some-get.handle handles (c.from-2.ensures ∙ c.handle.ensures) c.in-Some-get.ensures.lookup in
    rw (definition, handle) refl

pub returns-in-None : goal.returns-in-None
returns-in-None c =
    let m = c.args.self.now in
    let structs = c.structs.ensures.value ∙ ap (λ (n : Module). n.structs) c.module-module.ensures.value in
    let handles = c.struct_handles.ensures ∙ ap (λ (n : Module). n.struct_handles) c.module-module.ensures.value in
    let definition = got m.structs _ c.args.definition _ c.in-Some.definition structs c.from.ensures c.in-Some.ensures.lookup in
    rw (definition, missed m.struct_handles _ c.in-Some.definition.now.handle _ handles (c.from-2.ensures ∙ c.handle.ensures) c.in-None.ensures.lookup) refl
