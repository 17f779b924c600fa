use Rattle.mv_type_states.proofs.Common.{◌∙◌, ap, refl, Module}
use Rattle.mv_type_states.proofs.Found.{missed}
use Rattle.mv_type_states.proofs.rules.structs.pack.Goals as goal

pub returns-in_default : goal.returns-in_default
returns-in_default c =
    let m = c.args.m.now in
    let table = c.structs.ensures.value ∙ ap (λ (n : Module). n.structs) c.module.ensures.value in
    (refl, rw (missed m.structs _ c.args.index _ table c.from.ensures c.in_default.ensures.lookup) refl)
