use Rattle.mv_type_states.proofs.Common.{◌++◌, ◌∙◌, ap, refl, slice_get}
use Rattle.mv_type_states.proofs.LocalLemmas.{local_type-is}
use Rattle.mv_type_states.proofs.scope.Scope.local.Goals as goal

pub returns-in-Some : goal.returns-in-Some
returns-in-Some c =
    let s = c.args.self.now in
    let tokens = s.parameters.now ++ s.others.now in
    local_type-is s.module.now s.function.now tokens c.args.index c.among.result c.requires.locals (c.among.ensures ∙ ap (slice_get tokens) c.from.ensures) ∙ c.in-Some.is

pub returns-in-None : goal.returns-in-None
returns-in-None c =
    let s = c.args.self.now in
    let tokens = s.parameters.now ++ s.others.now in
    (refl, local_type-is s.module.now s.function.now tokens c.args.index c.among.result c.requires.locals (c.among.ensures ∙ ap (slice_get tokens) c.from.ensures) ∙ c.in-None.is)
