use Rattle.mv_linker.proofs.Common.{◌∙◌, ap, module_place, name_in, refl, tables_in}
use Rattle.mv_linker.proofs.Kept.Keyed.{place-keyed}
use Rattle.mv_linker.proofs.store.Store.find.Goals as goal

pub returns : goal.returns
returns c =
    let asked = c.asked_for.result in
    c.get_index_of.ensures.index ∙ place-keyed _ (name_in asked) (λ k. refl) c.self.inside.modules.entries c.self.invariant.1 ∙ ap (λ s. module_place (tables_in s) (name_in asked)) c.self.view_is
    ∙ ap (module_place (tables_in c.args.self.now)) c.asked_for.ensures
