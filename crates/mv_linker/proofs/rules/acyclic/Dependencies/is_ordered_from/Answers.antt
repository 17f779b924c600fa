use Rattle.mv_linker.proofs.Common.{[], ◌∙◌, ap, offered, refl, slice_get, tables_in}
use Rattle.mv_linker.proofs.Cycles.Finished.{ordered-by}
use Rattle.mv_linker.proofs.rules.acyclic.Dependencies.is_ordered_from.Goals as goal

pub returns-then-need_first_alone : goal.returns-then-need_first_alone
returns-then-need_first_alone c =
    let s = c.args.self.now.scope.now in
    let fits = c.requires.fits in
    let all = c.need_first_alone.ensures.0 c.if-need_first_alone.true in (
      λ yes. ordered-by (tables_in s.store.now) (offered s.new.now) fits.store.once fits.once fits.store.links.ordered c.args.base [] c.requires.finished (λ k p at. all k p (ap (λ l. slice_get l k) s.placed ∙ at)),
      λ ordered. refl,
    )
