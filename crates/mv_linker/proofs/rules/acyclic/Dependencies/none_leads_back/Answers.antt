use Rattle.mv_linker.proofs.Common.{◌∙◌, ap, arith, length, offered, refl, slice_get, slice_get_read, sym, tables_in}
use Rattle.mv_linker.proofs.Cycles.DependenciesStay.{place-there}
use Rattle.mv_linker.proofs.Cycles.Finished.{each-all, ordered-by}
use Rattle.mv_linker.proofs.rules.acyclic.Dependencies.none_leads_back.Goals as goal

pub leads_back-requires-clause-start : goal.leads_back-requires-clause-start
leads_back-requires-clause-start c =
    let s = c.args.self.now.scope.now in
    let at = slice_get_read s.places.items (length s.places.items) c.loop-k.k c.index-place.result.now refl (omega (arith, c.loop-k-test.true, c.len-k-end.ensures, s.places.ok.0)) c.index-place.ensures in
    place-there (tables_in s.store.now) (offered s.new.now) s.once c.loop-k.k c.index-place.result.now (ap (λ l. slice_get l c.loop-k.k) (sym s.placed) ∙ at)

pub returns : goal.returns
returns c =
    let s = c.args.self.now.scope.now in
    let fits = c.requires.fits in
    let searched = c.loop-k.invariant in (
      λ yes. ordered-by (tables_in s.store.now) (offered s.new.now) fits.store.once fits.once fits.store.links.ordered c.args.base c.loop-k.done searched.finished
          (λ k p at q e. searched.finished.closed p q (each-all s.places.items c.loop-k.k searched.each (omega (arith, c.loop-k-test.false, c.len-k-end.ensures, s.places.ok.0)) k p (ap (λ l. slice_get l k) s.placed ∙ at)) e),
      λ ordered. refl,
    )
