use Rattle.mv_linker.proofs.Common.{◌<◌, ◌≡◌, AreCodesOf, List, PublishedModule, Some, arith, length, length-map, refl, slice_get, slice_get_read, subst}
use Rattle.mv_linker.proofs.Common.{tables_in}
use Rattle.mv_linker.proofs.store.Store.needs_at.Goals as goal

pub returns : goal.returns
returns c m m_at =
    let modules = tables_in c.args.self.now in
    let codes = c.self.inside.codes.items in
    let are : AreCodesOf modules codes = subst (λ (s : List PublishedModule). AreCodesOf (tables_in s) codes) c.self.view_is c.self.invariant.2 in
    let low : c.args.place < length codes = omega (arith, are.len, length-map c.args.self.now (λ (p : PublishedModule). p.tables), c.requires) in
    let at : slice_get codes c.args.place ≡ Some c.index.result.now = slice_get_read codes (length codes) c.args.place c.index.result.now refl low c.index.ensures in
    (are.each c.args.place m c.index.result.now m_at at).needs
