use Rattle.mv_linker.proofs.Common.{◌∙◌, ◌≡◌, AreCodesOf, List, PublishedModule, Some, ap, arith, get_or, length, refl, slice_get, slice_get_read, subst, tables_in}
use Rattle.mv_linker.proofs.LinkedCode.StoredCodes.{code-below, size-below, size-is}
use Rattle.mv_linker.proofs.store.Store.size.Goals.{After-index}
use Rattle.mv_linker.proofs.store.Store.size.Goals as goal

-- the codes are those of its modules
codes-are : (c : After-index) → AreCodesOf (tables_in c.args.self.now) c.self.inside.codes.items
codes-are c = subst (λ (s : List PublishedModule). AreCodesOf (tables_in s) c.self.inside.codes.items) c.self.view_is c.self.invariant.2

-- the code of the struct's module
at-place : (c : After-index) → slice_get c.self.inside.codes.items c.args.d.place ≡ Some c.index.result.now
at-place c =
    let codes = c.self.inside.codes.items in
    let code = c.index.result.now in
    slice_get_read codes (length codes) c.args.d.place code refl (code-below (tables_in c.args.self.now) codes c.args.d (codes-are c) c.requires) (c.index.ensures ∙ ap (λ k. get_or codes k code) c.from.ensures)

pub index-requires-2 : goal.index-requires-2
index-requires-2 c =
    let here = (goal.at.index-requires-2 c).After-index in
    let below = size-below (tables_in c.args.self.now) c.self.inside.codes.items c.args.d c.index.result.now (codes-are here) c.requires (at-place here) in
    omega (arith, below, c.from-2.ensures, c.index.result.now.sizes.ok.0)

pub returns : goal.returns
returns c =
    let here = (goal.at.returns c).After-index in
    let sizes = c.index.result.now.sizes.items in
    let size = c.index-2.result.now in
    let low = size-below (tables_in c.args.self.now) c.self.inside.codes.items c.args.d c.index.result.now (codes-are here) c.requires (at-place here) in
    size-is (tables_in c.args.self.now) c.self.inside.codes.items c.args.d c.index.result.now size (codes-are here) c.requires (at-place here)
    (slice_get_read sizes (length sizes) c.args.d.index size refl low (c.index-2.ensures ∙ ap (λ k. get_or sizes k size) c.from-2.ensures))
