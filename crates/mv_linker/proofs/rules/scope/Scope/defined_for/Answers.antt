use Rattle.mv_linker.proofs.Common.{◌+◌, ◌∙◌, ◌≡◌, List, Some, ap, get_or, slice_get, subst, sym, take, slice_get-get_or, AllZip, Definition, tables_in, IsFoundAt, Defined}
use Rattle.mv_linker.proofs.Kept.HandleDefinitions.{zip-more}
use Rattle.mv_linker.proofs.rules.scope.Scope.defined_for.Goals as goal

pub loop-d-preserved : goal.loop-d-preserved
loop-d-preserved c =
    let s = c.args.self.now in
    let ds = c.args.names.now.structs.items in
    let read = c.deref-d-items.result.now in
    let i = c.loop-d.d-index in
    let d = get_or read i (record { place = 0; index = 0 }) in
    let at : slice_get ds i ≡ Some d =
    ap (λ (l : List Definition). slice_get l i) (sym {A = List Definition} c.deref-d-items.ensures.value) ∙ slice_get-get_or read i (record { place = 0; index = 0 }) c.loop-d-test.true in
    subst (λ (l : List Defined). AllZip (IsFoundAt (tables_in s.store.now) s.places.items) (take (i + 1) ds) l) (sym {A = List Defined} c.in_ok-push.ensures.items)
    (zip-more (IsFoundAt (tables_in s.store.now) s.places.items) ds c.loop-d.found.items i d c.defined.result c.loop-d.invariant at c.defined.ensures)
