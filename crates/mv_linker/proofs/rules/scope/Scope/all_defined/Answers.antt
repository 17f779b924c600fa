use Rattle.mv_linker.proofs.Common.{[], ◌++◌, ◌+◌, ◌<◌, ◌∙◌, ◌∷◌, ◌≡◌, Global, List, Some, Vec, ap, arith, length, map, refl, slice_get, subst, sym, take, map-append, slice_get_read, AllZip}
use Rattle.mv_linker.proofs.Common.{tables_in, offered, AreFoundFor, modules_in, Defined}
use Rattle.mv_linker.proofs.Kept.HandleDefinitions.{struct-there, zip-more}
use Rattle.mv_linker.proofs.rules.scope.Scope.all_defined.Goals as goal
use Rattle.mv_bound_rules.proofs.Entries.{element_at}

pub defined_for-requires : goal.defined_for-requires
defined_for-requires c = λ k x e.
    let names = c.args.names.now in
    let i = c.loop-n.n-index in
    let n = c.n-item.result in
    let low : i < length (offered c.args.self.now.new.now) = omega (arith, c.loop-n-test.true, c.requires.len) in
    let m = element_at (offered c.args.self.now.new.now) i low in
    let at : slice_get names i ≡ Some n = slice_get_read names (length names) i n refl c.loop-n-test.true c.n-item.is in
    struct-there (modules_in c.args.self.now) m.0 k x ((c.requires.each i m.0 n m.1 at).structs.each k x e)

pub loop-n-preserved : goal.loop-n-preserved
loop-n-preserved c =
    let s = c.args.self.now in
    let names = c.args.names.now in
    let i = c.loop-n.n-index in
    let n = c.n-item.result in
    let items : List (Vec Defined Global) → List (List Defined) = map (λ (v : Vec Defined Global). v.items) in
    let v = c.in_ok-defined_for.field-0 in
    let at : slice_get names i ≡ Some n = slice_get_read names (length names) i n refl c.loop-n-test.true c.n-item.is in
    let pushed : items c.push.new.self.items ≡ items c.loop-n.found.items ++ v.items ∷ [] =
    ap items c.in_ok-push.ensures.items ∙ map-append (λ (v : Vec Defined Global). v.items) c.loop-n.found.items (v ∷ []) in
    subst (λ (l : List (List Defined)). AllZip (AreFoundFor (tables_in s.store.now) s.places.items) (take (i + 1) names) l) (sym pushed)
    (zip-more (AreFoundFor (tables_in s.store.now) s.places.items) names (items c.loop-n.found.items) i n v.items c.loop-n.invariant at c.in_ok-defined_for.ensures)
