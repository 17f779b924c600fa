use Rattle.mv_linker.proofs.Common.{[], ◌++◌, ◌<◌, ◌∙◌, ◌∷◌, ◌≡◌, ◌≤◌, Global, List, Option, Some, Vec, ap, arith, length, map, option_map, refl, slice_get, sym, take, length-map, map-append}
use Rattle.mv_linker.proofs.Common.{slice_get-map, slice_get_read, Module, offered, next_rows, New, Defined, Size}
use Rattle.mv_linker.proofs.Joining.Assembling.{offered-at}
use Rattle.mv_linker.proofs.StructSizes.Rounds.{rows_more, rows_all}
use Rattle.mv_linker.proofs.rules.sizes.next_rows.Goals as goal

pub loop-i-preserved : goal.loop-i-preserved
loop-i-preserved c =
    let items : List (Vec (Option Size) Global) → List (List (Option Size)) = map (λ (r : Vec (Option Size) Global). r.items) in
    let rows = items c.args.rows.now in
    let modules = offered c.args.bundle.now in
    let handles : List (List Defined) = map (λ (d : Vec Defined Global). d.items) c.args.defined.now in
    let i = c.loop-i.i in
    let n = c.index-bundle-i.result in
    let m = c.module-m.result.now in
    let d = c.index-defined-i.result in
    let low : i < length c.args.defined.now = omega (arith, c.loop-i-test.true, c.requires) in
    let row = c.in_ok-row_of.field-0 in
    let at_module : slice_get modules i ≡ Some m =
    offered-at c.args.bundle.now i n (slice_get_read c.args.bundle.now (length c.args.bundle.now) i n refl c.loop-i-test.true c.index-bundle-i.is) ∙ ap (λ (x : Module). Some x) (sym (c.module-m.ensures.value ∙ ap (λ (x : New). x.module) (sym c.index-bundle-i.is))) in
    let at_handles : slice_get handles i ≡ Some c.deref.result.now =
    slice_get-map (λ (d : Vec Defined Global). d.items) c.args.defined.now i ∙ ap (option_map (λ (d : Vec Defined Global). d.items)) (slice_get_read c.args.defined.now (length c.args.defined.now) i d refl low c.index-defined-i.is)
    ∙ ap (λ (l : List Defined). Some l) (sym c.deref.ensures.value) in
    ap items c.in_ok-push.ensures.items ∙ map-append (λ (r : Vec (Option Size) Global). r.items) c.loop-i.next.items (row ∷ [])
    ∙ ap (λ (l : List (List (Option Size))). l ++ row.items ∷ []) c.loop-i.invariant
    ∙ ap (λ (r : List (Option Size)). next_rows rows (take i modules) (take i handles) ++ r ∷ []) c.in_ok-row_of.ensures
    ∙ sym (rows_more rows modules handles i m c.deref.result.now at_module at_handles)

pub returns : goal.returns
returns c =
    let modules = offered c.args.bundle.now in
    let handles : List (List Defined) = map (λ (d : Vec Defined Global). d.items) c.args.defined.now in
    let long : length modules ≤ c.loop-i.i = omega (arith, c.loop-i-test.false, length-map c.args.bundle.now (λ (n : New). n.module)) in
    c.loop-i.invariant ∙ rows_all (map (λ (r : Vec (Option Size) Global). r.items) c.args.rows.now) modules handles c.loop-i.i long
