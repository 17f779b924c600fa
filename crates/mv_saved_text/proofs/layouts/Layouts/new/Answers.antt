use Rattle.mv_saved_text.proofs.Common.{◌<◌, arith, length, length-map, PublishedModule, element_at, tables_in}
use Rattle.mv_saved_text.proofs.Saves.LayoutParts.{keyed-more}
use Rattle.mv_saved_text.proofs.layouts.Layouts.new.Goals as goal

pub each-preserved : goal.each-preserved
each-preserved c =
    let modules = tables_in c.args.store.now in
    let low : c.each.place < length modules = omega (arith, length-map c.args.store.now (λ (p : PublishedModule). p.tables), c.each-test.true, c.len-place-end.ensures.count) in
    let m = element_at modules c.each.place low in
    keyed-more modules c.each.place m.0 c.each.keyed.items c.put_keyed.new.keyed.items m.1 c.each.invariant (c.in_ok-put_keyed.ensures m.0 m.1)
