use Rattle.mv_saved_text.proofs.Common.{arith, Boolean, Part}
use Rattle.mv_interface.specs.declared.shapes.Part.TheVariants.{Leaf}
use Rattle.mv_saved_text.proofs.Loads.Adding.{adds-struct, adds-more, adds-all}
use Rattle.mv_saved_text.proofs.loading.balance.+inside.Goals as goal

pub add_struct-returns-in-Some : goal.add_struct-returns-in-Some
add_struct-returns-in-Some t c =
    adds-struct c.args.layouts.now c.args.n c.len-modules.ensures.store c.args.depth c.args.d c.in-Some.parts.now c.args.counts.now c.add.new.self c.add_parts.new.counts c.if-depth-eq0.false
    c.in-Some.ensures c.add.ensures c.add_parts.ensures

pub add_parts-each-preserved : goal.add_parts-each-preserved
add_parts-each-preserved t c =
    let d : Part = Leaf Boolean in
    adds-more c.args.layouts.now c.args.n c.args.depth c.args.parts.now c.each.part-index d c.args.counts.now c.each.counts c.add_part.new.counts c.each-test.true c.each.invariant c.add_part.ensures

pub add_parts-returns : goal.add_parts-returns
add_parts-returns t c = adds-all c.args.layouts.now c.args.n c.args.depth c.args.parts.now c.each.part-index c.args.counts.now c.each.counts (omega arith) c.each.invariant
