use Rattle.mv_saved_text.proofs.Common.{Boolean, Part}
use Rattle.mv_interface.specs.declared.shapes.Part.TheVariants.{Leaf}
use Rattle.mv_saved_text.proofs.Saves.LayoutParts.{puts-struct, put-more}
use Rattle.mv_saved_text.proofs.layouts.Layouts.+kinds.Goals as goal

pub put_struct-returns : goal.put_struct-returns
put_struct-returns t c =
    puts-struct c.args.self.now c.len-modules.ensures.store c.args.depth c.args.d c.in-Some.parts.now c.in_ok-there.there c.args.kinds.now.items c.put_parts.new.kinds.items c.if-depth-eq0.false
    c.in-Some.ensures c.in_ok-there.ensures

pub put_parts-each-preserved : goal.put_parts-each-preserved
put_parts-each-preserved t c =
    let d : Part = Leaf Boolean in
    put-more c.args.self.now c.args.depth c.args.parts.now c.each.part-index d c.each-test.true c.args.kinds.now.items c.each.kinds.items c.each.invariant c.in_ok-there.there
    c.put_part.new.kinds.items c.if-not-there.false c.in_ok-there.ensures
