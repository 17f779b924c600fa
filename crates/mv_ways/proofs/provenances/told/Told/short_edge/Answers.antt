use Rattle.mv_edges.proofs.Common.{◌<◌, ◌∙◌, arith, length, sym}
use Rattle.std.proofs.Math.ListN.{length-set}
use Rattle.mv_ways.proofs.Told.{positions_more}
use Rattle.mv_ways.proofs.provenances.told.Told.short_edge.Goals as goal

pub loop-place-preserved : goal.loop-place-preserved
loop-place-preserved c =
    let inv = c.loop-place.invariant in
    let long = inv.room in
    let test = c.loop-place-test.true in
    let few = c.if-count-gt8.false in
    let inside : c.loop-place.place < length c.loop-place.room = omega (arith, long, test, few) in
    record {
      room = length-set c.loop-place.room c.loop-place.place c.in_ok-room.field-0 ∙ long;
      same = positions_more c.loop-place.room c.args.self.now.label.path c.loop-place.place c.in_ok-room.field-0 inside inv.same (sym c.in_ok-room.was ∙ c.position.ensures);
    }
