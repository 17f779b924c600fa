use Rattle.mv_edges.proofs.Common.{◌∙◌, arith, sym}
use Rattle.mv_edges.proofs.Passed.{ascending_take_more, ascending_one}
use Rattle.mv_edges.proofs.unordered.ascend.Goals as goal

pub loop-place-init : goal.loop-place-init
loop-place-init c = record { some = omega arith; ascend = ascending_one c.args.items.now }

pub loop-place-preserved : goal.loop-place-preserved
loop-place-preserved c =
    record {
      some = omega arith;
      ascend = ascending_take_more c.args.items.now c.loop-place.place c.index-items-place.result c.index-items-place-in-loop-place.result c.loop-place.invariant.some c.loop-place-test.true c.index-items-place.is c.index-items-place-in-loop-place.is (sym c.is_before.ensures ∙ c.if-not-is_before.false) c.loop-place.invariant.ascend;
    }
