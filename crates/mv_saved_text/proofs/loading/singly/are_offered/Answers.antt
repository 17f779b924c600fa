use Rattle.mv_saved_text.proofs.Common.{arith}
use Rattle.mv_saved_text.proofs.Loads.Offering.{offered-more}
use Rattle.mv_saved_text.proofs.loading.singly.are_offered.Goals as goal

pub each-preserved : goal.each-preserved
each-preserved c = offered-more c.args.offers.now c.args.store.now c.each.place _ c.each.invariant c.each-test.true (omega arith) (c.is_offered.ensures c.if-not-is_offered.false)
