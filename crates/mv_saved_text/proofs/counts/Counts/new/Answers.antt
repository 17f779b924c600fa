use Rattle.mv_saved_text.proofs.Common.{arith, rules}
use Rattle.mv_saved_text.proofs.Loads.CountedStructs.{rows-more}
use Rattle.mv_saved_text.proofs.counts.Counts.new.Goals as goal

pub each-preserved : goal.each-preserved
each-preserved c =
    rows-more c.args.layouts.now c.each.place c.each.rows.items c.push.new.self.items c.in_ok-vec.field-0 (omega arith) c.each.invariant c.in_ok-push.ensures.items (search rules)
