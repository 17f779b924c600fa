use Rattle.mv_saved_text.proofs.Common.{FlatEntry}
use Rattle.mv_saved_text.proofs.Loads.CountedStructs.{count-more}
use Rattle.mv_saved_text.proofs.counts.stored_counts.Goals as goal

pub each-preserved : goal.each-preserved
each-preserved c =
    let e : FlatEntry = record { key = c.in-Some.key; words = c.in-Some.field-0-1.now } in
    count-more c.args.layouts.now c.args.storage.now.committed c.each.entries c.next.new.self c.each.counts c.add.new.self e c.in-Some.ensures c.iter-entries.ensures.few c.each.invariant c.add.ensures
