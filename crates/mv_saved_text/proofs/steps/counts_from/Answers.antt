use Rattle.mv_saved_text.proofs.Common.{arith, Definition}
use Rattle.mv_saved_text.proofs.Saves.Steps.{count-few, counted-more, counted-values}
use Rattle.mv_saved_text.proofs.steps.counts_from.Goals as goal

-- no struct
abbrev none : Definition
none = record { place = 0; index = 0 }

pub overflow_cast-count : goal.overflow_cast-count
overflow_cast-count c =
    let few = count-few c.args.layouts.now c.args.storage.now.committed c.len-modules.ensures.store c.args.counts.now c.requires c.keyed-keyed.result.now c.keyed-keyed.ensures c.each.at none
    c.each-test.true c.iter-entries.ensures.few in
    omega (arith, c.at-count.ensures, few)

pub returns-then-count-gt0 : goal.returns-then-count-gt0
returns-then-count-gt0 c =
    counted-values c.args.layouts.now c.args.storage.now.committed c.len-modules.ensures.store c.args.counts.now c.requires c.keyed-keyed.result.now c.keyed-keyed.ensures c.each.at none
    c.each-test.true c.at-count.result c.at-count.ensures c.args.i c.each.text.items c.write.new.out.items c.each.invariant c.in_ok-write.ensures.written

pub each-preserved : goal.each-preserved
each-preserved c =
    counted-more c.args.layouts.now c.args.storage.now.committed c.len-modules.ensures.store c.args.counts.now c.requires c.keyed-keyed.result.now c.keyed-keyed.ensures c.each.at none
    c.each-test.true c.at-count.result c.at-count.ensures c.args.i c.each.text.items c.write.new.out.items c.each.invariant c.in_ok-write.ensures.written (omega (arith, c.if-count-gt0.false))
