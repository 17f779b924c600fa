use Rattle.mv_borrow_graph.proofs.Reborrows.{reborrows_more, reborrows_all}
use Rattle.mv_borrow_graph.proofs.rules.calls.reborrows_of.Goals as goal

pub loop-i-preserved : goal.loop-i-preserved
loop-i-preserved c = λ es.
    reborrows_more c.args.mutable.now c.args.all.now c.args.place c.loop-i.i c.args.results.now _ c.loop-i.reborrows.items c.push_reborrow.new.reborrows.items es
    c.loop-i-test.true (c.in_ok-push_reborrow.ensures es) (c.loop-i.invariant es)

pub returns : goal.returns
returns c = λ es.
    reborrows_all c.args.mutable.now c.args.all.now c.args.place c.loop-i.i c.args.results.now c.loop-i.reborrows.items es c.loop-i-test.false (c.loop-i.invariant es)
