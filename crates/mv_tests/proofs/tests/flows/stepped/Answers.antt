use Rattle.std.proofs.Common.{◌<◌, arith, length}
use Rattle.mv_borrow_graph.specs.Laws.{edges_lawful}
use Rattle.mv_tests.proofs.tests.flows.stepped.Goals as goal

pub loop-at-preserved : goal.loop-at-preserved
loop-at-preserved c =
    let domain = c.args.domain.now in
    let at = c.loop-at.at in
    let inside : at < length domain.function.code = omega (arith, c.requires, c.loop-at-test.true) in
    (edges_lawful domain.home domain.function).keeps at c.loop-at.edges c.in_ok-edges.edges inside c.loop-at.invariant c.in_ok-edges.ensures.ok
