use Rattle.std.proofs.Common.{◌≡◌, ◌<◌, arith, length, subst, Some}
use Rattle.mv_borrow_graph.specs.Domain.{edges_step}
use Rattle.mv_borrow_graph.specs.Laws.{edges_lawful}
use Rattle.mv_tests.proofs.tests.flows.listed.Goals as goal

pub loop-at-preserved : goal.loop-at-preserved
loop-at-preserved c =
    let domain = c.args.domain.now in
    let at = c.loop-at.at in
    let inside : at < length domain.function.code = omega (arith, c.requires, c.loop-at-test.true) in
    let step : edges_step domain.home domain.function at c.loop-at.edges ≡ Some c.in_ok-edges.edges =
    subst (λ s. edges_step domain.home domain.function at s ≡ Some c.in_ok-edges.edges) c.in_ok-list.ensures c.in_ok-edges.ensures.ok in
    (edges_lawful domain.home domain.function).keeps at c.loop-at.edges c.in_ok-edges.edges inside c.loop-at.invariant step
