use Rattle.mv_edges.proofs.Common.{◌+◌}
use Rattle.mv_ways.proofs.ProvenanceGraph.Passes.{says_more, says_whole}
use Rattle.mv_ways.proofs.provenances.ProvenanceGraph.origins_passing.Goals as goal

pub returns-then-is_always : goal.returns-then-is_always
returns-then-is_always g c =
    let test = g.P.NodeSet.test c.args.from.now in
    says_whole c.args.self.now.sources test c.args.position c.larger-passing.result c.args.origins.now (c.loop-origin.origin-index + 1) (c.is_always.ensures c.if-is_always.true)
    (says_more c.args.self.now.sources test c.args.position c.loop-origin.passing c.origin_passing.result c.larger-passing.result c.args.origins.now c.loop-origin.origin-index c.origin-item.result
    c.loop-origin-test.true c.origin-item.is c.loop-origin.invariant c.origin_passing.ensures c.larger-passing.ensures)

pub loop-origin-preserved : goal.loop-origin-preserved
loop-origin-preserved g c =
    says_more c.args.self.now.sources (g.P.NodeSet.test c.args.from.now) c.args.position c.loop-origin.passing c.origin_passing.result c.larger-passing.result c.args.origins.now c.loop-origin.origin-index c.origin-item.result
    c.loop-origin-test.true c.origin-item.is c.loop-origin.invariant c.origin_passing.ensures c.larger-passing.ensures
