use Rattle.mv_ways.specs.Provenances.{edges_of}
use Rattle.mv_ways.proofs.ProvenanceGraph.Stating.{given_more}
use Rattle.mv_ways.proofs.provenances.ProvenanceGraph.given_to.Goals as goal

pub loop-reborrow-preserved : goal.loop-reborrow-preserved
loop-reborrow-preserved c =
    given_more (edges_of c.args.self.now) c.args.reborrows.now c.loop-reborrow.reborrow-index c.reborrow-item.result c.reborrow-item.result c.loop-reborrow.given.items c.push.new.self.items c.in_ok-edges.edges c.givers.result.now
    c.loop-reborrow-test.true c.reborrow-item.is c.givers.ensures c.loop-reborrow.invariant c.in_ok-edges.ensures c.in_ok-push.ensures.items
