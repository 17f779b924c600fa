use Rattle.mv_edges.proofs.Common.{None}
use Rattle.mv_ways.specs.Between.{but_at}
use Rattle.mv_ways.proofs.InPlace.{in_place}
use Rattle.mv_ways.proofs.provenances.steps.remove_sources.Goals as goal

pub loop-source-preserved : goal.loop-source-preserved
loop-source-preserved c =
    in_place (but_at c.args.n) c.args.sources.now c.loop-source.sources c.loop-source.source-index None c.left_of.result c.loop-source-test.true c.loop-source.auto.sources
    c.loop-source.invariant c.left_of.ensures
