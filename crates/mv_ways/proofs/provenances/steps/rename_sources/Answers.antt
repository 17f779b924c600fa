use Rattle.mv_edges.proofs.Common.{None, option_map, renamed_node}
use Rattle.mv_ways.proofs.InPlace.{in_place}
use Rattle.mv_ways.proofs.provenances.steps.rename_sources.Goals as goal

pub loop-source-preserved : goal.loop-source-preserved
loop-source-preserved c =
    in_place (option_map (renamed_node c.args.old c.args.new)) c.args.sources.now c.loop-source.sources c.loop-source.source-index None c.renamed_source.result
    c.loop-source-test.true c.loop-source.auto.sources c.loop-source.invariant c.renamed_source.ensures
