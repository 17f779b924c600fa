use Rattle.mv_edges.proofs.Common.{◌++◌, ◌≡◌, drop, map, option_map, take, renamed_node}
use Rattle.mv_ways.proofs.provenances.steps.rename_sources.Given as goal

abbrev pub invariant-loop-source : goal.invariant-loop-source
invariant-loop-source l = l.sources ≡ map (option_map (renamed_node l.old l.new)) (take l.source-index l.fn.sources) ++ drop l.source-index l.fn.sources
