use Rattle.mv_edges.proofs.Common.{◌++◌, ◌≡◌, drop, map, take}
use Rattle.mv_ways.specs.Between.{but_at}
use Rattle.mv_ways.proofs.provenances.steps.remove_sources.Given as goal

abbrev pub invariant-loop-source : goal.invariant-loop-source
invariant-loop-source l = l.sources ≡ map (but_at l.n) (take l.source-index l.fn.sources) ++ drop l.source-index l.fn.sources
