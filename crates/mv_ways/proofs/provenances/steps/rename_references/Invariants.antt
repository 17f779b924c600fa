use Rattle.mv_edges.proofs.Common.{◌++◌, ◌≡◌, drop, map, take}
use Rattle.mv_ways.specs.Provenances.{moved_reference}
use Rattle.mv_ways.proofs.provenances.steps.rename_references.Given as goal

abbrev pub invariant-loop-r : goal.invariant-loop-r
invariant-loop-r l = l.references ≡ map (moved_reference l.old l.new) (take l.r-index l.fn.references) ++ drop l.r-index l.fn.references
