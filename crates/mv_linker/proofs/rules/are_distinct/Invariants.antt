use Rattle.mv_linker.proofs.Common.{take}
use Rattle.mv_linker.proofs.Kept.IndexLemmas.{SeenSoFar}
use Rattle.mv_linker.proofs.rules.are_distinct.Given as goal

abbrev pub invariant-loop-i : goal.invariant-loop-i
invariant-loop-i l = SeenSoFar l.names.entries (take l.i l.added) l.differ
