use Rattle.mv_cfg.proofs.Tables.{IsMarkedUpTo}
use Rattle.mv_cfg.proofs.branch_targets.Given as goal

abbrev pub invariant-loop-instruction : goal.invariant-loop-instruction
invariant-loop-instruction l = IsMarkedUpTo l.code l.instruction-index l.marks.items
