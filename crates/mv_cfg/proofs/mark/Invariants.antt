use Rattle.mv_cfg.proofs.Tables.{IsMarkedTo}
use Rattle.mv_cfg.proofs.mark.Given as goal

abbrev pub invariant-loop-k : goal.invariant-loop-k
invariant-loop-k l = IsMarkedTo l.k l.initial.blocks l.marks l.blocks
