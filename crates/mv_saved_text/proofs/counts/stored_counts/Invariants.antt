use Rattle.mv_saved_text.proofs.Common.{length}
use Rattle.mv_saved_text.proofs.Loads.CountedStructs.{IsCounting}
use Rattle.mv_saved_text.proofs.counts.stored_counts.Given as goal

abbrev pub invariant-each : goal.invariant-each
invariant-each l = IsCounting l.layouts l.fn.storage.committed l.entries l.counts

abbrev pub decreases-each : goal.decreases-each
decreases-each l = length l.entries
