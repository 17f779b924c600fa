use Rattle.mv_saved_text.proofs.Common.{take}
use Rattle.mv_saved_text.proofs.Loads.CountedStructs.{IsAdding}
use Rattle.mv_saved_text.proofs.loading.balance.all_counts.Given as goal

abbrev pub invariant-each : goal.invariant-each
invariant-each l = IsAdding l.layouts l.storage.committed (take l.d-index l.d-items) l.counts
