use Rattle.mv_linker.proofs.Common.{length}
use Rattle.mv_linker.proofs.store.Store.+are_types.Given as goal

abbrev pub decreases-are_types : goal.decreases-are_types
decreases-are_types l = length l.kept.now
