use Rattle.mv_linker.proofs.Common.{length}
use Rattle.mv_linker.proofs.store.Store.+are_parts.Given as goal

abbrev pub decreases-are_parts : goal.decreases-are_parts
decreases-are_parts l = length l.parts.now
