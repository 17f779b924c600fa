use Rattle.mv_ledger.proofs.Common.{length}
use Rattle.mv_ledger.proofs.executing.+are_passed.Given as goal

abbrev pub decreases-are_passed : goal.decreases-are_passed
decreases-are_passed l = length l.types.now
