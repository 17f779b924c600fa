use Rattle.mv_interface.proofs.Common.{length}
use Rattle.mv_interface.proofs.by_definition.+are_types.Given as goal

abbrev pub decreases-are_types : goal.decreases-are_types
decreases-are_types l = length l.tokens.now
