use Rattle.mv_interface.proofs.Common.{length}
use Rattle.mv_interface.proofs.types.+same_tokens.Given as goal

abbrev pub decreases-same_tokens : goal.decreases-same_tokens
decreases-same_tokens l = length l.ts.now
