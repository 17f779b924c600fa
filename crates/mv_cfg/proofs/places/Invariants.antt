use Rattle.mv_cfg.proofs.Tables.{IsPlacedUpTo}
use Rattle.mv_cfg.proofs.places.Given as goal

abbrev pub invariant-loop-k : goal.invariant-loop-k
invariant-loop-k l = IsPlacedUpTo l.size l.firsts l.k l.places.items
