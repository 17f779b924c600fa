use Rattle.mv_interface.specs.ByName.{names_at}
use Rattle.mv_interface.proofs.ByHalves.{PairsSoFar}
use Rattle.mv_interface.proofs.by_name.pairs_of.Given as goal

abbrev pub invariant-loop-i : goal.invariant-loop-i
invariant-loop-i l = PairsSoFar (names_at l.identifiers l.names) l.pairs.items l.i
