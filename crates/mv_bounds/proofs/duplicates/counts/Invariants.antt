use Rattle.mv_bounds.proofs.Defined.{Counted}
use Rattle.mv_bounds.proofs.duplicates.counts.Given as goal

abbrev pub invariant-loop-x : goal.invariant-loop-x
invariant-loop-x l = Counted l.counts.items l.items l.n l.x-index
