use Rattle.mv_lattice.specs.Search.{NoneBefore}
use Rattle.mv_lattice.proofs.search.first_waiting.Given as goal

abbrev pub invariant-loop-k : goal.invariant-loop-k
invariant-loop-k l = NoneBefore l.waiting l.k
