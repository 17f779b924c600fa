use Rattle.std.proofs.Common.{◌≡◌, replicate, None}
use Rattle.mv_lattice.proofs.search.first_states.Given as goal

abbrev pub invariant-loop : goal.invariant-loop
invariant-loop g l = l.states.items ≡ replicate l.counter None
