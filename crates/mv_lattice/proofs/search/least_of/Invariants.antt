use Rattle.std.proofs.Common.{◌≤◌, take, All}
use Rattle.mv_lattice.proofs.search.least_of.Given as goal

abbrev pub invariant-loop-n : goal.invariant-loop-n
invariant-loop-n l = record {
  own : l.least ≤ l.k;
  each : All (λ m. l.least ≤ m) (take l.n-index l.successors);
}
