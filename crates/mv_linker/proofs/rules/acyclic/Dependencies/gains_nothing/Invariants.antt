use Rattle.mv_linker.proofs.Common.{◌≡◌, ◌<◌, ℕ, Some, modules_in, slice_get, tables_in}
use Rattle.mv_linker.proofs.Cycles.Finished.{GainsNothingAt}
use Rattle.mv_linker.proofs.rules.acyclic.Dependencies.gains_nothing.Given as goal

abbrev pub invariant-loop-k : goal.invariant-loop-k
invariant-loop-k l = (k p : ℕ) → k < l.k → slice_get l.self.scope.now.places.items k ≡ Some p → GainsNothingAt (tables_in l.self.scope.now.store.now) (modules_in l.self.scope.now) p
