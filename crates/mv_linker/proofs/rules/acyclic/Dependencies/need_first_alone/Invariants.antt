use Rattle.mv_linker.proofs.Common.{◌≡◌, ◌<◌, [], ℕ, Some, modules_in, slice_get}
use Rattle.mv_linker.specs.Finished.{LeadsToFinished}
use Rattle.mv_linker.proofs.rules.acyclic.Dependencies.need_first_alone.Given as goal

abbrev pub invariant-loop-k : goal.invariant-loop-k
invariant-loop-k l = (k p : ℕ) → k < l.k → slice_get l.self.scope.now.places.items k ≡ Some p → LeadsToFinished (modules_in l.self.scope.now) l.base [] p
