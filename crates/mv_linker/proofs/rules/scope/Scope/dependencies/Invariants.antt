use Rattle.mv_linker.proofs.Common.{offered, modules_in}
use Rattle.mv_linker.proofs.Cycles.DependencyLemmas.{DependenciesSoFar}
use Rattle.mv_linker.proofs.rules.scope.Scope.dependencies.Given as goal

abbrev pub invariant-loop-k : goal.invariant-loop-k
invariant-loop-k l = DependenciesSoFar (modules_in l.self) (offered l.self.new.now) l.all.items l.k
