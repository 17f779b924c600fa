use Rattle.mv_linker.specs.Targets.{modules_in}
use Rattle.mv_linker.proofs.Joining.Resolving.{TargetsSoFar}
use Rattle.mv_linker.proofs.rules.scope.Scope.targets.Given as goal

abbrev pub invariant-loop-h : goal.invariant-loop-h
invariant-loop-h l = TargetsSoFar (modules_in l.self) l.m l.targets.items l.h
