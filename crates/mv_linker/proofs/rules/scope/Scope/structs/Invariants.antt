use Rattle.mv_linker.specs.Targets.{modules_in}
use Rattle.mv_linker.proofs.Joining.Resolving.{StructsSoFar}
use Rattle.mv_linker.proofs.rules.scope.Scope.structs.Given as goal

abbrev pub invariant-loop-h : goal.invariant-loop-h
invariant-loop-h l = StructsSoFar (modules_in l.self) l.m l.found.items l.h
