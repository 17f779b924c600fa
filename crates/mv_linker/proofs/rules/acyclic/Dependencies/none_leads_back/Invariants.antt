use Rattle.mv_linker.proofs.Common.{modules_in}
use Rattle.mv_linker.proofs.Cycles.Searching.{IsSearchOfFirst}
use Rattle.mv_linker.proofs.rules.acyclic.Dependencies.none_leads_back.Given as goal

abbrev pub invariant-loop-k : goal.invariant-loop-k
invariant-loop-k l = IsSearchOfFirst (modules_in l.self.scope.now) l.base l.self.scope.now.places.items l.met l.done l.k
