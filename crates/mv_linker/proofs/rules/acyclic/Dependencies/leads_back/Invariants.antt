use Rattle.mv_linker.proofs.Common.{◌+◌, length, modules_in}
use Rattle.mv_linker.proofs.Cycles.Searching.{IsSearch, left}
use Rattle.mv_linker.proofs.rules.acyclic.Dependencies.leads_back.Given as goal

abbrev pub invariant-search : goal.invariant-search
invariant-search l = IsSearch (modules_in l.self.scope.now) l.base l.start l.fn.done l.chain.items l.met l.done

abbrev pub decreases-search : goal.decreases-search
decreases-search l = left l.met (length (modules_in l.self.scope.now)) + left l.done (length (modules_in l.self.scope.now))
