use Rattle.mv_linker.proofs.Common.{Global, Vec, map, take, AllZip, tables_in, AreFoundFor, Defined}
use Rattle.mv_linker.proofs.rules.scope.Scope.all_defined.Given as goal

abbrev pub invariant-loop-n : goal.invariant-loop-n
invariant-loop-n l = AllZip (AreFoundFor (tables_in l.self.store.now) l.self.places.items) (take l.n-index l.names) (map (λ (v : Vec Defined Global). v.items) l.found.items)
