use Rattle.mv_linker.proofs.Common.{take, AllZip, tables_in, IsFoundAt}
use Rattle.mv_linker.proofs.rules.scope.Scope.defined_for.Given as goal

abbrev pub invariant-loop-d : goal.invariant-loop-d
invariant-loop-d l = AllZip (IsFoundAt (tables_in l.self.store.now) l.self.places.items) (take l.d-index l.names.structs.items) l.found.items
