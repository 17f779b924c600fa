use Rattle.mv_linker.proofs.Common.{ℕ, ◌<◌, ◌≡◌, FunctionDefinition, IsInterface, IsSound, Module, Some, function_stays, slice_get, tables_in, true}
use Rattle.mv_linker.proofs.rules.upgrades.Replaced.functions_stay.Given as goal

-- the functions so far stay
abbrev pub invariant-each : goal.invariant-each
invariant-each l =
    (m : Module) → slice_get (tables_in l.self.store.now) l.self.place ≡ Some m → IsInterface (tables_in l.self.store.now) m l.self.interface.now → IsSound m → (j : ℕ) (d : FunctionDefinition) → j < l.k → slice_get m.functions j ≡ Some d → function_stays m l.n d ≡ true
