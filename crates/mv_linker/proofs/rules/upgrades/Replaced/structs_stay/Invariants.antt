use Rattle.mv_linker.proofs.Common.{ℕ, ◌<◌, ◌≡◌, IsInterface, IsSound, Module, Some, StructDefinition, same_struct_definition, slice_get, tables_in, true}
use Rattle.mv_linker.proofs.rules.upgrades.Replaced.structs_stay.Given as goal

-- the structs so far stay
abbrev pub invariant-each : goal.invariant-each
invariant-each l =
    (m : Module) → slice_get (tables_in l.self.store.now) l.self.place ≡ Some m → IsInterface (tables_in l.self.store.now) m l.self.interface.now → IsSound m → (j : ℕ) (d e : StructDefinition) → j < l.k → slice_get m.structs j ≡ Some d → slice_get l.n.structs j ≡ Some e
    → same_struct_definition m d l.n e ≡ true
