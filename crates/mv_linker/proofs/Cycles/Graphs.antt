-- Chains of modules, and modules that handles name.
use Rattle.mv_linker.proofs.Common.{[], ℕ, ◌<◌, ◌≡◌, List, Module, ModuleName, Reaches, Some, arith, directly, further, is_module, module_name, modules_are_there, own_name}
use Rattle.mv_linker.proofs.Common.{slice_get, true}
use Rattle.mv_linker.proofs.Lemmas.{any-among, at-among, is_module-is}
use Rattle.mv_linker.proofs.Joining.Resolving.{modules_there_at}

-- no chain stands in an empty store
pub no_chain : (m n : Module) → Reaches [] m n → ⊥
no_chain m n (directly a b (k, low, is) hasn d) = omega (arith, low)
no_chain m n (further a b c first second) = no_chain m b first

-- a module that a handle names is in the store
pub named_there : (store : List Module) (m : Module) (k h : ℕ) (name : ModuleName) → modules_are_there store m k ≡ true → h < k → module_name m h ≡ Some name
    → (p : ℕ) × (n : Module) × (slice_get store p ≡ Some n) × (own_name n ≡ Some name)
named_there store m k h name all low e =
    let some = any-among (is_module name) store (rw e at (modules_there_at store m k h low all)) in
    let at = at-among store some.0 some.1 in
    (at.0, some.0, at.1, is_module-is name some.0 some.2)
