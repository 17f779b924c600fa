-- The order of modules: which depend on which, by their places, and that none depends on itself.
use Rattle.std.specs.Prelude.{◌≡◌, ◌↔◌, ℕ, ◌<◌, not, ◌==◌, IsTrue, List, length, filter, Some, slice_get}
use Rattle.mv_move_types.specs.Options.{◌>>=◌}
use Rattle.mv_move_types.specs.Module.{Module, module_name}
use Rattle.mv_move_types.specs.Named.{module_place}
use Rattle.mv_bit_sets.specs.BitSets.{has}
use Rattle.mv_link_rules.specs.StoreRules.{depends_on, Reaches}

-- no module of the store depends on itself by a chain
abbrev pub IsOrdered : List Module → Type 0
IsOrdered modules = (m : Module) → Reaches modules m m → ⊥

-- the places of the modules that a module's handles name, its own among them
pub record AreHandlePlaces (modules : List Module) (m : Module) (places : List ℕ) : Type 0 where
  pub len : length places ≡ length m.module_handles
  pub each : (h p : ℕ) → slice_get places h ≡ Some p → (module_name m h >>= module_place modules) ≡ Some p

-- a module depends on those that stand at the places of which something is said
pub record DependsOnThose (modules : List Module) (m : Module) (IsSaid : ℕ → Type 0) : Type 0 where
  pub there : (j : ℕ) → IsSaid j → j < length modules
  pub each : (j : ℕ) (n : Module) → slice_get modules j ≡ Some n → IsSaid j ↔ IsTrue (depends_on m n)

-- the set of the places of the modules that a module depends on
abbrev pub AreNeeds : List Module → Module → List ℕ → Type 0
AreNeeds modules m needs = DependsOnThose modules m (λ j. IsTrue (has needs j))

-- the places other than a module's own
abbrev pub others : ℕ → List ℕ → List ℕ
others own places = filter (λ p. not (p == own)) places
