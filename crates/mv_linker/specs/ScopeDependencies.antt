-- What is known of the dependencies of the modules of a scope.
use Rattle.std.specs.Prelude.{◌≡◌, ℕ, List, length, Some, slice_get}
use Rattle.mv_move_types.specs.Module.{Module}
use Rattle.mv_linker.specs.DependencyGraph.{AreNeeds}

-- the places that the module at a place depends on
abbrev pub AreNeedsAt : List Module → ℕ → List ℕ → Type 0
AreNeedsAt modules place needs = (m : Module) → slice_get modules place ≡ Some m → AreNeeds modules m needs

-- those of each module of a bundle, in order
pub record AreDependenciesIn (modules bundle : List Module) (all : List (List ℕ)) : Type 0 where
  pub len : length all ≡ length bundle
  pub each : (k : ℕ) (n : Module) (needs : List ℕ) → slice_get bundle k ≡ Some n → slice_get all k ≡ Some needs → AreNeeds modules n needs
