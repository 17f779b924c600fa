-- The scope of a function.
use Rattle.std.specs.Prelude.{◌≡◌, ◌++◌, ℕ, Some, slice_get}
use Rattle.mv_move_types.specs.Module.{Module, local_tokens}
use Rattle.mv_type_states.specs.declared.scope.Scope.{Scope}

-- the scope has the function at its place, and the types of its locals
pub record IsScope (s : Scope) : Type 0 where
  pub at : slice_get s.module.now.functions s.place ≡ Some s.function.now
  pub locals : local_tokens s.module.now s.function.now ≡ Some (s.parameters.now ++ s.others.now)

-- the scope is that of the function at a place
pub record IsScopeOf (m : Module) (f : ℕ) (s : Scope) : Type 0 where
  pub home : s.module.now ≡ m
  pub function : slice_get m.functions f ≡ Some s.function.now
  pub scope : IsScope s
