-- Which phase refuses a module.
use Rattle.std.specs.Prelude.{ℕ}
use Rattle.mv_move_types.specs.Module.{Module}
use Rattle.mv_bound_rules.specs.Bounds.{InBounds}
use Rattle.mv_bound_rules.specs.Definitions.{WellDefined}

-- the phase is the first of 3 and 4 whose rules the module fails
pub data FailsBounds (m : Module) : ℕ → Type 0 where
  out_of_bounds : (InBounds m → ⊥) → FailsBounds m 3
  ill_defined : InBounds m → (WellDefined m → ⊥) → FailsBounds m 4
