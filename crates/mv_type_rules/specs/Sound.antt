-- What a module alone has to be, and the types at each instruction.
use Rattle.std.specs.Prelude.{ℕ, ◌+◌, List, [], ◌∷◌, flat_map, slice_range}
use Rattle.std.specs.Option.{option_map_or}
use Rattle.mv_move_types.specs.declared.instruction.Instruction.{Instruction}
use Rattle.mv_move_types.specs.Module.{Module, FunctionDefinition}
use Rattle.mv_bound_rules.specs.Bounds.{InBounds}
use Rattle.mv_bound_rules.specs.Definitions.{WellDefined}
use Rattle.mv_signatures.specs.Signatures.{WellSigned}
use Rattle.mv_abilities.specs.Abilities.{AbilitiesHold}
use Rattle.mv_cfg.specs.Blocks.{BasicBlock, blocks, FlowHolds}
use Rattle.mv_type_rules.specs.TypeRules.{Types, types_after}
use Rattle.mv_type_rules.specs.TypesHold.{TypesHold}

-- a module passes phases 3 to 8
pub record IsSound (m : Module) : Type 0 where
  pub bounds : InBounds m
  pub defined : WellDefined m
  pub signed : WellSigned m
  pub abilities : AbilitiesHold m
  pub flow : FlowHolds m
  pub types : TypesHold m

-- the phase is the first of 5 to 8 whose rules the module fails
pub data FailsTypes (m : Module) : ℕ → Type 0 where
  ill_signed : (WellSigned m → ⊥) → FailsTypes m 5
  unable : WellSigned m → (AbilitiesHold m → ⊥) → FailsTypes m 6
  endless : WellSigned m → AbilitiesHold m → (FlowHolds m → ⊥) → FailsTypes m 7
  ill_typed : WellSigned m → AbilitiesHold m → FlowHolds m → (TypesHold m → ⊥) → FailsTypes m 8

-- the types before each of these instructions
abbrev pub types_each : Module → FunctionDefinition → List Instruction → Types → List Types
types_each m d [] stack = []
types_each m d (i ∷ is) stack = stack ∷ option_map_or (types_each m d is) (types_after m d i stack) []

-- the types before each instruction of a block
abbrev pub types_in : Module → FunctionDefinition → BasicBlock → List Types
types_in m d b = types_each m d (slice_range d.code b.first (b.last + 1)) []

-- the types of the whole stack before each instruction of a function
abbrev pub types_before : Module → FunctionDefinition → List Types
types_before m d = flat_map (types_in m d) (blocks d.code)
