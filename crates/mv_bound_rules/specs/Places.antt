-- Which definition each handle has, and what is known of a module that passed phases 3 and 4.
use Rattle.std.specs.Prelude.{◌≡◌, ◌<◌, ◌==◌, ℕ, List, length, map, Option, None, slice_index_or}
use Rattle.mv_move_types.specs.Options.{find_index}
use Rattle.mv_move_types.specs.Module.{Module, StructDefinition, FunctionDefinition}
use Rattle.mv_bound_rules.specs.Bounds.{InBounds}
use Rattle.mv_bound_rules.specs.Definitions.{WellDefined}
use Rattle.mv_bound_rules.specs.Functions.{codes_of}
use Rattle.mv_move_types.specs.declared.instruction.Instruction.{Instruction}

-- for each handle below a number, the first of the definitions of these handles that is its own, if there is one
pub record ArePlaces (defined : List ℕ) (handles : ℕ) (places : List (Option ℕ)) : Type 0 where
  pub len : length places ≡ handles
  pub each : (h : ℕ) → h < handles → slice_index_or places h None ≡ find_index (λ d. d == h) defined

-- so it is for the struct handles of a module
abbrev pub AreStructPlaces : Module → List (Option ℕ) → Type 0
AreStructPlaces m = ArePlaces (map (λ (d : StructDefinition). d.handle) m.structs) (length m.struct_handles)

-- and for its function handles
abbrev pub AreFunctionPlaces : Module → List (Option ℕ) → Type 0
AreFunctionPlaces m = ArePlaces (map (λ (d : FunctionDefinition). d.handle) m.functions) (length m.function_handles)

-- a module passed phases 3 and 4, and these are the definitions of its function handles and the code of each function
pub record IsBounded (m : Module) (places : List (Option ℕ)) (codes : List (List Instruction)) : Type 0 where
  pub bounds : InBounds m
  pub definitions : WellDefined m
  pub placed : AreFunctionPlaces m places
  pub coded : codes ≡ codes_of m
