-- The structs with neither copy nor drop, whose values are counted.
use Rattle.std.specs.Prelude.{ℕ, Bool, false, not, ◌&&◌, List, slice_get}
use Rattle.std.specs.Option.{option_map_or}
use Rattle.mv_move_types.specs.declared.token.Abilities.{Abilities}
use Rattle.mv_move_types.specs.Module.{Module, StructDefinition, struct_abilities}

-- whether a struct of a module has neither copy nor drop
abbrev pub is_scarce_struct : Module → StructDefinition → Bool
is_scarce_struct m d = option_map_or (λ (a : Abilities). not a.copy && not a.drop) (struct_abilities m d) false

-- the same of the struct that a module defines at an index
abbrev pub is_scarce_at : Module → ℕ → Bool
is_scarce_at m i = option_map_or (is_scarce_struct m) (slice_get m.structs i) false

-- the same of the struct at a place in the order of publication and an index
abbrev pub is_scarce_in : List Module → ℕ → ℕ → Bool
is_scarce_in modules place index = option_map_or (λ m. is_scarce_at m index) (slice_get modules place) false
