-- Whether a module has what a handle of another one names.
--   struct_matches m handle n home   the struct, with the abilities of the handle, where `home` is the name of the module
--   function_matches m handle n      the function, as the handle says
--   IsOf m handle n home             a module handle is of the module, which has this name
use Rattle.std.specs.Prelude.{◌≡◌, ℕ, Bool, false, List, Some, slice_get}
use Rattle.std.specs.Option.{option_map_or}
use Rattle.mv_move_types.specs.declared.tables.FunctionHandle.{FunctionHandle}
use Rattle.mv_move_types.specs.declared.tables.StructHandle.{StructHandle}
use Rattle.mv_move_types.specs.Names.{ModuleName}
use Rattle.mv_move_types.specs.AbilitySets.{same_abilities}
use Rattle.mv_move_types.specs.Module.{Module, module_name, own_name}
use Rattle.mv_move_types.specs.Named.{declared_in, is_struct}
use Rattle.mv_move_types.specs.Options.{find_index}
use Rattle.mv_bound_rules.specs.Definitions.{WellDefined}
use Rattle.mv_link_rules.specs.StoreRules.{function_fits, function_named}

-- a handle of a module is of another one, which is well defined
pub record IsOf (m : Module) (handle : ℕ) (n : Module) (home : ModuleName) : Type 0 where
  pub named : module_name m handle ≡ Some home
  pub own : own_name n ≡ Some home
  pub defined : WellDefined n

-- the struct that a handle names is at this index of the module
abbrev pub IsStructOf : Module → StructHandle → Module → ModuleName → ℕ → Type 0
IsStructOf m handle n home k =
    (name : List ℕ) × (slice_get m.identifiers handle.name ≡ Some name) × (find_index (is_struct n (record { home = home; name = name })) n.structs ≡ Some k)

-- whether a module has the struct that a handle of another names, with the handle's abilities
abbrev pub struct_matches : Module → StructHandle → Module → ModuleName → Bool
struct_matches m handle n home =
    option_map_or (λ name. option_map_or (same_abilities handle.abilities) (declared_in (record { home = home; name = name }) n) false)
    (slice_get m.identifiers handle.name) false

-- whether a module has the function that a handle of another names, as the handle says
abbrev pub function_matches : Module → FunctionHandle → Module → Bool
function_matches m handle n =
    option_map_or (λ name. option_map_or (function_fits m handle n) (function_named n name) false) (slice_get m.identifiers handle.name) false
