-- What names stand for among modules: a module, a struct with its fields and abilities, a function.
--   is_module, have_one_name     whether a module has a name, and whether two have the same
--   module_place, module_named   where among modules the one of a name stands, and that module
--   is_struct m name d           whether a definition has this name
--   declared modules name        the abilities that a struct is declared with (declared_in: within one module)
--   function_place m name        the index of the function of a name
--   is_public d                  whether other modules may call a function
--   definition_of modules name   a struct's module, and its fields there
use Rattle.std.specs.Prelude.{Bool, true, false, ℕ, List, Option, option_and_then, slice_get, option_map, Some}
use Rattle.std.specs.Option.{option_map_or}
use Rattle.std.specs.Str.{bytes_eq}
use Rattle.mv_move_types.specs.Names.{ModuleName, same_module, StructName, same_struct}
use Rattle.mv_move_types.specs.Module.{Module, own_name, StructDefinition, FunctionDefinition, name_of_struct, name_of_function}
use Rattle.mv_move_types.specs.Options.{find_index, ◌>>=◌}
use Rattle.mv_move_types.specs.declared.token.Abilities.{Abilities}
use Rattle.mv_move_types.specs.declared.tables.Field.{Field}
use Rattle.mv_move_types.specs.declared.tables.Visibility.TheVariants.{Private, Public}

-- whether a module has this name
abbrev pub is_module : ModuleName → Module → Bool
is_module name m = option_map_or (λ own. same_module own name) (own_name m) false

-- whether two modules have one name
abbrev pub have_one_name : Module → Module → Bool
have_one_name m n = option_map_or (λ name. is_module name n) (own_name m) false

-- the place of the module with this name, and the module
abbrev pub module_place : List Module → ModuleName → Option ℕ
module_place modules name = find_index (is_module name) modules

-- the module with this name
abbrev pub module_named : List Module → ModuleName → Option Module
module_named modules name = option_and_then (slice_get modules) (module_place modules name)

-- whether a struct definition of the module has this name
abbrev pub is_struct : Module → StructName → StructDefinition → Bool
is_struct m name d = option_map_or (λ own. same_struct own name) (name_of_struct m d) false

-- the abilities that the module declares for its struct of this name
abbrev pub declared_in : StructName → Module → Option Abilities
declared_in name m =
    option_and_then (λ i.
    option_and_then (λ (d : StructDefinition).
    option_map (λ h. h.abilities) (slice_get m.struct_handles d.handle)) (slice_get m.structs i))
    (find_index (is_struct m name) m.structs)

-- the abilities that a struct is declared with
abbrev pub declared : List Module → StructName → Option Abilities
declared modules name = option_and_then (declared_in name) (module_named modules name.home)

-- the place of the module's function with this identifier
abbrev pub function_place : Module → List ℕ → Option ℕ
function_place m name = find_index (λ d. option_map_or (bytes_eq name) (name_of_function m d) false) m.functions

-- whether other modules may call a function
abbrev pub is_public : FunctionDefinition → Bool
is_public d = elim d.visibility [ Private ↦ false | Public ↦ true ]

-- a struct's module, and its fields there
abbrev pub definition_of : List Module → StructName → Option (Module × List Field)
definition_of modules name = do
  m ← module_named modules name.home
  i ← find_index (is_struct m name) m.structs
  d ← slice_get m.structs i
  Some (m, d.fields)
