-- Structs that a module of a store defines.
use Rattle.std.specs.Prelude.{◌≡◌, ℕ, List, Some}
use Rattle.mv_move_types.specs.Names.{StructName}
use Rattle.mv_move_types.specs.Module.{Module, StructDefinition, name_of_struct}
use Rattle.mv_move_types.specs.Named.{is_struct, definition_of}
use Rattle.mv_move_types.specs.Options.{find_index}

-- a struct of a module is found by its name
pub record IsOwn (modules : List Module) (home : Module) (i : ℕ) (d : StructDefinition) : Type 0 where
  pub name : StructName
  pub named : name_of_struct home d ≡ Some name
  pub index : find_index (is_struct home name) home.structs ≡ Some i
  pub definition : definition_of modules name ≡ Some (home, d.fields)
