-- The tables of a module whose parts lie in memory of their own.
use Rattle.std.specs.Prelude.{List, [], ◌∷◌}
use Rattle.mv_move_types.specs.Versions.{version_number}
use Rattle.mv_move_types.specs.Module.{Module}
use Rattle.mv_binary_format.specs.declared.module.Parts.{Parts}
use Rattle.mv_binary_format.specs.Parsing.{no_tables}

-- the parts as tables
abbrev pub tables_of_parts : Parts → Module
tables_of_parts p = record {
  version = version_number p.version;
  module_handles = p.module_handles.items;
  struct_handles = p.struct_handles.items;
  function_handles = p.function_handles.items;
  signatures = p.signatures.items;
  constants = p.constants.items;
  identifiers = p.identifiers.items;
  addresses = p.addresses.items;
  structs = p.structs.items;
  functions = p.functions.items;
  field_handles = p.field_handles.items;
  own = p.own;
}

-- the tables of the only one
abbrev pub tables_held : List Parts → Module
tables_held [] = no_tables
tables_held (p ∷ _) = tables_of_parts p
