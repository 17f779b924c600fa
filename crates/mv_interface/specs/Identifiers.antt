-- The identifiers of the structs that a module defines.
use Rattle.std.specs.Prelude.{ℕ, List, Option, slice_get}
use Rattle.mv_move_types.specs.Options.{◌>>=◌}
use Rattle.mv_move_types.specs.Module.{Module, StructDefinition}

-- the identifier of a struct definition
abbrev pub struct_identifier : Module → StructDefinition → Option (List ℕ)
struct_identifier m d = do
  handle ← slice_get m.struct_handles d.handle
  slice_get m.identifiers handle.name
