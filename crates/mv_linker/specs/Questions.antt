-- What a store is asked by names.
--   struct_place modules name    where the struct of a name is defined
--   texts_of published name      the bytes of the module of a name, and those of its certificate
use Rattle.std.specs.Prelude.{ℕ, List, Option, Some, slice_get}
use Rattle.mv_move_types.specs.declared.tables.Definition.{Definition}
use Rattle.mv_move_types.specs.Module.{Module}
use Rattle.mv_move_types.specs.Named.{is_struct, module_place}
use Rattle.mv_move_types.specs.Names.{ModuleName, StructName}
use Rattle.mv_move_types.specs.Options.{◌>>=◌, find_index}
use Rattle.mv_move_types.specs.Published.{PublishedModule}
use Rattle.mv_link_rules.specs.Link.{tables_in}

-- the place of a struct's module in the order of publication, and the struct's index there
abbrev pub struct_place : List Module → StructName → Option Definition
struct_place modules name = do
  place ← module_place modules name.home
  m ← slice_get modules place
  index ← find_index (is_struct m name) m.structs
  Some (record { place = place; index = index })

-- the bytes of the module of a name, and those of the certificate that it was checked with
abbrev pub texts_of : List PublishedModule → ModuleName → Option (List ℕ × List ℕ)
texts_of published name = do
  place ← module_place (tables_in published) name
  p ← slice_get published place
  Some (p.text, p.certificate)
