-- What the structs of a module are made of.
--   IsPart modules m t part       a field of a type is made of this
--   AreParts modules m fields parts  fields are made of these
--   AreFieldsAt modules d parts   those of the struct at a place and an index are; or there is no such struct
--   is_keyed modules d            the struct at a place and an index is there and has key
--   structs_in modules place      how many structs the module at a place defines
use Rattle.std.specs.Prelude.{◌≡◌, ℕ, Bool, true, false, is_some, List, length, map, Option, Some, None, slice_get}
use Rattle.std.specs.List.{AllZip}
use Rattle.std.specs.Option.{option_map_or}
use Rattle.mv_move_types.specs.declared.tables.Definition.{Definition}
use Rattle.mv_move_types.specs.declared.tables.Field.{Field}
use Rattle.mv_move_types.specs.declared.token.ValueType.TheVariants.{OfLeaf, OfStruct}
use Rattle.mv_move_types.specs.declared.token.Token.{Token}
use Rattle.mv_move_types.specs.declared.token.Token.TheVariants.{Plain}
use Rattle.mv_move_types.specs.Options.{◌>>=◌}
use Rattle.mv_move_types.specs.Module.{Module, StructDefinition, struct_abilities, struct_name}
use Rattle.mv_interface.specs.declared.shapes.Part.{Part}
use Rattle.mv_interface.specs.declared.shapes.Part.TheVariants.{Leaf, Struct, Nothing}
use Rattle.mv_interface.specs.Handles.{IsStructAt}

-- a type is one that a field can have: a leaf's, or that of a struct which a handle names
abbrev pub is_of_value : Module → Token → Bool
is_of_value m (Plain (OfLeaf kind)) = true
is_of_value m (Plain (OfStruct h)) = is_some (struct_name m h)
is_of_value m _ = false

-- a field of this type is made of the part
abbrev pub IsPart : List Module → Module → Token → Part → Type 0
IsPart modules m t (Leaf kind) = t ≡ Plain (OfLeaf kind)
IsPart modules m t (Struct d) = (h : ℕ) × (t ≡ Plain (OfStruct h)) × IsStructAt modules m h d
IsPart modules m t Nothing = is_of_value m t ≡ false

-- fields are made of these parts, in order
abbrev pub AreParts : List Module → Module → List Field → List Part → Type 0
AreParts modules m fields parts = AllZip (λ (f : Field) part. IsPart modules m f.token part) fields parts

-- the fields of the struct at a place and an index are made of these
pub record IsMadeOf (modules : List Module) (d : Definition) (parts : List Part) : Type 0 where
  pub home : Module
  pub definition : StructDefinition
  pub there : slice_get modules d.place ≡ Some home
  pub defined : slice_get home.structs d.index ≡ Some definition
  pub fields : AreParts modules home definition.fields parts

-- the same, or there is no such struct
abbrev pub AreFieldsAt : List Module → Definition → Option (List Part) → Type 0
AreFieldsAt modules d None = (slice_get modules d.place >>= λ m. slice_get m.structs d.index) ≡ None
AreFieldsAt modules d (Some parts) = IsMadeOf modules d parts

-- a struct definition has key
abbrev pub has_key : Module → StructDefinition → Bool
has_key m d = option_map_or (λ a. a.key) (struct_abilities m d) false

-- the struct at a place and an index is there and has key
abbrev pub is_keyed : List Module → Definition → Bool
is_keyed modules d = option_map_or (λ m. option_map_or (has_key m) (slice_get m.structs d.index) false) (slice_get modules d.place) false

-- how many structs the module at a place defines; none, where no module is
abbrev pub structs_in : List Module → ℕ → ℕ
structs_in modules place = option_map_or (λ m. length m.structs) (slice_get modules place) 0

-- Below: what is computed for them.

-- of what a field of a type is made, by where the structs of the handles are defined
abbrev pub part_by : List Definition → Token → Part
part_by structs (Plain (OfLeaf kind)) = Leaf kind
part_by structs (Plain (OfStruct h)) = option_map_or (λ d. Struct d) (slice_get structs h) Nothing
part_by structs _ = Nothing

-- of what fields are made, in order
abbrev pub parts_by : List Definition → List Field → List Part
parts_by structs fields = map (λ f. part_by structs f.token) fields
