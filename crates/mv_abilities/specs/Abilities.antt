-- The abilities of types, and that fields have what their structs need.
--   value_type_abilities, token_abilities m t   the abilities of a type, without references and with them
--   field_is_able m s f                         a field has what its struct's abilities ask for: store for a struct with store or key
--   struct_is_able m d                          each field of a struct has what they ask for
--   AbilitiesHold m                             phase 6: this holds of every struct
-- implies is a part of these.
use Rattle.std.specs.Prelude.{Option, Some, slice_get, Bool, not, ◌||◌, false, ◌&&◌, IsTrue}
use Rattle.std.specs.Option.{option_map_or}
use Rattle.std.specs.List.{list_all}
use Rattle.mv_move_types.specs.declared.token.ValueType.{ValueType}
use Rattle.mv_move_types.specs.declared.token.ValueType.TheVariants.{OfLeaf, OfStruct}
use Rattle.mv_move_types.specs.declared.token.Abilities.{Abilities}
use Rattle.mv_move_types.specs.Options.{◌>>=◌}
use Rattle.mv_move_types.specs.Module.{Module, StructDefinition, struct_abilities}
use Rattle.mv_move_types.specs.AbilitySets.{leaf_abilities, reference_abilities}
use Rattle.mv_move_types.specs.declared.token.Token.{Token}
use Rattle.mv_move_types.specs.declared.token.Token.TheVariants.{Plain, Reference, MutableReference}
use Rattle.mv_move_types.specs.declared.tables.Field.{Field}

-- the abilities of a type, where a struct has what its handle declares
abbrev pub value_type_abilities : Module → ValueType → Option Abilities
value_type_abilities m (OfLeaf kind) = Some (leaf_abilities kind)
value_type_abilities m (OfStruct h) = slice_get m.struct_handles h >>= λ handle. Some handle.abilities

-- the abilities of a type, references included
abbrev pub token_abilities : Module → Token → Option Abilities
token_abilities m (Plain t) = value_type_abilities m t
token_abilities m (Reference t) = Some reference_abilities
token_abilities m (MutableReference t) = Some reference_abilities

-- the second where the first holds
abbrev pub implies : Bool → Bool → Bool
implies a b = not a || b

-- the field has what its struct's abilities ask for
abbrev pub field_is_able : Module → Abilities → Field → Bool
field_is_able m s f =
    option_map_or (λ a. implies s.copy a.copy && implies s.drop a.drop && implies (s.store || s.key) a.store) (token_abilities m f.token) false

-- each field has what the struct's abilities ask for
abbrev pub struct_is_able : Module → StructDefinition → Bool
struct_is_able m d = option_map_or (λ s. list_all (field_is_able m s) d.fields) (struct_abilities m d) false

-- in every struct
abbrev pub AbilitiesHold : Module → Type 0
AbilitiesHold m = IsTrue (list_all (struct_is_able m) m.structs)
