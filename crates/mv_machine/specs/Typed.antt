-- Which values are of a type, and which storage is of its keys' structs.
use Rattle.std.specs.Prelude.{ℕ, ◌^◌, Bool, false, nat_lt, true, ◌&&◌, List, [], ◌∷◌, Option, slice_get}
use Rattle.std.specs.Option.{option_map_or}
use Rattle.std.specs.List.{list_all}
use Rattle.mv_move_types.specs.declared.token.LeafKind.{LeafKind}
use Rattle.mv_move_types.specs.declared.token.LeafKind.TheVariants.{Boolean, Number, Address, Signer}
use Rattle.mv_move_types.specs.Tokens.{width_bits, same_kind}
use Rattle.mv_module_text.specs.Fits.{address_fits}
use Rattle.mv_move_types.specs.declared.token.ValueType.TheVariants.{OfLeaf, OfStruct}
use Rattle.mv_move_types.specs.declared.token.Token.{Token}
use Rattle.mv_move_types.specs.declared.token.Token.TheVariants.{Plain}
use Rattle.mv_move_types.specs.Names.{same_struct, StructName}
use Rattle.mv_move_types.specs.Module.{Module, struct_name, struct_abilities, name_at}
use Rattle.mv_machine.specs.Value.{Value, Leaf, Struct, Ref, Values, NoMore, More}
use Rattle.mv_move_types.specs.Named.{definition_of}
use Rattle.mv_move_types.specs.declared.token.Abilities.{Abilities}
use Rattle.mv_move_types.specs.Options.{◌>>=◌}
use Rattle.mv_machine.specs.State.{Entry, Storage}
use Rattle.mv_move_types.specs.declared.tables.Field.{Field}

-- the number is one of the kind
abbrev pub leaf_fits : LeafKind → ℕ → Bool
leaf_fits Boolean n = nat_lt n 2
leaf_fits (Number w) n = nat_lt n (2 ^ width_bits w)
leaf_fits Address n = address_fits n
leaf_fits Signer n = false

-- whether a value is of a type that a module names, and values of its fields' types, at any depth
abbrev mutual
  pub is_of_type : List Module → Module → Token → Value → Bool
  is_of_type modules m (Plain (OfLeaf k)) (Leaf j n) = same_kind j k && leaf_fits k n
  is_of_type modules m (Plain (OfStruct h)) (Struct name fields) =
      option_map_or (λ own. same_struct own name) (struct_name m h) false
      && option_map_or (λ d. are_of_types modules d.0 d.1 fields) (definition_of modules name) false
  is_of_type modules m token (Leaf j n) = false
  is_of_type modules m token (Struct name fields) = false
  is_of_type modules m token (Ref r) = false

  pub are_of_types : List Module → Module → List Field → Values → Bool
  are_of_types modules m [] NoMore = true
  are_of_types modules m (f ∷ fs) NoMore = false
  are_of_types modules m [] (More v vs) = false
  are_of_types modules m (f ∷ fs) (More v vs) = is_of_type modules m f.token v && are_of_types modules m fs vs

-- whether a value is one of this struct
abbrev pub is_of_struct : List Module → StructName → Value → Bool
is_of_struct modules own (Struct name fields) =
    same_struct own name && option_map_or (λ d. are_of_types modules d.0 d.1 fields) (definition_of modules name) false
is_of_struct modules own (Leaf j n) = false
is_of_struct modules own (Ref r) = false

-- the abilities of the struct at a place and an index
abbrev pub abilities_at : List Module → ℕ → ℕ → Option Abilities
abilities_at modules place index = do
  m ← slice_get modules place
  d ← slice_get m.structs index
  struct_abilities m d

-- whether a stored value is one of its key's struct, which has key
abbrev pub is_fine_entry : List Module → Entry → Bool
is_fine_entry modules e =
    address_fits e.key.address
    && option_map_or (λ name. is_of_struct modules name e.value) (name_at modules e.key.place e.key.index) false
    && option_map_or (λ a. a.key) (abilities_at modules e.key.place e.key.index) false

-- each stored value is one of its key's struct
abbrev pub is_fine_storage : List Module → Storage → Bool
is_fine_storage modules storage = list_all (is_fine_entry modules) storage
