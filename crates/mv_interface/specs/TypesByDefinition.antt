-- Types of a module against types as they are kept, in which a struct stands as where it is defined.
--   is_type structs token type       whether a type of a module is a kept one, where `structs` has where the structs of its handles are defined
--   are_types structs tokens types   whether types of a module are kept ones, in order
use Rattle.std.specs.Prelude.{◌==◌, Bool, true, false, ◌&&◌, List, [], ◌∷◌, slice_get}
use Rattle.std.specs.Option.{option_map_or}
use Rattle.mv_move_types.specs.declared.tables.Definition.{Definition}
use Rattle.mv_move_types.specs.declared.token.ValueType.{ValueType}
use Rattle.mv_move_types.specs.declared.token.ValueType.TheVariants.{OfLeaf, OfStruct}
use Rattle.mv_move_types.specs.declared.token.Token.{Token}
use Rattle.mv_move_types.specs.declared.token.Token.TheVariants.{Plain, Reference, MutableReference}
use Rattle.mv_move_types.specs.Tokens.{same_kind}
use Rattle.mv_interface.specs.declared.interface.LinkedType.{LinkedType}
use Rattle.mv_interface.specs.declared.interface.LinkedType.TheVariants.{Plain as Value, Reference as ReferenceTo, MutableReference as MutableReferenceTo}
use Rattle.mv_interface.specs.declared.shapes.Part.{Part}
use Rattle.mv_interface.specs.declared.shapes.Part.TheVariants.{Leaf, Struct}

-- whether two structs are defined at one place and one index
abbrev pub same_definition : Definition → Definition → Bool
same_definition d e = (d.place == e.place) && (d.index == e.index)

-- whether a type that is no reference is a kept one
abbrev pub is_part : List Definition → ValueType → Part → Bool
is_part structs (OfLeaf a) (Leaf b) = same_kind a b
is_part structs (OfStruct h) (Struct e) = option_map_or (λ d. same_definition d e) (slice_get structs h) false
is_part structs _ _ = false

-- whether a type is a kept one
abbrev pub is_type : List Definition → Token → LinkedType → Bool
is_type structs (Plain t) (Value p) = is_part structs t p
is_type structs (Reference t) (ReferenceTo p) = is_part structs t p
is_type structs (MutableReference t) (MutableReferenceTo p) = is_part structs t p
is_type structs _ _ = false

-- whether types are kept ones, in order
abbrev pub are_types : List Definition → List Token → List LinkedType → Bool
are_types structs [] [] = true
are_types structs (t ∷ ts) (k ∷ ks) = is_type structs t k && are_types structs ts ks
are_types structs _ _ = false
