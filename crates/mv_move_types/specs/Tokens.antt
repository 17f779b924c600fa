-- Widths, kinds of leaves and types: their sizes, and when two are one.
--   width_bits, width_bytes                    how long a number of a width is
--   same_width, same_kind                      whether two widths, or two kinds of leaves, are one
--   same_value_type, same_token, same_tokens   whether two types of one module are one: without references, with them, and lists
-- kind_code is a part of these.
use Rattle.std.specs.Prelude.{ℕ, Bool, ◌==◌, false, true, ◌&&◌, List, [], ◌∷◌}
use Rattle.mv_move_types.specs.declared.token.Width.{Width}
use Rattle.mv_move_types.specs.declared.token.Width.TheVariants.{U8, U16, U32, U64, U128}
use Rattle.mv_move_types.specs.declared.token.LeafKind.{LeafKind}
use Rattle.mv_move_types.specs.declared.token.LeafKind.TheVariants.{Boolean, Number, Address, Signer}
use Rattle.mv_move_types.specs.declared.token.ValueType.{ValueType}
use Rattle.mv_move_types.specs.declared.token.ValueType.TheVariants.{OfLeaf, OfStruct}
use Rattle.mv_move_types.specs.declared.token.Token.{Token}
use Rattle.mv_move_types.specs.declared.token.Token.TheVariants.{Plain, Reference, MutableReference}

-- the bits of a number of a width
abbrev pub width_bits : Width → ℕ
width_bits U8 = 8
width_bits U16 = 16
width_bits U32 = 32
width_bits U64 = 64
width_bits U128 = 128

-- the bytes of a number of a width
abbrev pub width_bytes : Width → ℕ
width_bytes U8 = 1
width_bytes U16 = 2
width_bytes U32 = 4
width_bytes U64 = 8
width_bytes U128 = 16

-- whether two widths are one
abbrev pub same_width : Width → Width → Bool
same_width v w = width_bits v == width_bits w

-- a number for each kind of leaf
abbrev pub kind_code : LeafKind → ℕ
kind_code Boolean = 0
kind_code Address = 1
kind_code Signer = 2
kind_code (Number w) = width_bits w

-- whether two kinds are one
abbrev pub same_kind : LeafKind → LeafKind → Bool
same_kind a b = kind_code a == kind_code b

-- whether two types of one module are one
abbrev pub same_value_type : ValueType → ValueType → Bool
same_value_type (OfLeaf j) (OfLeaf k) = same_kind j k
same_value_type (OfStruct i) (OfStruct j) = i == j
same_value_type (OfLeaf j) (OfStruct i) = false
same_value_type (OfStruct i) (OfLeaf j) = false

-- the same, references among them
abbrev pub same_token : Token → Token → Bool
same_token (Plain a) (Plain b) = same_value_type a b
same_token (Reference a) (Reference b) = same_value_type a b
same_token (MutableReference a) (MutableReference b) = same_value_type a b
same_token _ _ = false

-- whether two lists of types are one
abbrev pub same_tokens : List Token → List Token → Bool
same_tokens [] [] = true
same_tokens [] (b ∷ bs) = false
same_tokens (a ∷ rest) [] = false
same_tokens (a ∷ rest) (b ∷ bs) = same_token a b && same_tokens rest bs
