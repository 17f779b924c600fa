-- Numbers by their bytes.
use Rattle.std.specs.Prelude.{ℕ, ◌+◌, ◌*◌, ◌==◌, ◌&&◌, nat_lt, List, [], ◌∷◌, length, slice_index, Option, None}
use Rattle.std.specs.Bool.{then_some}
use Rattle.std.specs.Int.{w128, from_be_bytes}
use Rattle.mv_move_types.specs.declared.token.LeafKind.{LeafKind}
use Rattle.mv_move_types.specs.declared.token.LeafKind.TheVariants.{Boolean, Number, Address, Signer}
use Rattle.mv_move_types.specs.Tokens.{width_bits}

-- the number that bytes are, the lowest first
abbrev pub little_endian : List ℕ → ℕ
little_endian [] = 0
little_endian (b ∷ bs) = b + 256 * little_endian bs

-- the number that bytes are, the highest first
abbrev pub big_endian : List ℕ → ℕ
big_endian bytes = from_be_bytes w128 bytes

-- the number of a leaf of this kind with these bytes: a bool is 0 or 1, and no bytes are a signer
abbrev pub leaf_number : LeafKind → List ℕ → Option ℕ
leaf_number Boolean bytes = then_some ((length bytes == 1) && nat_lt (slice_index bytes 0) 2) (slice_index bytes 0)
leaf_number (Number w) bytes = then_some (8 * length bytes == width_bits w) (little_endian bytes)
leaf_number Address bytes = then_some (length bytes == 16) (big_endian bytes)
leaf_number Signer bytes = None
