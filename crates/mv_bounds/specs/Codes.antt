-- Types as numbers: two types of one module are one exactly where their numbers are equal.
use Rattle.std.specs.Prelude.{ℕ, ◌+◌, ◌*◌}
use Rattle.mv_move_types.specs.declared.token.ValueType.{ValueType}
use Rattle.mv_move_types.specs.declared.token.ValueType.TheVariants.{OfLeaf, OfStruct}
use Rattle.mv_move_types.specs.declared.token.Token.{Token}
use Rattle.mv_move_types.specs.declared.token.Token.TheVariants.{Plain, Reference, MutableReference}
use Rattle.mv_move_types.specs.Tokens.{kind_code}

-- the number of a type that is no reference: a leaf's is below 256
abbrev pub value_code : ValueType → ℕ
value_code (OfLeaf kind) = kind_code kind
value_code (OfStruct handle) = 256 + handle

-- the number of a type
abbrev pub token_code : Token → ℕ
token_code (Plain value) = 3 * value_code value
token_code (Reference value) = 3 * value_code value + 1
token_code (MutableReference value) = 3 * value_code value + 2
