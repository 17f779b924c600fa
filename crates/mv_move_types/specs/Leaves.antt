-- How many leaf values a type has.
use Rattle.std.specs.Prelude.{ℕ, ◌+◌, List, [], ◌∷◌, Option, Some, None, zero, suc}
use Rattle.mv_move_types.specs.declared.token.Token.{Token}
use Rattle.mv_move_types.specs.Options.{◌>>=◌}
use Rattle.mv_move_types.specs.declared.token.ValueType.TheVariants.{OfLeaf, OfStruct}
use Rattle.mv_move_types.specs.declared.token.Token.TheVariants.{Plain}
use Rattle.mv_move_types.specs.Names.{StructName}
use Rattle.mv_move_types.specs.Module.{Module, struct_name}
use Rattle.mv_move_types.specs.Named.{definition_of}
use Rattle.mv_move_types.specs.declared.tables.Field.{Field}

-- g: the sum of what the fields' types have
abbrev pub sum_of_fields : (Token → Option ℕ) → List Field → Option ℕ
sum_of_fields leaves [] = Some 0
sum_of_fields leaves (f ∷ fs) = do
  n ← leaves f.token
  rest ← sum_of_fields leaves fs
  Some (n + rest)

-- a type's leaf values, where a struct's are given
abbrev pub leaves_of : (StructName → Option ℕ) → Module → Token → Option ℕ
leaves_of struct m (Plain (OfLeaf kind)) = Some 1
leaves_of struct m (Plain (OfStruct h)) = struct_name m h >>= struct
leaves_of struct m _ = None

-- a struct's leaf values, if its nesting is at most so much
abbrev pub leaves_within : ℕ → List Module → StructName → Option ℕ
leaves_within zero store name = None
leaves_within (suc depth) store name =
    definition_of store name >>= λ d. sum_of_fields (leaves_of (leaves_within depth store) d.0) d.1
