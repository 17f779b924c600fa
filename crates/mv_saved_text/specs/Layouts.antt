-- The leaves of the values of a struct: their kinds in order, and their bytes.
--   leaf_kinds modules name    the kinds of the leaves of a struct's values
--   kinds_under modules d      the same, for a struct by its place and index, if it has key
--   coded kinds numbers        the bytes of leaves of these kinds in turn
--   AreLeaves kinds numbers    the numbers are those of leaves of these kinds
use Rattle.std.specs.Prelude.{ℕ, zero, suc, Bool, false, cond, IsTrue, List, [], ◌∷◌, ◌++◌, Option, Some, None}
use Rattle.std.specs.Option.{option_map_or}
use Rattle.mv_move_types.specs.Limits.{most_nesting}
use Rattle.mv_move_types.specs.declared.tables.Definition.{Definition}
use Rattle.mv_move_types.specs.declared.tables.Field.{Field}
use Rattle.mv_move_types.specs.declared.token.LeafKind.{LeafKind}
use Rattle.mv_move_types.specs.declared.token.ValueType.TheVariants.{OfLeaf, OfStruct}
use Rattle.mv_move_types.specs.declared.token.Token.{Token}
use Rattle.mv_move_types.specs.declared.token.Token.TheVariants.{Plain}
use Rattle.mv_move_types.specs.Options.{◌>>=◌}
use Rattle.mv_move_types.specs.Names.{StructName}
use Rattle.mv_move_types.specs.Module.{Module, struct_name, name_at}
use Rattle.mv_move_types.specs.Named.{definition_of}
use Rattle.mv_machine.specs.Typed.{abilities_at, leaf_fits}
use Rattle.mv_ledger_state.specs.RecordText.{leaf_bytes}

-- the kinds of a type's leaves, where a struct's are given
abbrev pub kinds_of_token : (StructName → Option (List LeafKind)) → Module → Token → Option (List LeafKind)
kinds_of_token struct m (Plain (OfLeaf kind)) = Some (kind ∷ [])
kinds_of_token struct m (Plain (OfStruct h)) = struct_name m h >>= struct
kinds_of_token struct m _ = None

-- those of fields, one after the other
abbrev pub kinds_of_fields : (Token → Option (List LeafKind)) → List Field → Option (List LeafKind)
kinds_of_fields kinds [] = Some []
kinds_of_fields kinds (f ∷ fs) = do
  first ← kinds f.token
  rest ← kinds_of_fields kinds fs
  Some (first ++ rest)

-- those of a struct, if its nesting is at most so much
abbrev pub kinds_within : ℕ → List Module → StructName → Option (List LeafKind)
kinds_within zero modules name = None
kinds_within (suc depth) modules name =
    definition_of modules name >>= λ d. kinds_of_fields (kinds_of_token (kinds_within depth modules) d.0) d.1

-- the kinds of the leaves of a struct's values, in order
abbrev pub leaf_kinds : List Module → StructName → Option (List LeafKind)
leaf_kinds = kinds_within most_nesting

-- whether the struct at a place and an index is there and has key
abbrev pub is_keyed : List Module → Definition → Bool
is_keyed modules d = option_map_or (λ a. a.key) (abilities_at modules d.place d.index) false

-- the kinds of the leaves of the values of the struct at a place and an index, if it is there and has key
abbrev pub kinds_under : List Module → Definition → Option (List LeafKind)
kinds_under modules d = cond (is_keyed modules d) (name_at modules d.place d.index >>= leaf_kinds modules) None

-- leaves of these kinds, coded in turn
abbrev pub coded : List LeafKind → List ℕ → List ℕ
coded [] numbers = []
coded (kind ∷ kinds) [] = []
coded (kind ∷ kinds) (n ∷ numbers) = leaf_bytes kind n ++ coded kinds numbers

-- there is one number of each kind, in its range
abbrev pub AreLeaves : List LeafKind → List ℕ → Type 0
AreLeaves [] [] = Unit {0}
AreLeaves [] (n ∷ numbers) = ⊥
AreLeaves (kind ∷ kinds) [] = ⊥
AreLeaves (kind ∷ kinds) (n ∷ numbers) = IsTrue (leaf_fits kind n) × AreLeaves kinds numbers
