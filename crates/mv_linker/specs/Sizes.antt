-- Sizes of structs: their leaf values and their nesting.
-- First what a size is, then the rounds in which sizes are found (why in rounds: decision 30).
--   IsSized modules name size            a struct has these numbers of leaves and of nesting
--   IsDefined, AreDefined                what struct handles name: a struct whose size is known, or one of the bundle
--   AreSizes modules bundle sizes        the sizes of a bundle's structs, which are within the limits
--   AreSmall modules bundle              each struct of a bundle is within the limits
--   size_of_struct rows defined fields   a struct's size by those that are known of its fields
--   next_rows, rows_after                what is known after one more round, and after so many
--   AreFinalRows bundle handles rows     what is known after the last round
-- The others are parts of these.
use Rattle.std.specs.Prelude.{◌≡◌, ℕ, zero, suc, ◌+◌, ◌<◌, ◌≤◌, is_some, ◌⊎◌, ◌&&◌, nat_le, nat_lt, cond, IsTrue}
use Rattle.std.specs.Prelude.{List, [], ◌∷◌, length, map, Option, Some, None, slice_get, unwrap_or}
use Rattle.std.specs.List.{list_all}
use Rattle.mv_move_types.specs.Limits.{most_leaves, most_nesting}
use Rattle.mv_move_types.specs.declared.token.Token.{Token}
use Rattle.mv_move_types.specs.declared.token.Token.TheVariants.{Plain}
use Rattle.mv_move_types.specs.declared.token.ValueType.TheVariants.{OfLeaf, OfStruct}
use Rattle.mv_move_types.specs.declared.tables.Field.{Field}
use Rattle.mv_move_types.specs.Options.{◌>>=◌}
use Rattle.mv_move_types.specs.Names.{StructName}
use Rattle.mv_move_types.specs.Module.{Module, StructDefinition, struct_name, name_of_struct, name_at}
use Rattle.mv_move_types.specs.Named.{definition_of}
use Rattle.mv_move_types.specs.Leaves.{leaves_within}
use Rattle.mv_link_rules.specs.StoreRules.{struct_is_small}
use Rattle.mv_linker.specs.declared.rules.sizes.Size.{Size}
use Rattle.mv_linker.specs.declared.rules.sizes.Defined.{Defined}
use Rattle.mv_linker.specs.declared.rules.sizes.Defined.TheVariants.{Published, Bundled}

-- a struct's size: it has its leaves within a nesting exactly if its own is at most that
abbrev pub IsSized : List Module → StructName → Size → Type 0
IsSized modules name size = (k : ℕ) → leaves_within k modules name ≡ cond (nat_le size.nesting k) (Some size.leaves) None

-- what a struct handle names: a struct of that size, or the bundle's definition there
abbrev pub IsDefined : List Module → List Module → Module → ℕ → Defined → Type 0
IsDefined modules bundle m h (Published size) = (name : StructName) × (struct_name m h ≡ Some name) × IsSized modules name size
IsDefined modules bundle m h (Bundled i j) = (name : StructName) × (struct_name m h ≡ Some name) × (name_at bundle i j ≡ Some name)

-- where the struct handles of each module of a bundle are defined, and that the bundle's structs are the modules' ones of their names
pub record AreDefined (modules bundle : List Module) (handles : List (List Defined)) : Type 0 where
  pub len : length handles ≡ length bundle
  pub own : (i j : ℕ) (m : Module) (d : StructDefinition) → slice_get bundle i ≡ Some m → slice_get m.structs j ≡ Some d
      → (name : StructName) × (name_of_struct m d ≡ Some name) × (definition_of modules name ≡ Some (m, d.fields))
  pub count : (i : ℕ) (m : Module) (ds : List Defined) → slice_get bundle i ≡ Some m → slice_get handles i ≡ Some ds → length ds ≡ length m.struct_handles
  pub each : (i h : ℕ) (m : Module) (ds : List Defined) (d : Defined)
      → slice_get bundle i ≡ Some m → slice_get handles i ≡ Some ds → slice_get ds h ≡ Some d → IsDefined modules bundle m h d

-- the sizes of a bundle's structs: at most 256 leaves, and a nesting of at most 8
pub record AreSizes (modules bundle : List Module) (sizes : List (List Size)) : Type 0 where
  pub len : length sizes ≡ length bundle
  pub count : (i : ℕ) (m : Module) (row : List Size) → slice_get bundle i ≡ Some m → slice_get sizes i ≡ Some row → length row ≡ length m.structs
  pub each : (i j : ℕ) (name : StructName) (row : List Size) (s : Size)
      → name_at bundle i j ≡ Some name → slice_get sizes i ≡ Some row → slice_get row j ≡ Some s
      → IsSized modules name s × (s.leaves ≤ most_leaves) × (s.nesting ≤ most_nesting)

-- each struct of a bundle is small
abbrev pub AreSmall : List Module → List Module → Type 0
AreSmall modules bundle = IsTrue (list_all (λ m. list_all (struct_is_small modules m) m.structs) bundle)

-- Below: what a round of the search knows from the one before. A row has the structs of a module whose size is known.

-- leaves and nesting of fields together
pub record Total : Type 0 where
  pub leaves : ℕ
  pub nesting : ℕ

-- what a definition has in the rows
abbrev pub size_at : List (List (Option Size)) → Defined → Option Size
size_at rows (Published size) = Some size
size_at rows (Bundled i j) = slice_get rows i >>= λ row. unwrap_or (slice_get row j) None

-- the size of a type that stands in a field
abbrev pub size_of_token : List (List (Option Size)) → List Defined → Token → Option Size
size_of_token rows defined (Plain (OfLeaf kind)) = Some (record { leaves = 1; nesting = 0 })
size_of_token rows defined (Plain (OfStruct h)) = slice_get defined h >>= size_at rows
size_of_token rows defined _ = None

-- the greater number
abbrev pub greater : ℕ → ℕ → ℕ
greater a b = cond (nat_le a b) b a

-- the fields' sizes together, if each is known
abbrev pub total_of : (Token → Option Size) → List Field → Option Total
total_of size [] = Some (record { leaves = 0; nesting = 0 })
total_of size (f ∷ fs) = do
  s ← size f.token
  rest ← total_of size fs
  Some (record { leaves = s.leaves + rest.leaves; nesting = greater s.nesting rest.nesting })

-- the size of a struct with such fields, if it is small
abbrev pub small_size : Total → Option Size
small_size t = cond (nat_le t.leaves most_leaves && nat_lt t.nesting most_nesting) (Some (record { leaves = t.leaves; nesting = t.nesting + 1 })) None

-- the size of a struct with these fields, if it is known and small
abbrev pub size_of_struct : List (List (Option Size)) → List Defined → List Field → Option Size
size_of_struct rows defined fields = total_of (size_of_token rows defined) fields >>= small_size

-- the sizes of a module's structs
abbrev pub row_of : List (List (Option Size)) → Module → List Defined → List (Option Size)
row_of rows m defined = map (λ d. size_of_struct rows defined d.fields) m.structs

-- the sizes of a bundle's structs, by those that were known before
abbrev pub next_rows : List (List (Option Size)) → List Module → List (List Defined) → List (List (Option Size))
next_rows rows [] handles = []
next_rows rows (m ∷ ms) [] = []
next_rows rows (m ∷ ms) (defined ∷ handles) = row_of rows m defined ∷ next_rows rows ms handles

-- what is known after so many rounds
abbrev pub rows_after : ℕ → List Module → List (List Defined) → List (List (Option Size))
rows_after zero bundle handles = []
rows_after (suc k) bundle handles = next_rows (rows_after k bundle handles) bundle handles

-- what is known after the last round: the eighth, or one that leaves no size unknown
pub record AreFinalRows (bundle : List Module) (handles : List (List Defined)) (rows : List (List (Option Size))) : Type 0 where
  pub rounds : ℕ
  pub some : 0 < rounds
  pub few : rounds ≤ most_nesting
  pub after : rows ≡ rows_after rounds bundle handles
  pub ends : (rounds ≡ most_nesting) ⊎ IsTrue (list_all (list_all is_some) rows)
