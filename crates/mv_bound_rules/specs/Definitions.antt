-- No entry stands twice, and the own handles are defined once, by structs that are finite.
--   all_differ same xs                no two entries are one by the test
--   defined_once home own n defined   each own handle has one definition, and no other has any
--   struct_home, function_home        the module handle of a struct handle and of a function handle
--   Holds m i j                       a chain of fields leads from one struct into another
--   WellDefined m                     phase 4: no entry stands twice, own handles are defined once, and no struct contains itself
-- same_constant and defined_by are parts of these. How cycles are found: decision 28.
use Rattle.std.specs.Prelude.{Bool, true, not, ◌&&◌, List, [], ◌∷◌, ℕ, zero, suc, ◌==◌, cond, count_by, slice_get}
use Rattle.std.specs.Prelude.{Option, None, ◌≡◌, Some, Contains, nat_lt, IsTrue, map, length}
use Rattle.std.specs.List.{list_any, list_all}
use Rattle.std.specs.Option.{option_map_or}
use Rattle.std.specs.Str.{bytes_eq}
use Rattle.mv_move_types.specs.declared.tables.StructHandle.{StructHandle}
use Rattle.mv_move_types.specs.Module.{Constant, Module, StructDefinition, FunctionDefinition}
use Rattle.mv_move_types.specs.declared.tables.FunctionHandle.{FunctionHandle}
use Rattle.mv_move_types.specs.declared.token.ValueType.TheVariants.{OfStruct}
use Rattle.mv_move_types.specs.declared.token.Token.{Token}
use Rattle.mv_move_types.specs.declared.token.Token.TheVariants.{Plain}
use Rattle.mv_move_types.specs.Options.{find_index}
use Rattle.mv_move_types.specs.declared.tables.ModuleHandle.{ModuleHandle}
use Rattle.mv_move_types.specs.Tokens.{same_token, same_tokens}
use Rattle.mv_move_types.specs.declared.tables.FieldHandle.{FieldHandle}
use Rattle.mv_move_types.specs.declared.tables.Field.{Field}

-- no two entries at different indices are one by the test
abbrev pub all_differ : {A : Type 0} → (A → A → Bool) → List A → Bool
all_differ same [] = true
all_differ same (x ∷ xs) = not (list_any (same x) xs) && all_differ same xs

-- whether two constants are one
abbrev pub same_constant : Constant → Constant → Bool
same_constant a b = same_token a.token b.token && bytes_eq a.bytes b.bytes

-- each handle of the own module has exactly one definition, and each definition has such a handle
abbrev pub defined_once : (ℕ → ℕ) → ℕ → ℕ → List ℕ → Bool
defined_once home own zero defined = true
defined_once home own (suc h) defined =
    (count_by (λ d. d == h) defined == cond (home h == own) 1 0) && defined_once home own h defined

-- the module handle of a struct handle
abbrev pub struct_home : Module → ℕ → ℕ
struct_home m h = option_map_or (λ (s : StructHandle). s.module) (slice_get m.struct_handles h) 0

-- the module handle of a function handle
abbrev pub function_home : Module → ℕ → ℕ
function_home m h = option_map_or (λ (f : FunctionHandle). f.module) (slice_get m.function_handles h) 0

-- the struct definition of a type, if the type is a struct of the own module
abbrev pub defined_by : Module → Token → Option ℕ
defined_by m (Plain (OfStruct h)) = find_index (λ (d : StructDefinition). d.handle == h) m.structs
defined_by m _ = None

-- a chain of fields leads from one struct definition into another
pub data Holds (m : Module) : ℕ → ℕ → Type 0 where
  directly : (i j : ℕ) (d : StructDefinition) (f : Field) → slice_get m.structs i ≡ Some d → Contains d.fields f → defined_by m f.token ≡ Some j → Holds m i j
  further : (i j k : ℕ) → Holds m i j → Holds m j k → Holds m i k

-- no entry stands twice, and the own handles are defined once, by structs that are finite
pub record WellDefined (m : Module) : Type 0 where
  pub module_handles : IsTrue (all_differ (λ (a b : ModuleHandle). (a.address == b.address) && (a.name == b.name)) m.module_handles)
  pub signatures : IsTrue (all_differ same_tokens m.signatures)
  pub constants : IsTrue (all_differ same_constant m.constants)
  pub identifiers : IsTrue (all_differ bytes_eq m.identifiers)
  pub addresses : IsTrue (all_differ ◌==◌ m.addresses)
  pub field_handles : IsTrue (all_differ (λ (a b : FieldHandle). (a.definition == b.definition) && (a.position == b.position)) m.field_handles)
  pub struct_handles : IsTrue (all_differ (λ (a b : StructHandle). (a.module == b.module) && (a.name == b.name)) m.struct_handles)
  pub function_handles : IsTrue (all_differ (λ (a b : FunctionHandle). (a.module == b.module) && (a.name == b.name)) m.function_handles)
  pub structs : IsTrue (defined_once (struct_home m) m.own (length m.struct_handles) (map (λ (d : StructDefinition). d.handle) m.structs))
  pub functions : IsTrue (defined_once (function_home m) m.own (length m.function_handles) (map (λ (d : FunctionDefinition). d.handle) m.functions))
  pub field_names : IsTrue (list_all (λ (d : StructDefinition). all_differ (λ (a b : Field). a.name == b.name) d.fields) m.structs)
  pub fields : IsTrue (list_all (λ (d : StructDefinition). nat_lt 0 (length d.fields)) m.structs)
  pub finite : (i : ℕ) → Holds m i i → ⊥
