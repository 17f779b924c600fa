-- What the structs, fields and functions of a module are called and how they may be used: all that others name, without types.
--   OutlineView                  of each struct its identifier, its abilities and the names of its fields; of each function its
--                                identifier and who may call it: in the order of the definitions
--   IsOutline m o                the outline is the module's
--   IsStructNamed o index name   the struct at an index has this identifier
--   IsFunctionNamed o index name the function at an index has it
--   are_names names n fields     whether fields of another module have these names, in order
use Rattle.std.specs.Prelude.{◌≡◌, ◌&&◌, ◌∷◌, ℕ, Bool, true, false, List, [], Some, length, map, slice_get, unwrap_or}
use Rattle.std.specs.Option.{option_map_or}
use Rattle.std.specs.List.{AllZip}
use Rattle.std.specs.Str.{bytes_eq}
use Rattle.mv_move_types.specs.declared.tables.Field.{Field}
use Rattle.mv_move_types.specs.declared.tables.StructHandle.{StructHandle}
use Rattle.mv_move_types.specs.declared.tables.FunctionHandle.{FunctionHandle}
use Rattle.mv_move_types.specs.declared.token.Abilities.{Abilities}
use Rattle.mv_move_types.specs.Module.{Module, StructDefinition, FunctionDefinition, name_of_function, struct_abilities}
use Rattle.mv_move_types.specs.Named.{is_public}
use Rattle.mv_interface.specs.Identifiers.{struct_identifier}
use Rattle.mv_interface.specs.declared.outline.StructEntry.{StructEntry}
use Rattle.mv_interface.specs.declared.outline.FunctionEntry.{FunctionEntry}

-- a struct: its identifier and its abilities
pub record StructOutline : Type 0 where
  pub identifier : List ℕ
  pub abilities : Abilities

-- a function: its identifier, whether other modules may call it, and whether it is an entry
pub record FunctionOutline : Type 0 where
  pub identifier : List ℕ
  pub is_public : Bool
  pub is_entry : Bool

-- those of a module, and of each struct the names of its fields
pub record OutlineView : Type 0 where
  pub structs : List StructOutline
  pub fields : List (List (List ℕ))
  pub functions : List FunctionOutline

-- each entry of a list goes with the one at its index in another
pub record AreEach {A B : Type 0} (R : A → B → Type 0) (xs : List A) (ys : List B) : Type 0 where
  pub len : length ys ≡ length xs
  pub each : (k : ℕ) (x : A) (y : B) → slice_get xs k ≡ Some x → slice_get ys k ≡ Some y → R x y

-- the outline of a struct definition
pub record IsStructOutline (m : Module) (d : StructDefinition) (s : StructOutline) : Type 0 where
  pub identifier : struct_identifier m d ≡ Some s.identifier
  pub abilities : struct_abilities m d ≡ Some s.abilities

-- the names of its fields
abbrev pub AreFieldNames : Module → StructDefinition → List (List ℕ) → Type 0
AreFieldNames m d names = AllZip (λ (f : Field) name. slice_get m.identifiers f.name ≡ Some name) d.fields names

-- the outline of a function definition
pub record IsFunctionOutline (m : Module) (d : FunctionDefinition) (f : FunctionOutline) : Type 0 where
  pub identifier : name_of_function m d ≡ Some f.identifier
  pub visible : is_public d ≡ f.is_public
  pub entry : d.is_entry ≡ f.is_entry

-- the outline of a module
pub record IsOutline (m : Module) (o : OutlineView) : Type 0 where
  pub structs : AreEach (IsStructOutline m) m.structs o.structs
  pub fields : AreEach (AreFieldNames m) m.structs o.fields
  pub functions : AreEach (IsFunctionOutline m) m.functions o.functions

-- the struct at an index has this identifier
pub record IsStructNamed (o : OutlineView) (index : ℕ) (name : List ℕ) : Type 0 where
  pub entry : StructOutline
  pub there : slice_get o.structs index ≡ Some entry
  pub named : entry.identifier ≡ name

-- the function at an index has it
pub record IsFunctionNamed (o : OutlineView) (index : ℕ) (name : List ℕ) : Type 0 where
  pub entry : FunctionOutline
  pub there : slice_get o.functions index ≡ Some entry
  pub named : entry.identifier ≡ name

-- whether fields of a module have these names, in order
abbrev pub are_names : List (List ℕ) → Module → List Field → Bool
are_names [] n [] = true
are_names [] n (g ∷ gs) = false
are_names (x ∷ xs) n [] = false
are_names (x ∷ xs) n (g ∷ gs) = option_map_or (bytes_eq x) (slice_get n.identifiers g.name) false && are_names xs n gs

-- Below: how it is kept, with an index into the module's identifiers for each name.

abbrev pub identifier_at : List (List ℕ) → ℕ → List ℕ
identifier_at identifiers i = unwrap_or (slice_get identifiers i) []

abbrev pub struct_kept : List (List ℕ) → StructEntry → StructOutline
struct_kept identifiers s = record { identifier = identifier_at identifiers s.identifier; abilities = s.abilities }

abbrev pub function_kept : List (List ℕ) → FunctionEntry → FunctionOutline
function_kept identifiers f = record { identifier = identifier_at identifiers f.identifier; is_public = f.is_public; is_entry = f.is_entry }

abbrev pub outline_kept : List (List ℕ) → List StructEntry → List (List ℕ) → List FunctionEntry → OutlineView
outline_kept identifiers structs fields functions = record {
  structs = map (struct_kept identifiers) structs;
  fields = map (map (identifier_at identifiers)) fields;
  functions = map (function_kept identifiers) functions;
}

-- and what it is made of, where handles are there
abbrev pub struct_by : Module → StructDefinition → StructEntry
struct_by m d = option_map_or (λ (h : StructHandle). record { identifier = h.name; abilities = h.abilities }) (slice_get m.struct_handles d.handle)
    (record { identifier = 0; abilities = record { copy = false; drop = false; store = false; key = false } })

abbrev pub names_by : StructDefinition → List ℕ
names_by d = map (λ (f : Field). f.name) d.fields

abbrev pub function_by : Module → FunctionDefinition → FunctionEntry
function_by m d = record {
  identifier = option_map_or (λ (h : FunctionHandle). h.name) (slice_get m.function_handles d.handle) 0;
  is_public = is_public d;
  is_entry = d.is_entry;
}
