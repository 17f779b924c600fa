-- A module as its tables, and what its indices name.
-- First the tables of a module, then what its indices name.
--   Constant, StructDefinition, FunctionDefinition   the entries of three tables
--   Module                                           all tables, with the version that the bytes state (why: decision 24)
--   module_name m h, own_name m                      the module that a handle names, and the own one
--   struct_name m h                                  the struct that a handle names
--   name_of_struct, name_of_function                 the name of a definition
--   local_tokens, local_type                         the types of a function's locals, parameters first (why: decision 4)
--   parameter_tokens, result_tokens                  the types of its parameters and of its results
--   struct_abilities                                 the abilities that a struct is declared with
--   name_at modules place index                      the struct at a place in the order of publication and an index there
--   has_key m i                                      whether the struct at an index has key
--   own_acquires m i                                 the acquires list of a called function, if it is the module's own
use Rattle.std.specs.Prelude.{ℕ, ◌==◌, List, [], Bool, false, Option, Some, slice_get, ◌++◌}
use Rattle.std.specs.Option.{option_map_or}
use Rattle.mv_move_types.specs.declared.tables.Visibility.{Visibility}
use Rattle.mv_move_types.specs.declared.instruction.Instruction.{Instruction}
use Rattle.mv_move_types.specs.declared.tables.ModuleHandle.{ModuleHandle}
use Rattle.mv_move_types.specs.declared.tables.StructHandle.{StructHandle}
use Rattle.mv_move_types.specs.declared.tables.FunctionHandle.{FunctionHandle}
use Rattle.mv_move_types.specs.declared.tables.FieldHandle.{FieldHandle}
use Rattle.mv_move_types.specs.declared.token.Token.{Token}
use Rattle.mv_move_types.specs.Options.{◌>>=◌, find_index}
use Rattle.mv_move_types.specs.Names.{ModuleName, StructName}
use Rattle.mv_move_types.specs.declared.token.Abilities.{Abilities}
use Rattle.mv_move_types.specs.declared.tables.Field.{Field}

-- a constant: its type, and the bytes of its value
pub record Constant : Type 0 where
  pub token : Token
  pub bytes : List ℕ

-- a struct: its handle's index, and its fields in order
pub record StructDefinition : Type 0 where
  pub handle : ℕ
  pub fields : List Field

-- a function: its handle's index, who may call it, and what it does
pub record FunctionDefinition : Type 0 where
  pub handle : ℕ
  pub visibility : Visibility
  pub is_entry : Bool
  pub acquires : List ℕ
  pub locals : ℕ
  pub code : List Instruction

-- a whole module; an address stands as its number
pub record Module : Type 0 where
  pub version : ℕ
  pub module_handles : List ModuleHandle
  pub struct_handles : List StructHandle
  pub function_handles : List FunctionHandle
  pub signatures : List (List Token)
  pub constants : List Constant
  pub identifiers : List (List ℕ)
  pub addresses : List ℕ
  pub structs : List StructDefinition
  pub functions : List FunctionDefinition
  pub field_handles : List FieldHandle
  pub own : ℕ

-- the module that a handle names
abbrev pub module_name : Module → ℕ → Option ModuleName
module_name m h = do
  handle ← slice_get m.module_handles h
  address ← slice_get m.addresses handle.address
  name ← slice_get m.identifiers handle.name
  Some (record { address = address; name = name })

-- the module's own name
abbrev pub own_name : Module → Option ModuleName
own_name m = module_name m m.own

-- the struct that a handle names
abbrev pub struct_name : Module → ℕ → Option StructName
struct_name m h = do
  handle ← slice_get m.struct_handles h
  home ← module_name m handle.module
  name ← slice_get m.identifiers handle.name
  Some (record { home = home; name = name })

-- the name of a struct definition
abbrev pub name_of_struct : Module → StructDefinition → Option StructName
name_of_struct m d = struct_name m d.handle

-- the identifier of a function definition
abbrev pub name_of_function : Module → FunctionDefinition → Option (List ℕ)
name_of_function m d = do
  handle ← slice_get m.function_handles d.handle
  slice_get m.identifiers handle.name

-- the types of a function definition's locals, parameters first
abbrev pub local_tokens : Module → FunctionDefinition → Option (List Token)
local_tokens m d = do
  handle ← slice_get m.function_handles d.handle
  parameters ← slice_get m.signatures handle.parameters
  others ← slice_get m.signatures d.locals
  Some (parameters ++ others)

-- the type of a function definition's local
abbrev pub local_type : Module → FunctionDefinition → ℕ → Option Token
local_type m d l = local_tokens m d >>= λ tokens. slice_get tokens l

-- the types of a function definition's parameters
abbrev pub parameter_tokens : Module → FunctionDefinition → Option (List Token)
parameter_tokens m d = do
  handle ← slice_get m.function_handles d.handle
  slice_get m.signatures handle.parameters

-- the types of a function definition's results
abbrev pub result_tokens : Module → FunctionDefinition → Option (List Token)
result_tokens m d = do
  handle ← slice_get m.function_handles d.handle
  slice_get m.signatures handle.results

-- the abilities that a struct definition is declared with
abbrev pub struct_abilities : Module → StructDefinition → Option Abilities
struct_abilities m d = do
  handle ← slice_get m.struct_handles d.handle
  Some handle.abilities

-- the struct defined at a place in the order of publication and an index there
abbrev pub name_at : List Module → ℕ → ℕ → Option StructName
name_at modules place index = do
  m ← slice_get modules place
  d ← slice_get m.structs index
  name_of_struct m d

-- whether the struct at an index is declared with key
abbrev pub has_key : Module → ℕ → Bool
has_key m i = option_map_or (λ d. option_map_or (λ a. a.key) (struct_abilities m d) false) (slice_get m.structs i) false

-- the struct definitions that a called function of the own module says it reaches; another module's has none here
abbrev pub own_acquires : Module → ℕ → List ℕ
own_acquires m i =
    option_map_or (λ j. option_map_or (λ (d : FunctionDefinition). d.acquires) (slice_get m.functions j) [])
    (find_index (λ (d : FunctionDefinition). d.handle == i) m.functions) []
