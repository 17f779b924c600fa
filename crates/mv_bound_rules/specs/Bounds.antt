-- Every index is below the length of its table.
-- Most names end in `_in`: whether what an entry of that kind names is there.
--   below i entries                         an index is in a table
--   token_in m t                            a type's handle is there
--   module_handle_in, .., field_handle_in   the entries of tables other than functions
--   instruction_in m locals size i          what an instruction names is there, in a function of so many locals and instructions
--   local_count m d                         how many locals a function has, parameters included (why: decision 4)
--   function_in m d                         a function, with its code
--   InBounds m                              phase 3: every index of the module is below the length of its table
use Rattle.std.specs.Prelude.{ℕ, Bool, nat_lt, List, length, true, false, ◌&&◌, IsTrue, slice_get}
use Rattle.std.specs.List.{list_all}
use Rattle.std.specs.Option.{option_map_or}
use Rattle.mv_move_types.specs.declared.token.ValueType.{ValueType}
use Rattle.mv_move_types.specs.declared.token.ValueType.TheVariants.{OfLeaf, OfStruct}
use Rattle.mv_move_types.specs.Module.{Module, StructDefinition, FunctionDefinition, local_tokens}
use Rattle.mv_move_types.specs.declared.token.Token.{Token}
use Rattle.mv_move_types.specs.declared.token.Token.TheVariants.{Plain, Reference, MutableReference}
use Rattle.mv_move_types.specs.declared.tables.ModuleHandle.{ModuleHandle}
use Rattle.mv_move_types.specs.declared.tables.StructHandle.{StructHandle}
use Rattle.mv_move_types.specs.declared.tables.FunctionHandle.{FunctionHandle}
use Rattle.mv_move_types.specs.declared.instruction.Instruction.{Instruction}
use Rattle.mv_move_types.specs.declared.instruction.Immediate.{Immediate}
use Rattle.mv_move_types.specs.declared.instruction.Immediate.TheVariants.{Nothing, Local, Struct, Field as FieldIndex, Function, Constant, Target, Literal}
use Rattle.mv_move_types.specs.Instructions.{immediate_of}
use Rattle.mv_move_types.specs.declared.tables.FieldHandle.{FieldHandle}
use Rattle.mv_move_types.specs.declared.tables.Field.{Field}

-- an index is in a table
abbrev pub below : {A : Type 0} → ℕ → List A → Bool
below i entries = nat_lt i (length entries)

-- a type's handle is there
abbrev pub value_type_in : Module → ValueType → Bool
value_type_in m (OfLeaf kind) = true
value_type_in m (OfStruct h) = below h m.struct_handles

-- a type's handle is there, behind a reference too
abbrev pub token_in : Module → Token → Bool
token_in m (Plain t) = value_type_in m t
token_in m (Reference t) = value_type_in m t
token_in m (MutableReference t) = value_type_in m t

-- its address and its name are there
abbrev pub module_handle_in : Module → ModuleHandle → Bool
module_handle_in m h = below h.address m.addresses && below h.name m.identifiers

-- its module and its name are there
abbrev pub struct_handle_in : Module → StructHandle → Bool
struct_handle_in m h = below h.module m.module_handles && below h.name m.identifiers

-- its module, its name and its signatures are there
abbrev pub function_handle_in : Module → FunctionHandle → Bool
function_handle_in m h =
    below h.module m.module_handles && below h.name m.identifiers && below h.parameters m.signatures && below h.results m.signatures

-- its name and its type's handle are there
abbrev pub field_in : Module → Field → Bool
field_in m f = below f.name m.identifiers && token_in m f.token

-- its handle is there, and what its fields name
abbrev pub struct_in : Module → StructDefinition → Bool
struct_in m d = below d.handle m.struct_handles && list_all (field_in m) d.fields

-- its struct definition is there and has the position
abbrev pub field_handle_in : Module → FieldHandle → Bool
field_handle_in m h = option_map_or (λ (d : StructDefinition). below h.position d.fields) (slice_get m.structs h.definition) false

-- an index is in its table, a local one of so many, a target one of so many instructions
abbrev pub immediate_in : Module → ℕ → ℕ → Immediate → Bool
immediate_in m locals size Nothing = true
immediate_in m locals size (Local l) = nat_lt l locals
immediate_in m locals size (Struct i) = below i m.structs
immediate_in m locals size (FieldIndex i) = below i m.field_handles
immediate_in m locals size (Function i) = below i m.function_handles
immediate_in m locals size (Constant i) = below i m.constants
immediate_in m locals size (Target t) = nat_lt t size
immediate_in m locals size (Literal w n) = true

-- so is what the instruction names
abbrev pub instruction_in : Module → ℕ → ℕ → Instruction → Bool
instruction_in m locals size i = immediate_in m locals size (immediate_of i)

-- how many locals a function has, parameters included
abbrev pub local_count : Module → FunctionDefinition → ℕ
local_count m d = option_map_or length (local_tokens m d) 0

-- its handle, its locals, its acquires list and its code name what is there
abbrev pub function_in : Module → FunctionDefinition → Bool
function_in m d =
    below d.handle m.function_handles && below d.locals m.signatures && list_all (λ i. below i m.structs) d.acquires
    && list_all (instruction_in m (local_count m d) (length d.code)) d.code

-- every index is below the length of its table
pub record InBounds (m : Module) : Type 0 where
  pub module_handles : IsTrue (list_all (module_handle_in m) m.module_handles)
  pub struct_handles : IsTrue (list_all (struct_handle_in m) m.struct_handles)
  pub function_handles : IsTrue (list_all (function_handle_in m) m.function_handles)
  pub signatures : IsTrue (list_all (list_all (token_in m)) m.signatures)
  pub constants : IsTrue (list_all (λ c. token_in m c.token) m.constants)
  pub structs : IsTrue (list_all (struct_in m) m.structs)
  pub functions : IsTrue (list_all (function_in m) m.functions)
  pub field_handles : IsTrue (list_all (field_handle_in m) m.field_handles)
  pub own : IsTrue (below m.own m.module_handles)
