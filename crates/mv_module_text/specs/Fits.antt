-- Which entries have a text.
-- In the order of Entries.antt. Most names end in `_fits`: whether an entry of that kind has a text, in this version if that matters.
--   index_limit, is_index n                    indices and counts are below this; whether a number can be one: it has 16 bits
--   token_fits version t                       u16 and u32 are types of version 6 alone
--   signature_fits version tokens              at most 64 types
--   is_byte b                                  whether a number is a byte
--   is_identifier name, identifier_fits name   what a name may be; and at most 128 bytes of it
--   address_fits a                             a number of 128 bits
--   struct_definition_fits version d           at most 32 fields
--   is_late i, instruction_fits version i      the instructions of version 6 alone; and an immediate in its range
--   function_definition_fits version d         at most 4,096 instructions
use Rattle.std.specs.Prelude.{ℕ, ◌^◌, Bool, not, nat_lt, true, ◌&&◌, nat_le, List, length, ◌||◌, ◌==◌, false, [], ◌∷◌}
use Rattle.std.specs.List.{list_all}
use Rattle.mv_move_types.specs.Limits.{most_fields, most_instructions, most_name_bytes, most_types}
use Rattle.mv_move_types.specs.declared.token.Width.{Width}
use Rattle.mv_move_types.specs.declared.token.Width.TheVariants.{U16, U32}
use Rattle.mv_move_types.specs.declared.token.LeafKind.TheVariants.{Boolean, Number, Address, Signer}
use Rattle.mv_move_types.specs.declared.token.ValueType.{ValueType}
use Rattle.mv_move_types.specs.declared.token.ValueType.TheVariants.{OfLeaf, OfStruct}
use Rattle.mv_move_types.specs.declared.token.Token.{Token}
use Rattle.mv_move_types.specs.declared.token.Token.TheVariants.{Plain, Reference, MutableReference}
use Rattle.mv_move_types.specs.declared.tables.ModuleHandle.{ModuleHandle}
use Rattle.mv_move_types.specs.declared.tables.StructHandle.{StructHandle}
use Rattle.mv_move_types.specs.declared.tables.FunctionHandle.{FunctionHandle}
use Rattle.mv_move_types.specs.declared.tables.FieldHandle.{FieldHandle}
use Rattle.mv_move_types.specs.Module.{Constant as ConstantEntry, StructDefinition, FunctionDefinition}
use Rattle.mv_move_types.specs.declared.instruction.Instruction.{Instruction}
use Rattle.mv_move_types.specs.declared.instruction.Instruction.TheVariants.{LdU16, LdU32, CastU16, CastU32}
use Rattle.mv_move_types.specs.declared.instruction.Immediate.{Immediate}
use Rattle.mv_move_types.specs.declared.instruction.Immediate.TheVariants.{Nothing, Local, Struct, Field as FieldImmediate, Function, Constant, Target, Literal}
use Rattle.mv_move_types.specs.Instructions.{immediate_of}
use Rattle.mv_move_types.specs.Tokens.{width_bits}
use Rattle.mv_move_types.specs.declared.tables.Field.{Field}

-- indices and counts are below this: they have 16 bits
abbrev pub index_limit : ℕ
index_limit = 2 ^ 16

-- whether a number can be an index or a count
abbrev pub is_index : ℕ → Bool
is_index n = nat_lt n index_limit

-- u16 and u32 stand in version 6 alone
abbrev pub width_fits : ℕ → Width → Bool
width_fits version U16 = version == 6
width_fits version U32 = version == 6
width_fits version _ = true

-- whether the version has the type, and its index can be written
abbrev pub value_type_fits : ℕ → ValueType → Bool
value_type_fits version (OfLeaf (Number w)) = width_fits version w
value_type_fits version (OfLeaf Boolean) = true
value_type_fits version (OfLeaf Address) = true
value_type_fits version (OfLeaf Signer) = true
value_type_fits version (OfStruct i) = is_index i

-- the same, after a reference's mark too
abbrev pub token_fits : ℕ → Token → Bool
token_fits version (Plain t) = value_type_fits version t
token_fits version (Reference t) = value_type_fits version t
token_fits version (MutableReference t) = value_type_fits version t

-- its indices can be written
abbrev pub module_handle_fits : ModuleHandle → Bool
module_handle_fits h = is_index h.address && is_index h.name

-- its indices can be written
abbrev pub struct_handle_fits : StructHandle → Bool
struct_handle_fits h = is_index h.module && is_index h.name

-- its indices can be written
abbrev pub function_handle_fits : FunctionHandle → Bool
function_handle_fits h = is_index h.module && is_index h.name && is_index h.parameters && is_index h.results

-- it has at most 64 types, and each can be written
abbrev pub signature_fits : ℕ → List Token → Bool
signature_fits version tokens = nat_le (length tokens) most_types && list_all (token_fits version) tokens

-- whether a number is a byte
abbrev pub is_byte : ℕ → Bool
is_byte b = nat_lt b 256

-- its type can be written, and its bytes are bytes
abbrev pub constant_fits : ℕ → ConstantEntry → Bool
constant_fits version c = token_fits version c.token && is_index (length c.bytes) && list_all is_byte c.bytes

-- an ASCII letter
abbrev pub is_letter : ℕ → Bool
is_letter c = (nat_le 65 c && nat_le c 90) || (nat_le 97 c && nat_le c 122)

-- an ASCII letter, a digit or `_`
abbrev pub is_name_part : ℕ → Bool
is_name_part c = is_letter c || (nat_le 48 c && nat_le c 57) || (c == 95)

-- a letter and then letters, digits or `_`, or `_` and at least one of these
abbrev pub is_identifier : List ℕ → Bool
is_identifier [] = false
is_identifier (c ∷ cs) = (is_letter c || (c == 95) && nat_lt 0 (length cs)) && list_all is_name_part cs

-- an identifier of at most 128 bytes
abbrev pub identifier_fits : List ℕ → Bool
identifier_fits name = nat_le (length name) most_name_bytes && is_identifier name

-- a number of 128 bits
abbrev pub address_fits : ℕ → Bool
address_fits a = nat_lt a (2 ^ 128)

-- its name and its type can be written
abbrev pub field_fits : ℕ → Field → Bool
field_fits version f = is_index f.name && token_fits version f.token

-- it has at most 32 fields, and each can be written
abbrev pub struct_definition_fits : ℕ → StructDefinition → Bool
struct_definition_fits version d = is_index d.handle && nat_le (length d.fields) most_fields && list_all (field_fits version) d.fields

-- an immediate is in its range
abbrev pub immediate_fits : Immediate → Bool
immediate_fits Nothing = true
immediate_fits (Local i) = is_index i
immediate_fits (Struct i) = is_index i
immediate_fits (FieldImmediate i) = is_index i
immediate_fits (Function i) = is_index i
immediate_fits (Constant i) = is_index i
immediate_fits (Target i) = is_index i
immediate_fits (Literal w n) = nat_lt n (2 ^ width_bits w)

-- whether version 6 alone has the instruction
abbrev pub is_late : Instruction → Bool
is_late (LdU16 n) = true
is_late (LdU32 n) = true
is_late CastU16 = true
is_late CastU32 = true
is_late _ = false

-- an instruction's immediate is in its range, and the version has it
abbrev pub instruction_fits : ℕ → Instruction → Bool
instruction_fits version i = (not (is_late i) || version == 6) && immediate_fits (immediate_of i)

-- its indices can be written, and it has at most 4,096 instructions
abbrev pub function_definition_fits : ℕ → FunctionDefinition → Bool
function_definition_fits version d =
    is_index d.handle && is_index d.locals && is_index (length d.acquires) && list_all is_index d.acquires
    && nat_le (length d.code) most_instructions && list_all (instruction_fits version) d.code

-- its indices can be written
abbrev pub field_handle_fits : FieldHandle → Bool
field_handle_fits h = is_index h.definition && is_index h.position
