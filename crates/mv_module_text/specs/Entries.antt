-- The text of each entry of a module: its bytes.
-- First types, then handles, signatures, constants, names and addresses, then structs, code and functions. Most names end in `_text`:
-- the bytes of an entry of that kind. Fits.antt says which entries have a text, and Parsing.antt reads them.
--   counted each xs                                  a count, and so many parts: how every list is written
--   leaf_token kind, token_text t                    the byte of a leaf type, and the bytes of any type
--   ability_bits a                                   the abilities as four bits
--   signature_text, constant_text, identifier_text   types after their number, a type with bytes, a name after its length
--   address_text a                                   16 bytes, big-endian
--   number_text w n                                  a number in the bytes of its width, little-endian
--   instruction_text i                               an opcode and its immediate
--   function_definition_text d                       a function, with its code
use Rattle.std.specs.Prelude.{ℕ, ◌+◌, List, ◌++◌, flat_map, length, [], ◌∷◌, cond}
use Rattle.std.specs.Int.{w16, w32, w64, w128, to_le_bytes, to_be_bytes}
use Rattle.mv_uleb.specs.Uleb.{uleb}
use Rattle.mv_move_types.specs.declared.token.Width.{Width}
use Rattle.mv_move_types.specs.declared.token.Width.TheVariants.{U8, U16, U32, U64, U128}
use Rattle.mv_move_types.specs.declared.token.LeafKind.{LeafKind}
use Rattle.mv_move_types.specs.declared.token.LeafKind.TheVariants.{Boolean, Number, Address, Signer}
use Rattle.mv_move_types.specs.declared.token.ValueType.{ValueType}
use Rattle.mv_move_types.specs.declared.token.ValueType.TheVariants.{OfLeaf, OfStruct}
use Rattle.mv_move_types.specs.declared.token.Token.{Token}
use Rattle.mv_move_types.specs.declared.token.Token.TheVariants.{Plain, Reference, MutableReference}
use Rattle.mv_move_types.specs.declared.token.Abilities.{Abilities}
use Rattle.mv_move_types.specs.declared.tables.ModuleHandle.{ModuleHandle}
use Rattle.mv_move_types.specs.declared.tables.StructHandle.{StructHandle}
use Rattle.mv_move_types.specs.declared.tables.FunctionHandle.{FunctionHandle}
use Rattle.mv_move_types.specs.declared.tables.FieldHandle.{FieldHandle}
use Rattle.mv_move_types.specs.Module.{Constant as ConstantEntry, StructDefinition, FunctionDefinition}
use Rattle.mv_move_types.specs.declared.tables.Visibility.{Visibility}
use Rattle.mv_move_types.specs.declared.tables.Visibility.TheVariants.{Private, Public}
use Rattle.mv_move_types.specs.declared.instruction.Instruction.{Instruction}
use Rattle.mv_move_types.specs.declared.instruction.Immediate.{Immediate}
use Rattle.mv_move_types.specs.declared.instruction.Immediate.TheVariants.{Nothing, Local, Struct, Field as FieldImmediate, Function, Constant, Target, Literal}
use Rattle.mv_move_types.specs.Instructions.{code_of, immediate_of}
use Rattle.mv_move_types.specs.declared.tables.Field.{Field}

-- a count, and so many parts
abbrev pub counted : {A : Type 0} → (A → List ℕ) → List A → List ℕ
counted each xs = uleb (length xs) ++ flat_map each xs

-- a number type's token
abbrev pub width_token : Width → ℕ
width_token U8 = 0x02
width_token U16 = 0x0D
width_token U32 = 0x0E
width_token U64 = 0x03
width_token U128 = 0x04

-- a leaf type's token
abbrev pub leaf_token : LeafKind → ℕ
leaf_token Boolean = 0x01
leaf_token (Number w) = width_token w
leaf_token Address = 0x05
leaf_token Signer = 0x0C

-- a type that is no reference
abbrev pub value_type_text : ValueType → List ℕ
value_type_text (OfLeaf kind) = leaf_token kind ∷ []
value_type_text (OfStruct i) = 0x08 ∷ uleb i

-- a type, a reference after its mark
abbrev pub token_text : Token → List ℕ
token_text (Plain t) = value_type_text t
token_text (Reference t) = 0x06 ∷ value_type_text t
token_text (MutableReference t) = 0x07 ∷ value_type_text t

-- a bit for each ability
abbrev pub ability_bits : Abilities → ℕ
ability_bits a = cond a.copy 1 0 + cond a.drop 2 0 + cond a.store 4 0 + cond a.key 8 0

-- its address and its name
abbrev pub module_handle_text : ModuleHandle → List ℕ
module_handle_text h = uleb h.address ++ uleb h.name

-- the last byte is the number of type parameters
abbrev pub struct_handle_text : StructHandle → List ℕ
struct_handle_text h = uleb h.module ++ uleb h.name ++ uleb (ability_bits h.abilities) ++ 0 ∷ []

-- its module, its name and its signatures; the last byte is the number of type parameters
abbrev pub function_handle_text : FunctionHandle → List ℕ
function_handle_text h = uleb h.module ++ uleb h.name ++ uleb h.parameters ++ uleb h.results ++ 0 ∷ []

-- its types
abbrev pub signature_text : List Token → List ℕ
signature_text = counted token_text

-- its type, and its bytes after their number
abbrev pub constant_text : ConstantEntry → List ℕ
constant_text c = token_text c.token ++ uleb (length c.bytes) ++ c.bytes

-- its bytes after their number
abbrev pub identifier_text : List ℕ → List ℕ
identifier_text name = uleb (length name) ++ name

-- 16 bytes, big-endian
abbrev pub address_text : ℕ → List ℕ
address_text a = to_be_bytes w128 a

-- its name and its type
abbrev pub field_text : Field → List ℕ
field_text f = uleb f.name ++ token_text f.token

-- its handle and its fields; the byte between them marks declared fields
abbrev pub struct_definition_text : StructDefinition → List ℕ
struct_definition_text d = uleb d.handle ++ 2 ∷ counted field_text d.fields

-- a visibility's byte
abbrev pub visibility_code : Visibility → ℕ
visibility_code Private = 0
visibility_code Public = 1

-- a number in as many bytes as its width has, little-endian
abbrev pub number_text : Width → ℕ → List ℕ
number_text U8 n = n ∷ []
number_text U16 n = to_le_bytes w16 n
number_text U32 n = to_le_bytes w32 n
number_text U64 n = to_le_bytes w64 n
number_text U128 n = to_le_bytes w128 n

-- an index, or a number
abbrev pub immediate_text : Immediate → List ℕ
immediate_text Nothing = []
immediate_text (Local i) = uleb i
immediate_text (Struct i) = uleb i
immediate_text (FieldImmediate i) = uleb i
immediate_text (Function i) = uleb i
immediate_text (Constant i) = uleb i
immediate_text (Target i) = uleb i
immediate_text (Literal w n) = number_text w n

-- an opcode, and its immediate
abbrev pub instruction_text : Instruction → List ℕ
instruction_text i = code_of i ∷ immediate_text (immediate_of i)

-- the further locals' signature, and the instructions
abbrev pub code_text : FunctionDefinition → List ℕ
code_text d = uleb d.locals ++ counted instruction_text d.code

-- its handle, its visibility, whether it is entry, its acquires list and its code
abbrev pub function_definition_text : FunctionDefinition → List ℕ
function_definition_text d =
    uleb d.handle ++ visibility_code d.visibility ∷ cond d.is_entry 4 0 ∷ counted uleb d.acquires ++ code_text d

-- its struct definition and its position
abbrev pub field_handle_text : FieldHandle → List ℕ
field_handle_text h = uleb h.definition ++ uleb h.position
