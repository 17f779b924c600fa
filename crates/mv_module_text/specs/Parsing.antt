-- The entry that stands at the front of bytes, and the bytes after it.
-- First numbers, bytes and lists, then types, then entries in the order of Entries.antt. Most names end in `_from`: what stands at the
-- front of the bytes, with those after it, or nothing.
--   Read A                                         something read, and the bytes after it
--   index_from, byte_from, mark_from, bytes_from   an index or a count, a byte, a byte that has to be this one, so many bytes
--   entries_from each n, counted_from most each    so many entries; and a count, with so many
--   all_from each turns                            entries up to the end of the bytes
--   number_of_from w                               a number in the bytes of its width
--   leaf_rows, kind_of version code                the tokens of leaf types
--   token_from version                             a type
--   identifier_from, address_from                  a name, and an address
--   form_of, bare_of, indexed_of                   an opcode's form, and the instruction of a form
--   instruction_from version                       an instruction
--   function_definition_from version               a function, with its code
-- The others read the other entries, or are parts of these. What is read depends on the version (why: decision 24).
use Rattle.std.specs.Prelude.{ℕ, zero, suc, ◌==◌, nat_le, Bool, true, false, not, ◌&&◌, ◌||◌, cond, option_map, find}
use Rattle.std.specs.Prelude.{List, [], ◌∷◌, take, drop, length, Option, Some, None, bit_and}
use Rattle.std.specs.Bool.{then_some}
use Rattle.std.specs.Int.{w128, from_be_bytes}
use Rattle.mv_uleb.specs.Parsing.{number_from}
use Rattle.mv_move_types.specs.Limits.{most_fields, most_instructions, most_name_bytes, most_types}
use Rattle.mv_move_types.specs.declared.tables.ModuleHandle.{ModuleHandle}
use Rattle.mv_move_types.specs.declared.tables.StructHandle.{StructHandle}
use Rattle.mv_move_types.specs.declared.tables.FunctionHandle.{FunctionHandle}
use Rattle.mv_move_types.specs.declared.tables.Field.{Field}
use Rattle.mv_move_types.specs.declared.tables.Visibility.{Visibility}
use Rattle.mv_move_types.specs.declared.tables.Visibility.TheVariants.{Private, Public}
use Rattle.mv_move_types.specs.declared.token.Width.{Width}
use Rattle.mv_move_types.specs.declared.token.Width.TheVariants.{U8, U16, U32, U64, U128}
use Rattle.mv_move_types.specs.declared.token.LeafKind.{LeafKind}
use Rattle.mv_move_types.specs.declared.token.LeafKind.TheVariants.{Boolean, Number, Address, Signer}
use Rattle.mv_move_types.specs.declared.token.ValueType.{ValueType}
use Rattle.mv_move_types.specs.declared.token.ValueType.TheVariants.{OfLeaf, OfStruct}
use Rattle.mv_move_types.specs.declared.token.Token.{Token}
use Rattle.mv_move_types.specs.declared.token.Token.TheVariants.{Plain, Reference, MutableReference}
use Rattle.mv_move_types.specs.declared.token.Abilities.{Abilities}
use Rattle.mv_move_types.specs.declared.instruction.Instruction.{Instruction}
use Rattle.mv_move_types.specs.Instructions.{Form, Bare, Indexed, Numbered, Row, row_of, given}
use Rattle.mv_move_types.specs.Numbers.{little_endian}
use Rattle.mv_move_types.specs.Tokens.{width_bytes}
use Rattle.mv_move_types.specs.Options.{◌>>=◌}
use Rattle.mv_move_types.specs.declared.tables.FieldHandle.{FieldHandle}
use Rattle.mv_move_types.specs.Module.{Constant, StructDefinition, FunctionDefinition}
use Rattle.mv_module_text.specs.Fits.{identifier_fits}

-- something read, and the bytes after it
abbrev pub Read : Type 0 → Type 0
Read A = Option (A × List ℕ)

-- an index or a count
abbrev pub index_from : List ℕ → Read ℕ
index_from = number_from 65535

-- one byte
abbrev pub byte_from : List ℕ → Read ℕ
byte_from [] = None
byte_from (b ∷ bytes) = Some (b, bytes)

-- one byte that has to be this one
abbrev pub mark_from : ℕ → List ℕ → Option (List ℕ)
mark_from b [] = None
mark_from b (c ∷ bytes) = then_some (c == b) bytes

-- so many bytes
abbrev pub bytes_from : ℕ → List ℕ → Read (List ℕ)
bytes_from n bytes = then_some (nat_le n (length bytes)) (take n bytes, drop n bytes)

-- so many entries
abbrev pub entries_from : {A : Type 0} → (List ℕ → Read A) → ℕ → List ℕ → Read (List A)
entries_from each zero bytes = Some ([], bytes)
entries_from each (suc n) bytes = do
  x ← each bytes
  xs ← entries_from each n x.1
  Some (x.0 ∷ xs.0, xs.1)

-- a count of at most so many, and so many entries
abbrev pub counted_from : {A : Type 0} → ℕ → (List ℕ → Read A) → List ℕ → Read (List A)
counted_from most each bytes = do
  n ← number_from most bytes
  entries_from each n.0 n.1

-- entries up to the end of the bytes, in at most so many turns
abbrev pub all_from : {A : Type 0} → (List ℕ → Read A) → ℕ → List ℕ → Option (List A)
all_from each turns [] = Some []
all_from each zero (b ∷ bytes) = None
all_from each (suc turns) (b ∷ bytes) = do
  x ← each (b ∷ bytes)
  xs ← all_from each turns x.1
  Some (x.0 ∷ xs)

-- a number of a width in as many bytes as it has, little-endian
abbrev pub number_of_from : Width → List ℕ → Read ℕ
number_of_from w bytes = do
  n ← bytes_from (width_bytes w) bytes
  Some (little_endian n.0, n.1)

-- a leaf type's token, whether version 6 alone has it, and the type
pub record LeafRow : Type 0 where
  pub code : ℕ
  pub is_late : Bool
  pub kind : LeafKind

-- the tokens of leaf types
abbrev pub leaf_rows : List LeafRow
leaf_rows =
    record { code = 0x01; is_late = false; kind = Boolean }
    ∷ record { code = 0x02; is_late = false; kind = Number U8 }
    ∷ record { code = 0x03; is_late = false; kind = Number U64 }
    ∷ record { code = 0x04; is_late = false; kind = Number U128 }
    ∷ record { code = 0x05; is_late = false; kind = Address }
    ∷ record { code = 0x0C; is_late = false; kind = Signer }
    ∷ record { code = 0x0D; is_late = true; kind = Number U16 }
    ∷ record { code = 0x0E; is_late = true; kind = Number U32 }
    ∷ []

-- whether a row is the token's, in a version that has it
abbrev pub is_leaf_row_of : ℕ → ℕ → LeafRow → Bool
is_leaf_row_of version code r = (r.code == code) && (not r.is_late || version == 6)

-- the leaf type of a token
abbrev pub kind_of : ℕ → ℕ → Option LeafKind
kind_of version code = option_map (λ (r : LeafRow). r.kind) (find (is_leaf_row_of version code) leaf_rows)

-- the type that is no reference with this token
abbrev pub value_type_by : ℕ → ℕ → List ℕ → Read ValueType
value_type_by version code bytes =
    cond (code == 0x08) (index_from bytes >>= λ i. Some (OfStruct i.0, i.1)) (kind_of version code >>= λ kind. Some (OfLeaf kind, bytes))

-- a type that is no reference at the front
abbrev pub value_type_from : ℕ → List ℕ → Read ValueType
value_type_from version bytes = byte_from bytes >>= λ code. value_type_by version code.0 code.1

-- the type with this token, a reference's mark among them
abbrev pub token_by : ℕ → ℕ → List ℕ → Read Token
token_by version code bytes =
    cond (code == 0x06) (value_type_from version bytes >>= λ t. Some (Reference t.0, t.1))
    (cond (code == 0x07) (value_type_from version bytes >>= λ t. Some (MutableReference t.0, t.1))
    (value_type_by version code bytes >>= λ t. Some (Plain t.0, t.1)))

-- a type at the front
abbrev pub token_from : ℕ → List ℕ → Read Token
token_from version bytes = byte_from bytes >>= λ code. token_by version code.0 code.1

-- the abilities whose bits these are
abbrev pub abilities_of_bits : ℕ → Abilities
abilities_of_bits n = record {
  copy = bit_and n 1 == 1;
  drop = bit_and n 2 == 2;
  store = bit_and n 4 == 4;
  key = bit_and n 8 == 8;
}

-- its address and its name
abbrev pub module_handle_from : List ℕ → Read ModuleHandle
module_handle_from bytes = do
  address ← index_from bytes
  name ← index_from address.1
  Some (record { address = address.0; name = name.0 }, name.1)

-- its module, its name, its abilities, and the byte of no type parameters
abbrev pub struct_handle_from : List ℕ → Read StructHandle
struct_handle_from bytes = do
  home ← index_from bytes
  name ← index_from home.1
  bits ← number_from 15 name.1
  rest ← mark_from 0 bits.1
  Some (record { «module» = home.0; name = name.0; abilities = abilities_of_bits bits.0 }, rest)

-- its module, its name, its signatures, and the byte of no type parameters
abbrev pub function_handle_from : List ℕ → Read FunctionHandle
function_handle_from bytes = do
  home ← index_from bytes
  name ← index_from home.1
  parameters ← index_from name.1
  results ← index_from parameters.1
  rest ← mark_from 0 results.1
  Some (record { «module» = home.0; name = name.0; parameters = parameters.0; results = results.0 }, rest)

-- its types
abbrev pub signature_from : ℕ → List ℕ → Read (List Token)
signature_from version = counted_from most_types (token_from version)

-- its type, and its bytes after their number
abbrev pub constant_from : ℕ → List ℕ → Read Constant
constant_from version bytes = do
  token ← token_from version bytes
  n ← index_from token.1
  content ← bytes_from n.0 n.1
  Some (record { token = token.0; bytes = content.0 }, content.1)

-- its bytes after their number
abbrev pub identifier_from : List ℕ → Read (List ℕ)
identifier_from bytes = do
  n ← number_from most_name_bytes bytes
  name ← bytes_from n.0 n.1
  then_some (identifier_fits name.0) name

-- 16 bytes, big-endian
abbrev pub address_from : List ℕ → Read ℕ
address_from bytes = do
  a ← bytes_from 16 bytes
  Some (from_be_bytes w128 a.0, a.1)

-- its name and its type
abbrev pub field_from : ℕ → List ℕ → Read Field
field_from version bytes = do
  name ← index_from bytes
  token ← token_from version name.1
  Some (record { name = name.0; token = token.0 }, token.1)

-- its handle, the byte of declared fields, and its fields
abbrev pub struct_definition_from : ℕ → List ℕ → Read StructDefinition
struct_definition_from version bytes = do
  handle ← index_from bytes
  rest ← mark_from 2 handle.1
  fields ← counted_from most_fields (field_from version) rest
  Some (record { handle = handle.0; fields = fields.0 }, fields.1)

-- a visibility by its byte
abbrev pub visibility_of : ℕ → Option Visibility
visibility_of code = cond (code == 0) (Some Private) (cond (code == 1) (Some Public) None)

-- whether a function is entry, by its flags
abbrev pub entry_of : ℕ → Option Bool
entry_of flags = cond (flags == 0) (Some false) (cond (flags == 4) (Some true) None)

-- a visibility at the front
abbrev pub visibility_from : List ℕ → Read Visibility
visibility_from bytes = do
  code ← byte_from bytes
  visibility ← visibility_of code.0
  Some (visibility, code.1)

-- a function's flags at the front
abbrev pub entry_from : List ℕ → Read Bool
entry_from bytes = do
  flags ← byte_from bytes
  is_entry ← entry_of flags.0
  Some (is_entry, flags.1)

-- the index or the number that a form has, or 0
abbrev pub immediate_from : Form → List ℕ → Read ℕ
immediate_from (Bare instruction) bytes = Some (0, bytes)
immediate_from (Indexed make) bytes = index_from bytes
immediate_from (Numbered width make) bytes = number_of_from width bytes

-- the form of an opcode in a version
abbrev pub form_of : ℕ → ℕ → Option Form
form_of version code = option_map (λ (r : Row). r.form) (row_of version code)

-- the instruction of a form that has neither
abbrev pub bare_of : Form → Option Instruction
bare_of (Bare instruction) = Some instruction
bare_of (Indexed make) = None
bare_of (Numbered width make) = None

-- that of a form that has an index
abbrev pub indexed_of : ℕ → Form → Option Instruction
indexed_of index (Bare instruction) = None
indexed_of index (Indexed make) = Some (make index)
indexed_of index (Numbered width make) = None

-- an instruction by its opcode, with its immediate after it
abbrev pub instruction_by : ℕ → ℕ → List ℕ → Read Instruction
instruction_by version code bytes = do
  row ← row_of version code
  n ← immediate_from row.form bytes
  Some (given row.form n.0, n.1)

-- an instruction at the front
abbrev pub instruction_from : ℕ → List ℕ → Read Instruction
instruction_from version bytes = byte_from bytes >>= λ code. instruction_by version code.0 code.1

-- its handle, its visibility, its flags, its acquires list, its further locals and its code
abbrev pub function_definition_from : ℕ → List ℕ → Read FunctionDefinition
function_definition_from version bytes = do
  handle ← index_from bytes
  visibility ← visibility_from handle.1
  is_entry ← entry_from visibility.1
  acquires ← counted_from 65535 index_from is_entry.1
  locals ← index_from acquires.1
  code ← counted_from most_instructions (instruction_from version) locals.1
  Some (record { handle = handle.0; visibility = visibility.0; is_entry = is_entry.0; acquires = acquires.0; locals = locals.0; code = code.0 }, code.1)

-- its struct definition and its position
abbrev pub field_handle_from : List ℕ → Read FieldHandle
field_handle_from bytes = do
  definition ← index_from bytes
  position ← index_from definition.1
  Some (record { definition = definition.0; position = position.0 }, position.1)
