-- The module that bytes are the text of.
-- This finds the module by reading; ModuleText.antt defines which bytes are a module's (why both: decision 12).
--   magic                                         the bytes that each module begins with
--   version_from, kinds, header_from              a version, the kinds of tables, and a header
--   contents_from turns offset headers            the tables, which follow one another without a gap or an overlap
--   content_of kind ts, entries_of kind each ts   a table's bytes, and its entries
--   module_from version own ts                    the module with these tables
--   module_of bytes                               the module that the bytes spell, if they spell one
--   tables_of bytes                               the same; one without tables if they spell none
-- The others are parts of these.
use Rattle.std.specs.Prelude.{ℕ, zero, suc, Bool, ◌+◌, ◌==◌, ◌&&◌, ◌||◌, nat_lt, nat_le, cond, List, [], ◌∷◌, length, Option, Some, None, option_map, unwrap_or}
use Rattle.std.specs.Bool.{then_some}
use Rattle.std.specs.List.{find, list_any}
use Rattle.std.specs.Option.{option_map_or}
use Rattle.mv_uleb.specs.Parsing.{number_from}
use Rattle.mv_move_types.specs.Limits.{most_content_bytes, most_functions}
use Rattle.mv_move_types.specs.Options.{◌>>=◌}
use Rattle.mv_move_types.specs.Module.{Module}
use Rattle.mv_module_text.specs.Parsing.{Read, byte_from, mark_from, bytes_from, index_from, counted_from, all_from, module_handle_from}
use Rattle.mv_module_text.specs.Parsing.{struct_handle_from, function_handle_from, signature_from, identifier_from, address_from}
use Rattle.mv_module_text.specs.Parsing.{struct_definition_from, function_definition_from, constant_from, field_handle_from, number_of_from}
use Rattle.mv_move_types.specs.declared.token.Width.TheVariants.{U32}
use Rattle.mv_binary_format.specs.ModuleText.{Table, Header}

-- the bytes that each module begins with: the format's mark
abbrev pub magic : List ℕ
magic = 0xA1 ∷ 0x1C ∷ 0xEB ∷ 0x0B ∷ []

-- what stands after bytes that have to be these
abbrev pub marks_from : List ℕ → List ℕ → Option (List ℕ)
marks_from [] bytes = Some bytes
marks_from (b ∷ marks) bytes = mark_from b bytes >>= marks_from marks

-- a version that there is, in four bytes
abbrev pub version_from : List ℕ → Read ℕ
version_from bytes = do
  version ← number_of_from U32 bytes
  then_some ((version.0 == 5) || (version.0 == 6)) version

-- the kinds of tables
abbrev pub kinds : List ℕ
kinds = 0x01 ∷ 0x02 ∷ 0x03 ∷ 0x05 ∷ 0x06 ∷ 0x07 ∷ 0x08 ∷ 0x0A ∷ 0x0C ∷ 0x0D ∷ []

-- a header: a kind that there is, an offset, and a length that is not 0
unfoldable pub header_from : List ℕ → Read Header
header_from bytes = do
  kind ← byte_from bytes
  offset ← number_from most_content_bytes kind.1
  size ← number_from most_content_bytes offset.1
  then_some (list_any (λ k. k == kind.0) kinds && nat_lt 0 size.0) (record { kind = kind.0; offset = offset.0; length = size.0 }, size.1)

-- the elements beside the first that passes the test
abbrev pub without : {A : Type 0} → (A → Bool) → List A → List A
without test [] = []
without test (x ∷ xs) = cond (test x) xs (x ∷ without test xs)

-- whether a header's table begins here
abbrev pub begins_at : ℕ → Header → Bool
begins_at offset h = h.offset == offset

-- The contents that headers tell of, in at most so many turns: each begins where the one before it ends, the first at
-- this offset, and they end at most_content_bytes or before.
unfoldable pub contents_from : ℕ → ℕ → List Header → List ℕ → Read (List Table)
contents_from turns offset [] bytes = Some ([], bytes)
contents_from zero offset (h ∷ hs) bytes = None
contents_from (suc turns) offset (h ∷ hs) bytes = do
  first ← find (begins_at offset) (h ∷ hs)
  end ← then_some (nat_le (offset + first.length) most_content_bytes) (offset + first.length)
  content ← bytes_from first.length bytes
  others ← contents_from turns end (without (begins_at offset) (h ∷ hs)) content.1
  Some (record { kind = first.kind; content = content.0 } ∷ others.0, others.1)

-- whether a table is of this kind
abbrev pub is_of : ℕ → Table → Bool
is_of kind t = t.kind == kind

-- the content of the table of this kind, or nothing
abbrev pub content_of : ℕ → List Table → List ℕ
content_of kind tables = option_map_or (λ t. t.content) (find (is_of kind) tables) []

-- the entries of the table of this kind, which fill it, and the other tables
unfoldable pub entries_of : {A : Type 0} → ℕ → (List ℕ → Read A) → List Table → Option (List A × List Table)
entries_of kind each tables =
    option_map (λ xs. (xs, without (is_of kind) tables)) (all_from each (length (content_of kind tables)) (content_of kind tables))

-- the module of this version and these tables, where no kind stands twice
unfoldable pub module_from : ℕ → ℕ → List Table → Option Module
module_from version own tables = do
  module_handles ← entries_of 0x01 module_handle_from tables
  struct_handles ← entries_of 0x02 struct_handle_from module_handles.1
  function_handles ← entries_of 0x03 function_handle_from struct_handles.1
  signatures ← entries_of 0x05 (signature_from version) function_handles.1
  constants ← entries_of 0x06 (constant_from version) signatures.1
  identifiers ← entries_of 0x07 identifier_from constants.1
  addresses ← entries_of 0x08 address_from identifiers.1
  structs ← entries_of 0x0A (struct_definition_from version) addresses.1
  functions ← entries_of 0x0C (function_definition_from version) structs.1
  field_handles ← entries_of 0x0D field_handle_from functions.1
  then_some ((length field_handles.1 == 0) && nat_le (length functions.0) most_functions) (record {
    version = version;
    module_handles = module_handles.0;
    struct_handles = struct_handles.0;
    function_handles = function_handles.0;
    signatures = signatures.0;
    constants = constants.0;
    identifiers = identifiers.0;
    addresses = addresses.0;
    structs = structs.0;
    functions = functions.0;
    field_handles = field_handles.0;
    own = own;
  })

-- the module that the bytes spell, if they spell one
unfoldable pub module_of : List ℕ → Option Module
module_of bytes = do
  rest ← marks_from magic bytes
  version ← version_from rest
  headers ← counted_from 10 header_from version.1
  contents ← contents_from (length headers.0) 0 headers.0 headers.1
  own ← index_from contents.1
  cond (length own.1 == 0) (module_from version.0 own.0 contents.0) None

-- a module without tables
abbrev pub no_tables : Module
no_tables = record {
  version = 5;
  module_handles = [];
  struct_handles = [];
  function_handles = [];
  signatures = [];
  constants = [];
  identifiers = [];
  addresses = [];
  structs = [];
  functions = [];
  field_handles = [];
  own = 0;
}

-- the tables of the module that the bytes spell
abbrev pub tables_of : List ℕ → Module
tables_of bytes = unwrap_or (module_of bytes) no_tables
