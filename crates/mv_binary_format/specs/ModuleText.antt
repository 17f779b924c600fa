-- The text of a whole module: its headers, its tables in some order, and its own handle.
--   Table, Header                 a table's kind and bytes, and where its bytes stand
--   all_tables m, tables m        a module's tables by ascending kind; and those that have entries (why only those: decision 6)
--   headers_from offset ts        the headers of tables that follow one another
--   laid_out m headers contents   a module's bytes, with its headers and its tables in these orders
--   HasText m                     each part of the module has a text
--   IsModuleText bytes m          the bytes are the module's, in any order of headers and of tables
--   ordered_text m                its text with both in ascending order
-- The others are parts of these.
use Rattle.std.specs.Prelude.{ℕ, ◌==◌, ◌||◌, List, length, flat_map, nat_lt, [], ◌∷◌, filter, ◌+◌, ◌++◌, nat_le, IsTrue, sum_by, ◌≡◌, IsPermutation}
use Rattle.std.specs.List.{list_all}
use Rattle.std.specs.Int.{w32, to_le_bytes}
use Rattle.mv_move_types.specs.Limits.{most_content_bytes, most_functions}
use Rattle.mv_move_types.specs.Module.{Module}
use Rattle.mv_module_text.specs.Entries.{module_handle_text, struct_definition_text, address_text, function_handle_text, struct_handle_text}
use Rattle.mv_module_text.specs.Entries.{identifier_text, signature_text, function_definition_text, constant_text, field_handle_text, counted}
use Rattle.mv_uleb.specs.Uleb.{uleb}
use Rattle.mv_module_text.specs.Fits.{function_handle_fits, module_handle_fits, address_fits, identifier_fits, is_index, signature_fits}
use Rattle.mv_module_text.specs.Fits.{struct_handle_fits, struct_definition_fits, function_definition_fits, constant_fits, field_handle_fits}

-- a table: its kind and the bytes of its entries
pub record Table : Type 0 where
  pub kind : ℕ
  pub content : List ℕ

-- where a table's content stands, from the first byte after the last header
pub record Header : Type 0 where
  pub kind : ℕ
  pub offset : ℕ
  pub length : ℕ

-- the table of these entries
abbrev pub table : {A : Type 0} → ℕ → (A → List ℕ) → List A → Table
table kind each entries = record { kind = kind; content = flat_map each entries }

-- a module's tables by ascending kind, those without entries among them
abbrev pub all_tables : Module → List Table
all_tables m =
    table 0x01 module_handle_text m.module_handles
    ∷ table 0x02 struct_handle_text m.struct_handles
    ∷ table 0x03 function_handle_text m.function_handles
    ∷ table 0x05 signature_text m.signatures
    ∷ table 0x06 constant_text m.constants
    ∷ table 0x07 identifier_text m.identifiers
    ∷ table 0x08 address_text m.addresses
    ∷ table 0x0A struct_definition_text m.structs
    ∷ table 0x0C function_definition_text m.functions
    ∷ table 0x0D field_handle_text m.field_handles
    ∷ []

-- the tables that have bytes
abbrev pub with_bytes : List Table → List Table
with_bytes = filter (λ t. nat_lt 0 (length t.content))

-- a module's tables that have entries, by ascending kind
abbrev pub tables : Module → List Table
tables m = with_bytes (all_tables m)

-- the headers of tables whose contents follow one another from this offset
abbrev pub headers_from : ℕ → List Table → List Header
headers_from offset [] = []
headers_from offset (t ∷ ts) =
    record { kind = t.kind; offset = offset; length = length t.content } ∷ headers_from (offset + length t.content) ts

-- its kind, its offset and its length
abbrev pub header_text : Header → List ℕ
header_text h = h.kind ∷ uleb h.offset ++ uleb h.length

-- the module's bytes with these headers, and its tables' contents in this order
abbrev pub laid_out : Module → List Header → List Table → List ℕ
laid_out m headers contents =
    0xA1 ∷ 0x1C ∷ 0xEB ∷ 0x0B ∷ to_le_bytes w32 m.version ++ counted header_text headers
    ++ flat_map (λ t. t.content) contents ++ uleb m.own

-- each part of the module has a text
pub record HasText (m : Module) : Type 0 where
  pub version : IsTrue ((m.version == 5) || (m.version == 6))
  pub module_handles : IsTrue (list_all module_handle_fits m.module_handles)
  pub struct_handles : IsTrue (list_all struct_handle_fits m.struct_handles)
  pub function_handles : IsTrue (list_all function_handle_fits m.function_handles)
  pub signatures : IsTrue (list_all (signature_fits m.version) m.signatures)
  pub constants : IsTrue (list_all (constant_fits m.version) m.constants)
  pub identifiers : IsTrue (list_all identifier_fits m.identifiers)
  pub addresses : IsTrue (list_all address_fits m.addresses)
  pub structs : IsTrue (list_all (struct_definition_fits m.version) m.structs)
  pub functions : IsTrue (list_all (function_definition_fits m.version) m.functions)
  pub few_functions : IsTrue (nat_le (length m.functions) most_functions)
  pub field_handles : IsTrue (list_all field_handle_fits m.field_handles)
  pub own : IsTrue (is_index m.own)
  pub size : IsTrue (nat_le (sum_by (λ t. length t.content) (tables m)) most_content_bytes)

-- The bytes are the module's: the contents of its tables tile their area in some order, and their headers stand in some order.
pub record IsModuleText (bytes : List ℕ) (m : Module) : Type 0 where
  pub contents : List Table
  pub headers : List Header
  pub tiled : IsPermutation contents (tables m)
  pub listed : IsPermutation headers (headers_from 0 contents)
  pub text : bytes ≡ laid_out m headers contents
  pub fits : HasText m

-- the text that stands in ascending order of kind throughout
abbrev pub ordered_text : Module → List ℕ
ordered_text m = laid_out m (headers_from 0 (tables m)) (tables m)
