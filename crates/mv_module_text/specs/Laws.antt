-- What it means that entries are read exactly where their texts stand.
use Rattle.std.specs.Prelude.{◌≡◌, ℕ, ◌≤◌, List, ◌++◌, length, flat_map, Bool, IsTrue, Some, ◌↔◌}
use Rattle.std.specs.List.{list_all}
use Rattle.mv_module_text.specs.Entries.{module_handle_text, struct_handle_text, function_handle_text, field_handle_text, signature_text}
use Rattle.mv_module_text.specs.Entries.{constant_text, identifier_text, address_text, struct_definition_text, function_definition_text}
use Rattle.mv_module_text.specs.Fits.{is_byte, module_handle_fits, struct_handle_fits, function_handle_fits, field_handle_fits, signature_fits}
use Rattle.mv_module_text.specs.Fits.{constant_fits, identifier_fits, address_fits, struct_definition_fits, function_definition_fits}
use Rattle.mv_module_text.specs.Parsing.{Read, all_from, module_handle_from, struct_handle_from, function_handle_from, field_handle_from}
use Rattle.mv_module_text.specs.Parsing.{signature_from, constant_from, identifier_from, address_from, struct_definition_from, function_definition_from}

-- each number is a byte
abbrev pub AreBytes : List ℕ → Type 0
AreBytes bytes = IsTrue (list_all is_byte bytes)

-- an entry is read at the front of bytes exactly where its text stands there and it may be written
abbrev pub StandsByText : {A : Type 0} → (List ℕ → Read A) → (A → List ℕ) → (A → Bool) → Type 0
StandsByText {A} from text fits =
    (bytes rest : List ℕ) (entry : A) → AreBytes bytes → (from bytes ≡ Some (entry, rest) ↔ ((bytes ≡ text entry ++ rest) × IsTrue (fits entry)))

-- bytes are read as entries up to their end exactly where they are the entries' texts and each may be written
abbrev pub StandAsTexts : {A : Type 0} → (List ℕ → Read A) → (A → List ℕ) → (A → Bool) → Type 0
StandAsTexts {A} from text fits =
    (turns : ℕ) (bytes : List ℕ) (entries : List A) → length bytes ≤ turns → AreBytes bytes
    → (all_from from turns bytes ≡ Some entries ↔ ((bytes ≡ flat_map text entries) × IsTrue (list_all fits entries)))

-- in this version a law holds of the entries of each table: of how they are read, of their texts, and of which may be written
pub record OfEachTable (Law : (A : Type 0) → (List ℕ → Read A) → (A → List ℕ) → (A → Bool) → Type 0) (version : ℕ) : Type 0 where
  pub module_handles : Law _ module_handle_from module_handle_text module_handle_fits
  pub struct_handles : Law _ struct_handle_from struct_handle_text struct_handle_fits
  pub function_handles : Law _ function_handle_from function_handle_text function_handle_fits
  pub field_handles : Law _ field_handle_from field_handle_text field_handle_fits
  pub signatures : Law _ (signature_from version) signature_text (signature_fits version)
  pub constants : Law _ (constant_from version) constant_text (constant_fits version)
  pub identifiers : Law _ identifier_from identifier_text identifier_fits
  pub addresses : Law _ address_from address_text address_fits
  pub structs : Law _ (struct_definition_from version) struct_definition_text (struct_definition_fits version)
  pub functions : Law _ (function_definition_from version) function_definition_text (function_definition_fits version)
