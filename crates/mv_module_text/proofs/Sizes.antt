-- No text of an entry is empty.
use Rattle.std.proofs.Common.{ℕ, ◌<◌, List, [], ◌∷◌, ◌++◌, length, arith, length-append, lt-ltb, le-ltb, inl, inr}
use Rattle.std.proofs.lemmas.Bool.{cases_lt}
use Rattle.mv_uleb.specs.Uleb.{uleb}
use Rattle.mv_move_types.specs.declared.token.ValueType.TheVariants.{OfLeaf}
use Rattle.mv_move_types.specs.declared.token.Token.{Token}
use Rattle.mv_move_types.specs.declared.token.Token.TheVariants.{Plain}
use Rattle.mv_module_text.specs.Entries.{module_handle_text, struct_handle_text, function_handle_text, signature_text, constant_text, identifier_text}
use Rattle.mv_module_text.specs.Entries.{address_text, struct_definition_text, function_definition_text, field_handle_text, counted, ability_bits}
use Rattle.mv_module_text.specs.Entries.{field_text, code_text, token_text}
use Rattle.mv_module_text.specs.Fits.{module_handle_fits, struct_handle_fits, function_handle_fits, signature_fits, constant_fits, identifier_fits}
use Rattle.mv_module_text.specs.Fits.{address_fits, struct_definition_fits, function_definition_fits, field_handle_fits}
use Rattle.mv_module_text.proofs.Texts.{Takes}

-- a number has a byte
pub uleb-some : (n : ℕ) → 0 < length (uleb n)
unfolding uleb
uleb-some n =
    elim (cases_lt n 128) [
      | inl lt ↦ rw (lt-ltb n 128 lt) (omega arith)
      | inr ge ↦ rw (le-ltb n 128 ge) (omega arith)
    ]

-- what begins with some bytes has some
some_first : (x y : List ℕ) → 0 < length x → 0 < length (x ++ y)
some_first x y lt = omega (arith, length-append x y)

pub module_handle-takes : Takes module_handle_text module_handle_fits
module_handle-takes h ok = some_first (uleb h.address) (uleb h.name) (uleb-some h.address)

pub struct_handle-takes : Takes struct_handle_text struct_handle_fits
struct_handle-takes h ok =
    some_first (uleb h.module ++ uleb h.name ++ uleb (ability_bits h.abilities)) (0 ∷ [])
    (some_first (uleb h.module ++ uleb h.name) (uleb (ability_bits h.abilities)) (some_first (uleb h.module) (uleb h.name) (uleb-some h.module)))

pub function_handle-takes : Takes function_handle_text function_handle_fits
function_handle-takes h ok =
    some_first (uleb h.module ++ uleb h.name ++ uleb h.parameters ++ uleb h.results) (0 ∷ [])
    (some_first (uleb h.module ++ uleb h.name ++ uleb h.parameters) (uleb h.results)
    (some_first (uleb h.module ++ uleb h.name) (uleb h.parameters) (some_first (uleb h.module) (uleb h.name) (uleb-some h.module))))

pub signature-takes : (version : ℕ) → Takes signature_text (signature_fits version)
signature-takes version tokens ok = some_first (uleb (length tokens)) _ (uleb-some (length tokens))

pub identifier-takes : Takes identifier_text identifier_fits
identifier-takes name ok = some_first (uleb (length name)) name (uleb-some (length name))

pub address-takes : Takes address_text address_fits
address-takes a ok = omega arith

pub struct_definition-takes : (version : ℕ) → Takes struct_definition_text (struct_definition_fits version)
struct_definition-takes version d ok = some_first (uleb d.handle) (2 ∷ counted field_text d.fields) (uleb-some d.handle)

pub function_definition-takes : (version : ℕ) → Takes function_definition_text (function_definition_fits version)
function_definition-takes version d ok =
    some_first _ (code_text d) (some_first (uleb d.handle) _ (uleb-some d.handle))

-- a type has a byte
token-some : (t : Token) → 0 < length (token_text t)
token-some (Plain (OfLeaf kind)) = omega arith
token-some t = omega arith

pub constant-takes : (version : ℕ) → Takes constant_text (constant_fits version)
constant-takes version c ok = some_first _ c.bytes (some_first (token_text c.token) _ (token-some c.token))

pub field_handle-takes : Takes field_handle_text field_handle_fits
field_handle-takes h ok = some_first (uleb h.definition) (uleb h.position) (uleb-some h.definition)
