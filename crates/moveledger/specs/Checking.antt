-- Whether a module is accepted with the text of a certificate, and otherwise the first phase that they fail.
--   before_line_end text                           the text without a line end after it
--   offer_of bytes certificate                     a module with a certificate, as in a bundle
--   PassesWith bytes digits                        the digits spell a certificate with which the module passes phases 2 to 12
--   FailsAlone bytes phase                         the module fails the phase whatever the certificate
--   FailsWith bytes digits phase                   the first of phases 2 to 12 that the module and the digits fail
--   IsAccepted bytes text                          `check` accepts the module with the text of the certificate
--   FailsCheck bytes text phase                    otherwise: the first phase that fails, where 1 is a text or a module that is too long
-- AreShort is a part of these. Digits that spell no bytes fail phase 9 (refusal_of).
use Rattle.std.specs.Prelude.{ℕ, ◌-◌, ◌*◌, ◌≤◌, ◌==◌, if◌then◌else◌, List, length, take, slice_index}
use Rattle.mv_move_types.specs.Limits.{most_certificate_bytes, most_module_bytes}
use Rattle.mv_move_types.specs.declared.refusal.Refusal.{Refusal}
use Rattle.mv_move_types.specs.declared.refusal.Refusal.TheVariants.{Phase, Memory}
use Rattle.mv_move_types.specs.Module.{Module}
use Rattle.mv_type_rules.specs.Sound.{IsSound}
use Rattle.mv_certificate_rules.specs.Certificate.{Certificate}
use Rattle.mv_machine.specs.Ledger.{Offer}
use Rattle.hex.specs.declared.error.FromHexError.{FromHexError}
use Rattle.hex.specs.declared.error.FromHexError.TheVariants.{OutOfMemory}
use Rattle.moveledger.specs.Hexadecimal.{IsHexadecimal}
use Rattle.mv_ledger_state.specs.Publishing.{Spells, Passes, FailsAt}

-- the text without a line end after it
abbrev pub before_line_end : List ℕ → List ℕ
before_line_end text = if slice_index text (length text - 1) == 10 then take (length text - 1) text else text

-- digits that spell no bytes are refused in phase 9
abbrev pub refusal_of : FromHexError → Refusal
refusal_of OutOfMemory = Memory
refusal_of _ = Phase 9

-- digits of a certificate: two for each of its bytes
abbrev pub most_digits : ℕ
most_digits = 2 * most_certificate_bytes

-- the bytes of a module are within their limit, and so are the digits of a certificate
abbrev pub AreShort : List ℕ → List ℕ → Type 0
AreShort bytes digits = (length bytes ≤ most_module_bytes) × (length digits ≤ most_digits)

-- the bytes of a module, offered with those of a certificate
abbrev pub offer_of : List ℕ → List ℕ → Offer
offer_of bytes certificate = record { text = bytes; certificate = certificate }

-- the digits spell the bytes of a certificate with which the module passes phases 2 to 12
pub record PassesWith (bytes digits : List ℕ) : Type 0 where
  pub certificate : List ℕ
  pub tables : Module
  pub stated : Certificate
  pub spelled : IsHexadecimal digits certificate
  pub passes : Passes (offer_of bytes certificate) tables stated

-- the module fails this phase, whatever certificate is offered with it
abbrev pub FailsAlone : List ℕ → ℕ → Type 0
FailsAlone bytes phase = (certificate : List ℕ) → FailsAt (offer_of bytes certificate) phase

-- the first of phases 2 to 12 that a module and the digits of a certificate fail
pub data FailsWith (bytes digits : List ℕ) : ℕ → Type 0 where
  in_module : (phase : ℕ) → FailsAlone bytes phase → FailsWith bytes digits phase
  not_hexadecimal : (m : Module) → Spells bytes m → IsSound m → ((certificate : List ℕ) → ¬ IsHexadecimal digits certificate) → FailsWith bytes digits 9
  in_certificate : (certificate : List ℕ) (phase : ℕ)
      → IsHexadecimal digits certificate → FailsAt (offer_of bytes certificate) phase → FailsWith bytes digits phase

-- the module and the text are within their limits, and the module passes with the digits before the text's line end
abbrev pub IsAccepted : List ℕ → List ℕ → Type 0
IsAccepted bytes text = AreShort bytes (before_line_end text) × PassesWith bytes (before_line_end text)

-- the first phase that a module and the text of a certificate fail
pub data FailsCheck (bytes text : List ℕ) : ℕ → Type 0 where
  too_long : ¬ AreShort bytes (before_line_end text) → FailsCheck bytes text 1
  failing : (phase : ℕ) → AreShort bytes (before_line_end text) → FailsWith bytes (before_line_end text) phase → FailsCheck bytes text phase
