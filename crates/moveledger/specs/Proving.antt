-- The text of a certificate that is made for a module, or why there is none.
--   IsProvedBy bytes text       the text is that of a certificate with which the module passes phases 2 to 12
--   IsAcceptedBack bytes text   `check` accepts the module with this text, if it is within its limit
--   FailsProof bytes phase      the first phase that fails, whatever the certificate
--   IsComplexText bytes         the module passes phases 2 to 8, and the search for its edges meets a limit
--   HasNoProof bytes error      the error says such a reason, or an allocation failed
--   HasNoProofWithin steps ..   the same where the search may take so many steps, or any number of them
--   IsProvableText bytes        some certificate is there with which the module passes
-- IsShort is a part of these; error_of is the error where the module alone is refused.
use Rattle.std.specs.Prelude.{◌≡◌, ℕ, ◌≤◌, List, [], ◌∷◌, ◌++◌, length, Option, IsSome}
use Rattle.mv_move_types.specs.Limits.{most_module_bytes}
use Rattle.mv_move_types.specs.declared.refusal.Refusal.{Refusal}
use Rattle.mv_move_types.specs.declared.refusal.Refusal.TheVariants.{Phase, Memory as OutOfMemory}
use Rattle.mv_move_types.specs.Module.{Module}
use Rattle.mv_type_rules.specs.Sound.{IsSound}
use Rattle.mv_certificate_rules.specs.Certificate.{Certificate}
use Rattle.mv_certificate_rules.specs.CertificateText.{certificate_text}
use Rattle.mv_analyser.specs.Principal.{FailsEach, IsTooComplex, IsUnprovedBy, IsWithoutReferences}
use Rattle.mv_analyser.specs.declared.LimitError.{LimitError}
use Rattle.mv_analyser.specs.declared.LimitError.TheVariants.{Unproved, TooLong}
use Rattle.mv_analyser.specs.declared.ProveError.{ProveError}
use Rattle.mv_analyser.specs.declared.ProveError.TheVariants.{Refused, Memory}
use Rattle.moveledger.specs.Hexadecimal.{hexadecimal}
use Rattle.mv_ledger_state.specs.Publishing.{Spells, Passes}
use Rattle.moveledger.specs.Checking.{FailsAlone, IsAccepted, most_digits, offer_of}

-- the bytes of a module are within their limit
abbrev pub IsShort : List ℕ → Type 0
IsShort bytes = length bytes ≤ most_module_bytes

-- the text is the hexadecimal, in lower case, of a certificate's text, and with this the module passes phases 2 to 12
pub record IsProvedBy (bytes text : List ℕ) : Type 0 where
  pub short : IsShort bytes
  pub tables : Module
  pub certificate : Certificate
  pub written : text ≡ hexadecimal (certificate_text certificate)
  pub passes : Passes (offer_of bytes (certificate_text certificate)) tables certificate

-- while it is within its limit, the text is accepted for the module, with a line end after it and without
abbrev pub IsAcceptedBack : List ℕ → List ℕ → Type 0
IsAcceptedBack bytes text = length text ≤ most_digits → IsAccepted bytes text × IsAccepted bytes (text ++ 10 ∷ [])

-- The first phase that a module fails: 1, one of 2 to 8, or one of 10 to 12 that no certificate passes.
pub data FailsProof (bytes : List ℕ) : ℕ → Type 0 where
  too_long : ¬ IsShort bytes → FailsProof bytes 1
  in_module : (phase : ℕ) → IsShort bytes → FailsAlone bytes phase → FailsProof bytes phase
  in_each : (m : Module) (phase : ℕ) → IsShort bytes → Spells bytes m → IsSound m → FailsEach m phase → FailsProof bytes phase

-- the bytes spell a module that passes phases 2 to 8 and has a local of reference type, and the search for some function's edges meets a limit
pub record IsComplexText (bytes : List ℕ) : Type 0 where
  pub short : IsShort bytes
  pub tables : Module
  pub text : Spells bytes tables
  pub sound : IsSound tables
  pub references : ¬ IsWithoutReferences tables
  pub complex : IsTooComplex tables

-- the module fails this phase; or it has a local that is a reference, and the search meets a limit; or an allocation failed
abbrev pub HasNoProof : List ℕ → ProveError → Type 0
HasNoProof bytes = IsUnprovedBy (FailsProof bytes) (IsComplexText bytes)

-- the same where the steps of the search are limited, or aren't: where they are, they may be used up
abbrev pub HasNoProofWithin : Option ℕ → List ℕ → LimitError → Type 0
HasNoProofWithin steps bytes (Unproved e) = HasNoProof bytes e
HasNoProofWithin steps bytes TooLong = IsSome steps

-- some certificate is there with which the module passes phases 2 to 12
pub record IsProvableText (bytes : List ℕ) : Type 0 where
  pub short : IsShort bytes
  pub certificate : List ℕ
  pub tables : Module
  pub stated : Certificate
  pub passes : Passes (offer_of bytes certificate) tables stated

-- the error where a module is refused before a certificate is sought
abbrev pub error_of : Refusal → ProveError
error_of (Phase phase) = Refused phase
error_of OutOfMemory = Memory
