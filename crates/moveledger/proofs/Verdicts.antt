-- From phases to what the commands answer, and that what is accepted fails none.
use Rattle.std.proofs.Common.{◌≡◌, ℕ, List, ◌⊎◌, inl, inr, refl, sym, subst}
use Rattle.mv_move_types.specs.declared.refusal.Refusal.{Refusal}
use Rattle.mv_move_types.specs.declared.refusal.Refusal.TheVariants.{Phase, Memory}
use Rattle.mv_move_types.specs.Module.{Module}
use Rattle.mv_move_types.specs.Refusals.{IsRefusedBy}
use Rattle.mv_type_rules.specs.Sound.{IsSound}
use Rattle.hex.proofs.HexLemmas.{decode_of-same}
use Rattle.moveledger.specs.Hexadecimal.{IsHexadecimal}
use Rattle.mv_ledger_state.specs.Publishing.{Spells, FailsAt}
use Rattle.moveledger.specs.Checking.{FailsCheck, FailsWith, IsAccepted, PassesWith}
use Rattle.moveledger.specs.Checking.{before_line_end, failing, in_certificate, in_module, not_hexadecimal, offer_of, too_long}
use Rattle.mv_ledger_state.proofs.Phases.{never-fails}
use Rattle.moveledger.proofs.Digits.{decode_of-hexadecimal}

module _ (bytes digits : List ℕ) where
  -- a module that is refused with each certificate fails alone
  pub refused-in_module : (e : Refusal) → ((certificate : List ℕ) → IsRefusedBy (FailsAt (offer_of bytes certificate)) e) → IsRefusedBy (FailsWith bytes digits) e
  refused-in_module (Phase p) h = in_module p h
  refused-in_module Memory h = tt

  pub refused-in_digits : (m : Module) (e : Refusal) → Spells bytes m → IsSound m → (e ≡ Phase 9) ⊎ (e ≡ Memory) → (e ≡ Phase 9 → (certificate : List ℕ) → IsHexadecimal digits certificate → ⊥)
      → IsRefusedBy (FailsWith bytes digits) e
  refused-in_digits m Memory text sound is none = tt
  refused-in_digits m (Phase p) text sound (inl is) none = let same : p ≡ 9 = cc in subst (FailsWith bytes digits) (sym same) (not_hexadecimal m text sound (none is))
  refused-in_digits m (Phase p) text sound (inr is) none = cc

-- what is accepted fails in no phase
module _ (bytes digits : List ℕ) (passes : PassesWith bytes digits) where
  never-with : {p : ℕ} → FailsWith bytes digits p → ⊥
  never-with (in_module phase alone) =
      never-fails (offer_of bytes passes.certificate) passes.tables passes.stated passes.passes phase (alone passes.certificate)
  never-with (not_hexadecimal m text sound none) = none passes.certificate passes.spelled
  never-with (in_certificate certificate phase spelled fails) =
      let same : certificate ≡ passes.certificate =
      decode_of-same digits certificate passes.certificate (decode_of-hexadecimal digits certificate spelled) (decode_of-hexadecimal digits passes.certificate passes.spelled) in
      never-fails (offer_of bytes passes.certificate) passes.tables passes.stated passes.passes phase (subst (λ (l : List ℕ). FailsAt (offer_of bytes l) phase) same fails)

never-fails-check : (bytes text : List ℕ) → IsAccepted bytes text → {p : ℕ} → FailsCheck bytes text p → ⊥
never-fails-check bytes text accepted (too_long long) = long accepted.0
never-fails-check bytes text accepted (failing phase short fails) = never-with bytes (before_line_end text) accepted.1 fails

pub accepted-refused : (bytes text : List ℕ) → IsAccepted bytes text → (e : Refusal) → IsRefusedBy (FailsCheck bytes text) e → e ≡ Memory
accepted-refused bytes text accepted (Phase p) h = absurd (never-fails-check bytes text accepted h)
accepted-refused bytes text accepted Memory h = refl
