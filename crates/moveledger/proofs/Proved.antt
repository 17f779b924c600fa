-- What is answered where a certificate is made, and where none is.
use Rattle.std.proofs.Common.{◌≡◌, ℕ, ◌≤◌, Bool, true, false, List, [], ◌∷◌, ◌++◌, length, Option, None, IsSome, IsTrue, refl, sym, ap, ◌∙◌, subst}
use Rattle.std.proofs.lemmas.Bool.{and_from}
use Rattle.mv_move_types.specs.declared.refusal.Refusal.{Refusal}
use Rattle.mv_move_types.specs.declared.refusal.Refusal.TheVariants.{Phase, Memory as OutOfMemory}
use Rattle.mv_move_types.specs.Module.{Module}
use Rattle.mv_move_types.specs.Refusals.{IsRefusedBy}
use Rattle.mv_module_text.specs.Laws.{AreBytes}
use Rattle.mv_binary_format.specs.Laws.{IsReadByText}
use Rattle.mv_type_rules.specs.Sound.{IsSound}
use Rattle.mv_acquires.specs.Acquires.{AcquiresHold}
use Rattle.mv_certificate.specs.Answers.{bad_locals, bad_borrows, bad_acquires}
use Rattle.mv_certificate_rules.specs.Certificate.{Certificate, all_locals_hold, all_edges_hold, certificate_holds}
use Rattle.mv_certificate_rules.specs.CertificateText.{certificate_text}
use Rattle.mv_certificate_rules.specs.Shape.{AllStatedFit}
use Rattle.mv_analyser.specs.Principal.{IsOfLimits, IsOfLimitsWithin, IsProvable, IsUnproved, IsUnprovedWithin, PassesCheck}
use Rattle.mv_analyser.specs.declared.LimitError.{LimitError}
use Rattle.mv_analyser.specs.declared.LimitError.TheVariants.{Unproved, TooLong}
use Rattle.mv_analyser.specs.declared.ProveError.{ProveError}
use Rattle.mv_analyser.specs.declared.ProveError.TheVariants.{Refused, TooComplex, Memory}
use Rattle.moveledger.specs.Hexadecimal.{hexadecimal, IsHexadecimal}
use Rattle.mv_ledger_state.specs.Publishing.{FailsAt, Passes, Spells}
use Rattle.mv_ledger_state.proofs.Spelling.{module-one}
use Rattle.moveledger.specs.Checking.{AreShort, IsAccepted, PassesWith, before_line_end, offer_of}
use Rattle.moveledger.specs.Proving.{HasNoProof, HasNoProofWithin, IsAcceptedBack, IsProvableText, IsProvedBy, IsShort, error_of, in_each, in_module}
use Rattle.moveledger.proofs.Texts.{before_line_end-hexadecimal, before_line_end-line}
use Rattle.mv_ledger_state.proofs.Phases.{never-fails}

-- what isn't refused holds
decided : (b : Bool) → ((IsTrue b → ⊥) → ⊥) → IsTrue b
decided true h = refl
decided false h = absurd (h (λ e. cc))

-- a certificate that nothing but want of memory refuses holds, and the acquires lists are right
module _ (m : Module) (c : Certificate) (passes : PassesCheck m c) where
  no-phase : (p : ℕ) → Phase p ≡ OutOfMemory → ⊥
  no-phase p e = cc

  pub passes-holds : IsTrue (certificate_holds m c)
  passes-holds =
      let locals = decided (all_locals_hold m c) (λ out. no-phase 10 (passes (Phase 10) (bad_locals out))) in
      let edges = decided (all_edges_hold m c) (λ out. no-phase 11 (passes (Phase 11) (bad_borrows locals out))) in
      and_from (all_locals_hold m c) (all_edges_hold m c) locals edges

  pub passes-acquires : AcquiresHold m
  passes-acquires = decided _ (λ out. no-phase 12 (passes (Phase 12) (bad_acquires passes-holds out)))

-- the text of a certificate that was made proves the module, and is accepted
module _ (bytes text : List ℕ) (short : IsShort bytes) (m : Module) (spells : Spells bytes m) (sound : IsSound m) (c : Certificate) (shape : AllStatedFit m m.functions c)
    (check : PassesCheck m c) where
  passed : Passes (offer_of bytes (certificate_text c)) m c
  passed = record { text = spells; sound = sound; certificate = (refl, shape); holds = passes-holds m c check; acquires = passes-acquires m c check }

  pub made-proved : text ≡ hexadecimal (certificate_text c) → IsProvedBy bytes text
  made-proved is = record { short = short; tables = m; certificate = c; written = is; passes = passed }

  module _ (spelled : IsHexadecimal text (certificate_text c)) where
    accepted : (whole : List ℕ) → before_line_end whole ≡ text → length text ≤ 2097152 → IsAccepted bytes whole
    accepted whole is few =
        let passes : PassesWith bytes text = record { certificate = certificate_text c; tables = m; stated = c; spelled = spelled; passes = passed } in
        subst (λ (l : List ℕ). AreShort bytes l × PassesWith bytes l) (sym is) ((short, few), passes)

    pub made-accepted : text ≡ hexadecimal (certificate_text c) → IsAcceptedBack bytes text
    made-accepted is =
        let alone : before_line_end text ≡ text = ap before_line_end is ∙ before_line_end-hexadecimal (certificate_text c) ∙ sym is in
        λ few. (accepted text alone few, accepted (text ++ 10 ∷ []) (before_line_end-line text) few)

module _ (bytes : List ℕ) (short : IsShort bytes) where
  -- a module that is refused with each certificate has none
  pub alone-no_proof : (e : Refusal) → ((certificate : List ℕ) → IsRefusedBy (FailsAt (offer_of bytes certificate)) e) → HasNoProof bytes (error_of e)
  alone-no_proof (Phase p) h = in_module p short h
  alone-no_proof OutOfMemory h = tt

  module _ (m : Module) (text : Spells bytes m) (sound : IsSound m) where
    -- nor has one that no certificate passes with
    pub each-no_proof : (e : ProveError) → IsUnproved m e → HasNoProof bytes e
    each-no_proof (Refused p) h = in_each m p short text sound h
    each-no_proof TooComplex h = record { short = short; tables = m; text = text; sound = sound; references = h.0; complex = h.1 }
    each-no_proof Memory h = tt

    pub each-no_proof_within : (steps : Option ℕ) (e : LimitError) → IsUnprovedWithin m e → (e ≡ TooLong → IsSome steps) → HasNoProofWithin steps bytes e
    each-no_proof_within steps (Unproved e) h limited = each-no_proof e h
    each-no_proof_within steps TooLong h limited = limited refl

-- without a limit of steps they are never used up
pub unlimited-never_long : (bytes : List ℕ) (e : LimitError) → HasNoProofWithin None bytes e → e ≡ TooLong → ⊥
unlimited-never_long bytes (Unproved e) h is = cc
unlimited-never_long bytes TooLong h is = cc

pub unlimited-no_proof : (bytes : List ℕ) (e : LimitError) (why : ProveError) → e ≡ Unproved why → HasNoProofWithin None bytes e → HasNoProof bytes why
unlimited-no_proof bytes e why is h = subst (HasNoProofWithin None bytes) is h

pub unlimited-of_limits : (e : LimitError) (why : ProveError) → e ≡ Unproved why → IsOfLimitsWithin e → IsOfLimits why
unlimited-of_limits e why is h = subst IsOfLimitsWithin is h

-- where some certificate passes, one passes with the module that the bytes spell
pub provable-spelled : IsReadByText → (bytes : List ℕ) → AreBytes bytes → (m : Module) → Spells bytes m → IsProvableText bytes → IsProvable m
provable-spelled reads bytes are m spells provable =
    subst IsProvable (module-one reads bytes provable.tables m are provable.passes.text spells)
    ((provable.stated, (provable.passes.certificate.1, provable.passes.holds)), provable.passes.acquires)

-- where some certificate passes, the module is not refused with each
pub provable-refused : (bytes : List ℕ) → IsProvableText bytes → (e : Refusal) → ((certificate : List ℕ) → IsRefusedBy (FailsAt (offer_of bytes certificate)) e) → IsOfLimits (error_of e)
provable-refused bytes provable (Phase p) h = absurd (never-fails (offer_of bytes provable.certificate) provable.tables provable.stated provable.passes p (h provable.certificate))
provable-refused bytes provable OutOfMemory h = tt
