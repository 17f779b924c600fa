-- Each refusal is the first phase that an offer fails, and what a bundle is refused for.
use Rattle.mv_ledger_state.proofs.Common.{◌≡◌, ◌≤◌, ◌⊎◌, ◌∙◌, IsTrue, List, [], ◌∷◌, Some, drop, inl, inr, length, refl, subst, sym, ℕ, and_parts, Module, PublishedModule, with_modules, Refusal, Memory, Phase}
use Rattle.mv_ledger_state.proofs.Common.{IsReadByText, AreBytes, InBounds, WellDefined, WellSigned, AbilitiesHold, FlowHolds, AcquiresHold, all_locals_hold, all_edges_hold}
use Rattle.mv_ledger_state.proofs.Common.{FailsTypes, IsSound, endless, ill_signed, ill_typed, unable, LedgerState, Offer, Publish, Certificate, IsCertificateText, MayJoin, tables_in}
use Rattle.mv_ledger_state.proofs.Common.{IsRefused, failing, IsAcceptedBy, IsKeptOut, IsRefusedBy, IsRefusedOver, AllPass, FailsAmong, FailsAt, FirstFails, OfCertificate, OfModule, Passes, Spells, in_linking}
use Rattle.mv_ledger_state.proofs.Common.{in_offer, in_room, phases, IsShaped}
use Rattle.std.specs.Prelude.{⊤}
use Rattle.mv_type_rules.specs.TypesHold.{TypesHold}
use Rattle.mv_move_types.proofs.Refusals.{refused-weaker}
use Rattle.mv_bounds.specs.Answers.{FailsBounds, out_of_bounds, ill_defined}
use Rattle.mv_certificate.specs.Answers.{FailsCertificate, bad_locals, bad_borrows, bad_acquires}
use Rattle.mv_certificate.proofs.OneCertificate.{one-certificate}
use Rattle.mv_ledger_state.proofs.Spelling.{module-one}

-- a phase is no want of memory
pub phase-no-memory : (e : Refusal) (n : ℕ) → e ≡ Phase n → e ≡ Memory → ⊥
phase-no-memory (Phase k) n p q = cc
phase-no-memory Memory n p q = cc

-- two phases of one list that fail first are one
pub one-first : (ps : List (ℕ × Type 0)) (p q : ℕ) → FirstFails ps p → FirstFails ps q → p ≡ q
one-first [] p q h k = absurd h
one-first (phase ∷ ps) p q (inl h) (inl k) = h.0 ∙ sym k.0
one-first (phase ∷ ps) p q (inl h) (inr k) = absurd (h.1 k.0)
one-first (phase ∷ ps) p q (inr h) (inl k) = absurd (k.1 h.0)
one-first (phase ∷ ps) p q (inr h) (inr k) = one-first ps p q h.1 k.1

-- each of the phases holds
abbrev AllHold : List (ℕ × Type 0) → Type 0
AllHold [] = Unit {0}
AllHold (phase ∷ later) = phase.1 × AllHold later

-- then none fails
none-fails : (ps : List (ℕ × Type 0)) (p : ℕ) → AllHold ps → FirstFails ps p → ⊥
none-fails [] p all fails = fails
none-fails (phase ∷ ps) p all (inl out) = out.1 all.0
none-fails (phase ∷ ps) p all (inr later) = none-fails ps p all.1 later.1

module _ (o : Offer) (m : Module) (c : Certificate) (passes : Passes o m c) where
  -- what is asked of the module holds of an offer that passes, and what is asked of its certificate
  of-module : (Holds : Module → Type 0) → Holds m → OfModule o Holds
  of-module Holds h = (m, passes.text, h)

  of-certificate : (Holds : Module → Certificate → Type 0) → Holds m c → OfCertificate o Holds
  of-certificate Holds h = (m, c, passes.text, passes.certificate, h)

  certificate-passes : AllHold (drop 7 (phases o))
  certificate-passes =
      let holds = and_parts (all_locals_hold m c) (all_edges_hold m c) passes.holds in (
        of-certificate (λ n d. ⊤) tt,
        (
          of-certificate (λ n d. IsTrue (all_locals_hold n d)) holds.0,
          (of-certificate (λ n d. IsTrue (all_edges_hold n d)) holds.1, (of-module AcquiresHold passes.acquires, tt)),
        ),
      )

  types-pass : AllHold (drop 3 (phases o))
  types-pass =
      let s = passes.sound in
      (of-module WellSigned s.signed, (of-module AbilitiesHold s.abilities, (of-module FlowHolds s.flow, (of-module TypesHold s.types, certificate-passes))))

  all-pass : AllHold (phases o)
  all-pass = (of-module (λ n. ⊤) tt, (of-module InBounds passes.sound.bounds, (of-module WellDefined passes.sound.defined, types-pass)))

  -- so it fails in no phase
  pub never-fails : (p : ℕ) → FailsAt o p → ⊥
  never-fails p = none-fails (phases o) p all-pass

-- ---- what is refused fails first in the phase that is answered

pub refused_text : (o : Offer) (e : Refusal) → (e ≡ Phase 2) ⊎ (e ≡ Memory) → (e ≡ Phase 2 → (m : Module) → Spells o.text m → ⊥) → IsRefusedBy (FailsAt o) e
refused_text o Memory is none = tt
refused_text o (Phase p) (inl is) none = let same : p ≡ 2 = cc in inl (same, λ h. none is h.0 h.1)
refused_text o (Phase p) (inr is) none = cc

module _ (reads : IsReadByText) (o : Offer) (are : AreBytes o.text) where
  -- an offer spells one module
  module-is : (m n : Module) → Spells o.text m → Spells o.text n → m ≡ n
  module-is m n e f = module-one reads o.text m n are e f

  -- and one certificate
  certificate-is : (m n : Module) (c d : Certificate) → Spells o.text m → Spells o.text n → IsCertificateText m o.certificate c → IsCertificateText n o.certificate d → c ≡ d
  certificate-is m n c d e f p q = one-certificate m o.certificate c d e.fits p (subst (λ (k : Module). IsCertificateText k o.certificate d) (sym (module-is m n e f)) q)

  -- what doesn't hold of them holds of no others
  no-module : (Holds : Module → Type 0) (m : Module) → Spells o.text m → (Holds m → ⊥) → OfModule o Holds → ⊥
  no-module Holds m text out h = out (subst Holds (sym (module-is m h.0 text h.1)) h.2)

  no-certificate : (Holds : Module → Certificate → Type 0) (m : Module) (c : Certificate) → Spells o.text m → IsCertificateText m o.certificate c → (Holds m c → ⊥)
      → OfCertificate o Holds → ⊥
  no-certificate Holds m c text written out h =
      let same = module-is m h.0 text h.2 in
      let stated = certificate-is m h.0 c h.1 text h.2 written h.3 in
      out (subst (Holds m) (sym stated) (subst (λ (k : Module). Holds k h.1) (sym same) h.4))

  -- the phases up to one hold, and a later one fails
  behind-definitions : (m : Module) → Spells o.text m → InBounds m → WellDefined m → {p : ℕ} → FirstFails (drop 3 (phases o)) p → FailsAt o p
  behind-definitions m text bounds defined later = inr ((m, text, tt), inr ((m, text, bounds), inr ((m, text, defined), later)))

  behind-types : (m : Module) → Spells o.text m → IsSound m → {p : ℕ} → FirstFails (drop 7 (phases o)) p → FailsAt o p
  behind-types m text s later =
      behind-definitions m text s.bounds s.defined (inr ((m, text, s.signed), inr ((m, text, s.abilities), inr ((m, text, s.flow), inr ((m, text, s.types), later)))))

  behind-text : (m : Module) (c : Certificate) → Spells o.text m → IsSound m → IsCertificateText m o.certificate c → {p : ℕ} → FirstFails (drop 8 (phases o)) p → FailsAt o p
  behind-text m c text s written later = behind-types m text s (inr ((m, c, text, written, tt), later))

  pub refused_bounds : (m : Module) (e : Refusal) → Spells o.text m → IsRefusedBy (FailsBounds m) e → IsRefusedBy (FailsAt o) e
  refused_bounds m e text = refused-weaker (FailsBounds m) (FailsAt o) e fails
    where
      fails : (p : ℕ) → FailsBounds m p → FailsAt o p
      fails _ (out_of_bounds out) = inr ((m, text, tt), inl (refl, no-module InBounds m text out))
      fails _ (ill_defined bounds out) = inr ((m, text, tt), inr ((m, text, bounds), inl (refl, no-module WellDefined m text out)))

  pub refused_types : (m : Module) (e : Refusal) → Spells o.text m → InBounds m → WellDefined m → IsRefusedBy (FailsTypes m) e → IsRefusedBy (FailsAt o) e
  refused_types m e text bounds defined = refused-weaker (FailsTypes m) (FailsAt o) e (λ p h. behind-definitions m text bounds defined (fails h))
    where
      fails : {n : ℕ} → FailsTypes m n → FirstFails (drop 3 (phases o)) n
      fails (ill_signed out) = inl (refl, no-module WellSigned m text out)
      fails (unable signed out) = inr ((m, text, signed), inl (refl, no-module AbilitiesHold m text out))
      fails (endless signed able out) = inr ((m, text, signed), inr ((m, text, able), inl (refl, no-module FlowHolds m text out)))
      fails (ill_typed signed able flow out) =
          inr ((m, text, signed), inr ((m, text, able), inr ((m, text, flow), inl (refl, no-module TypesHold m text out))))

  pub refused_stated : (m : Module) (e : Refusal) → Spells o.text m → IsSound m → (e ≡ Phase 9) ⊎ (e ≡ Memory) → (e ≡ Phase 9 → (c : Certificate) → IsCertificateText m o.certificate c → ⊥)
      → IsRefusedBy (FailsAt o) e
  refused_stated m Memory text sound is none = tt
  refused_stated m (Phase p) text sound (inl is) none =
      let same : p ≡ 9 = cc in
      behind-types m text sound (inl (same, λ h. none is h.1 (subst (λ (k : Module). IsCertificateText k o.certificate h.1) (sym (module-is m h.0 text h.2)) h.3)))
  refused_stated m (Phase p) text sound (inr is) none = cc

  pub refused_check : (m : Module) (c : Certificate) (e : Refusal) → Spells o.text m → IsSound m → IsCertificateText m o.certificate c → IsRefusedBy (FailsCertificate m c) e
      → IsRefusedBy (FailsAt o) e
  refused_check m c e text sound stated = refused-weaker (FailsCertificate m c) (FailsAt o) e (λ p h. behind-text m c text sound stated (fails h))
    where
      no-locals : (IsTrue (all_locals_hold m c) → ⊥) → OfCertificate o (λ n d. IsTrue (all_locals_hold n d)) → ⊥
      no-locals = no-certificate (λ n d. IsTrue (all_locals_hold n d)) m c text stated

      no-edges : (IsTrue (all_edges_hold m c) → ⊥) → OfCertificate o (λ n d. IsTrue (all_edges_hold n d)) → ⊥
      no-edges = no-certificate (λ n d. IsTrue (all_edges_hold n d)) m c text stated

      fails : {n : ℕ} → FailsCertificate m c n → FirstFails (drop 8 (phases o)) n
      fails (bad_locals out) = inl (refl, no-locals out)
      fails (bad_borrows locals out) = inr ((m, c, text, stated, locals), inl (refl, no-edges out))
      fails (bad_acquires holds out) =
          let both = and_parts (all_locals_hold m c) (all_edges_hold m c) holds in
          inr ((m, c, text, stated, both.0), inr ((m, c, text, stated, both.1), inl (refl, no-module AcquiresHold m text out)))

module _ (old : List PublishedModule) (payload : List ℕ) (sender : ℕ) (offers : List Offer) (asked : IsShaped 1 payload (Publish sender offers)) where
  -- one of the offers fails
  pub refused_among : (e : Refusal) → IsRefusedBy (FailsAmong offers) e → IsRefusedOver old payload e
  refused_among e h s is = refused-weaker (FailsAmong offers) (IsRefused s payload) e (λ p out. failing sender offers p asked (in_offer p out)) h

  module _ (bundle : List PublishedModule) (all : AllPass offers bundle) where
    -- the bundle may be linked to these modules
    abbrev Links : List PublishedModule → Type 0
    Links published = MayJoin (Some sender) (tables_in published) (tables_in bundle) (tables_in (with_modules published bundle))

    module _ (join : Links old) where
      -- what is said of linking over the modules is said over the state
      joined : (s : LedgerState) → s.published ≡ old → Links s.published
      joined s is = subst (λ (l : List PublishedModule). Links l) (sym is) join

      -- there is no room
      refused_room : (length (with_modules old bundle) ≤ 4096 → ⊥) → IsRefusedOver old payload (Phase 14)
      refused_room full s is =
          failing sender offers 14 asked (in_room bundle all (joined s is) (λ room. full (subst (λ (l : List PublishedModule). length (with_modules l bundle) ≤ 4096) is room)))

      -- the bundle is accepted
      pub accepted : (count : ℕ) (new : List PublishedModule) → count ≡ length bundle → length (with_modules old bundle) ≤ 4096 → new ≡ with_modules old bundle → IsAcceptedBy count old payload new
      accepted count new counted room added s is =
          let room' : length (with_modules s.published bundle) ≤ 4096 = subst (λ (l : List PublishedModule). length (with_modules l bundle) ≤ 4096) (sym is) room in
          (bundle, (record { sender = sender; offers = offers; asked = asked; published = (all, joined s is, room') }, counted, added))

    -- they may not join, or there is no room for them
    pub kept_out : (e : Refusal) → IsKeptOut (Some sender) old bundle e → IsRefusedOver old payload e
    kept_out (Phase p) (inl out) = λ s is.
        subst (λ (k : ℕ). IsRefused s payload k) (sym out.0)
        (failing sender offers 13 asked (in_linking bundle all (λ join. out.1 (subst (λ (l : List PublishedModule). Links l) is join))))
    kept_out (Phase p) (inr out) = subst (λ (k : ℕ). IsRefusedOver old payload (Phase k)) (sym out.0) (refused_room out.1 out.2)
    kept_out Memory out = λ s is. tt
