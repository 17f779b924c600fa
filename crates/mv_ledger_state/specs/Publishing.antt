-- Whether a bundle is published, and otherwise the first phase that it fails.
use Rattle.std.specs.Prelude.{◌≡◌, ℕ, ◌≤◌, IsTrue, List, [], ◌∷◌, ◌++◌, length, Some, ⊤, ◌⊎◌}
use Rattle.mv_move_types.specs.Limits.{most_modules}
use Rattle.mv_move_types.specs.Module.{Module}
use Rattle.mv_move_types.specs.Published.{PublishedModule, with_modules}
use Rattle.mv_binary_format.specs.ModuleText.{IsModuleText}
use Rattle.mv_bound_rules.specs.Bounds.{InBounds}
use Rattle.mv_bound_rules.specs.Definitions.{WellDefined}
use Rattle.mv_signatures.specs.Signatures.{WellSigned}
use Rattle.mv_abilities.specs.Abilities.{AbilitiesHold}
use Rattle.mv_cfg.specs.Blocks.{FlowHolds}
use Rattle.mv_type_rules.specs.TypesHold.{TypesHold}
use Rattle.mv_type_rules.specs.Sound.{IsSound}
use Rattle.mv_acquires.specs.Acquires.{AcquiresHold}
use Rattle.mv_certificate_rules.specs.Certificate.{Certificate, all_locals_hold, all_edges_hold, certificate_holds}
use Rattle.mv_certificate_rules.specs.CertificateText.{IsCertificateText}
use Rattle.mv_link_rules.specs.Link.{MayJoin, tables_in}
use Rattle.mv_machine.specs.Ledger.{Offer, LedgerState, modules_of}

-- the bytes spell the module: they are a text of it
abbrev pub Spells : List ℕ → Module → Type 0
Spells bytes m = IsModuleText bytes m

-- an offer passes phases 2 to 12, with the module and the certificate that it spells
pub record Passes (o : Offer) (m : Module) (c : Certificate) : Type 0 where
  pub text : Spells o.text m
  pub sound : IsSound m
  pub certificate : IsCertificateText m o.certificate c
  pub holds : IsTrue (certificate_holds m c)
  pub acquires : AcquiresHold m

-- the offer's text spells a module of which this holds
abbrev pub OfModule : Offer → (Module → Type 0) → Type 0
OfModule o Holds = (m : Module) × Spells o.text m × Holds m

-- and its certificate's bytes are a text of a certificate for that module, and this holds of the two
abbrev pub OfCertificate : Offer → (Module → Certificate → Type 0) → Type 0
OfCertificate o Holds = (m : Module) × (c : Certificate) × Spells o.text m × IsCertificateText m o.certificate c × Holds m c

-- the phases that are asked of one offer, in order: the number of each, and what it asks
abbrev pub phases : Offer → List (ℕ × Type 0)
phases o =
    (2, OfModule o (λ m. ⊤))
    ∷ (3, OfModule o InBounds)
    ∷ (4, OfModule o WellDefined)
    ∷ (5, OfModule o WellSigned)
    ∷ (6, OfModule o AbilitiesHold)
    ∷ (7, OfModule o FlowHolds)
    ∷ (8, OfModule o TypesHold)
    ∷ (9, OfCertificate o (λ m c. ⊤))
    ∷ (10, OfCertificate o (λ m c. IsTrue (all_locals_hold m c)))
    ∷ (11, OfCertificate o (λ m c. IsTrue (all_edges_hold m c)))
    ∷ (12, OfModule o AcquiresHold)
    ∷ []

-- the phase of this number fails, and those before it hold
abbrev pub FirstFails : List (ℕ × Type 0) → ℕ → Type 0
FirstFails [] number = ⊥
FirstFails (phase ∷ later) number = ((number ≡ phase.0) × ¬ phase.1) ⊎ (phase.1 × FirstFails later number)

-- the first phase that an offer fails
abbrev pub FailsAt : Offer → ℕ → Type 0
FailsAt o = FirstFails (phases o)

-- a published module as a bundle offers it
abbrev pub offered : PublishedModule → Offer
offered p = record { text = p.text; certificate = p.certificate }

-- each offer passes, and these are its module's tables and texts
abbrev pub AllPass : List Offer → List PublishedModule → Type 0
AllPass [] [] = Unit {0}
AllPass [] (p ∷ ps) = ⊥
AllPass (o ∷ os) [] = ⊥
AllPass (o ∷ os) (p ∷ ps) =
    (p.text ≡ o.text) × (p.certificate ≡ o.certificate) × ((c : Certificate) × Passes o p.tables c) × AllPass os ps

-- the modules after a bundle
abbrev pub joined : LedgerState → List PublishedModule → List Module
joined s bundle = tables_in (with_modules s.published bundle)

-- the bundle may be linked to what is published
abbrev pub IsLinked : ℕ → LedgerState → List PublishedModule → Type 0
IsLinked sender s bundle = MayJoin (Some sender) (modules_of s) (tables_in bundle) (joined s bundle)

-- the ledger has room for the bundle
abbrev pub HasRoom : LedgerState → List PublishedModule → Type 0
HasRoom s bundle = length (with_modules s.published bundle) ≤ most_modules

-- the offers before one pass, and that one fails this phase
pub record FailsAmong (offers : List Offer) (phase : ℕ) : Type 0 where
  pub before : List Offer
  pub offer : Offer
  pub after : List Offer
  pub bundle : List PublishedModule
  pub are : offers ≡ before ++ offer ∷ after
  pub passed : AllPass before bundle
  pub fails : FailsAt offer phase

-- a bundle is published
abbrev pub IsPublished : LedgerState → ℕ → List Offer → List PublishedModule → Type 0
IsPublished s sender offers bundle = AllPass offers bundle × IsLinked sender s bundle × HasRoom s bundle

-- the first phase that a bundle fails: that of its first offer that fails, otherwise that of linking or of room
pub data IsRefusedAt (s : LedgerState) (sender : ℕ) (offers : List Offer) : ℕ → Type 0 where
  in_offer : (phase : ℕ) → FailsAmong offers phase → IsRefusedAt s sender offers phase
  in_linking : (bundle : List PublishedModule) → AllPass offers bundle → ¬ IsLinked sender s bundle → IsRefusedAt s sender offers 13
  in_room : (bundle : List PublishedModule) → AllPass offers bundle → IsLinked sender s bundle → ¬ HasRoom s bundle → IsRefusedAt s sender offers 14
