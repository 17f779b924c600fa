-- Over published modules no run meets a fault, and each state that it comes to is as the certificates say.
use Rattle.mv_soundness.proofs.Guided.Common.{◌≡◌, ℕ, zero, suc, List, [], ◌∷◌, length, refl, sym, ◌∙◌, ap, subst, Some, and_parts, same_Some, slice_get-map, slice_get, IsTrue, Module}
use Rattle.mv_soundness.proofs.Guided.Common.{ok-is, State, Certificate, ComesTo, StoreCertified, ModuleAccepted, AcquiresHold}
use Rattle.mv_module_text.proofs.Rows.{on_map}
use Rattle.mv_soundness.proofs.{Lists.All-at, Typing.First.begun, Typing.First.first_is, Guided.Whole.run_faultless, Guided.Whole.run_holds}
use Rattle.mv_move_types.specs.Published.{PublishedModule}
use Rattle.mv_certificate_rules.specs.{Certificate.all_locals_hold, Certificate.all_edges_hold, CertificateText.IsCertificateText}
use Rattle.mv_certificate.proofs.OneCertificate.{one-certificate}
use Rattle.mv_link_rules.specs.Link.{IsPublishable, IsStore, tables_in}
use Rattle.mv_soundness.specs.{Typing.Accepted.StoreAccepted, Guided.Published.AreCertificates, Guided.Published.RunsAreFaultless, Guided.Published.StatesHold}

-- a module's tables are those of a published module
of-tables : (store : List PublishedModule) (place : ℕ) (m : Module) → slice_get (tables_in store) place ≡ Some m → (p : PublishedModule) × (slice_get store place ≡ Some p) × (p.tables ≡ m)
of-tables store place m e =
    on_map (slice_get store place) (λ (p : PublishedModule). p.tables) m (sym (slice_get-map (λ (p : PublishedModule). p.tables) store place) ∙ e) (λ p p_at same. (p, p_at, same))

-- the certificates that the modules of a store were published with
pub certificates_from : (store : List PublishedModule) → ((k : ℕ) (p : PublishedModule) → slice_get store k ≡ Some p → IsPublishable p) → (cs : List Certificate) × AreCertificates store cs
certificates_from [] each = ([], record { long = refl; each = λ place p at. absurd cc })
certificates_from (p ∷ ps) each =
    let first = (each 0 p refl).certificate in
    let rest = certificates_from ps (λ k q at. each (suc k) q at) in
    (first.0 ∷ rest.0, record { long = ap suc rest.1.long; each = at_place first.0 first.1.0 rest.0 rest.1 })
  where
    at_place : (c : Certificate) → IsCertificateText p.tables p.certificate c → (cs : List Certificate) → AreCertificates ps cs
        → (place : ℕ) (q : PublishedModule) → slice_get (p ∷ ps) place ≡ Some q → (d : Certificate) × (slice_get (c ∷ cs) place ≡ Some d) × IsCertificateText q.tables q.certificate d
    at_place c text cs are zero q at = (c, refl, subst (λ (z : PublishedModule). IsCertificateText z.tables z.certificate c) (same_Some p q at) text)
    at_place c text cs are (suc k) q at = are.each k q at

module _ (store : List PublishedModule) (is : IsStore store) where
  -- the tables of such a store are accepted
  pub accepted : StoreAccepted (tables_in store)
  accepted = record {
    once = is.once;
    links = is.links;
    each = λ place m at.
        let p = of-tables store place m at in
        let passed = All-at IsPublishable store place p.0 is.passed p.1 in
        subst ModuleAccepted p.2 (record {
          bounds = passed.sound.bounds;
          defined = passed.sound.defined;
          signed = passed.sound.signed;
          abilities = passed.sound.abilities;
          flow = passed.sound.flow;
          types = passed.sound.types;
          text = passed.spelled;
        });
  }

  -- and certified by the certificates that its modules were published with
  pub published_certified : (certificates : List Certificate) → AreCertificates store certificates → StoreCertified (tables_in store) certificates
  published_certified certificates are = record {
    accepted = accepted;
    acquires = λ place m at. let p = of-tables store place m at in subst AcquiresHold p.2 (All-at IsPublishable store place p.0 is.passed p.1).acquires;
    certified = λ place m at.
        let p = of-tables store place m at in
        let passed = All-at IsPublishable store place p.0 is.passed p.1 in
        let own = passed.certificate in
        let stated = are.each place p.0 p.1 in
        let one : own.0 ≡ stated.0 = one-certificate p.0.tables p.0.certificate own.0 stated.0 passed.spelled own.1.0 stated.2 in
        let parts = and_parts (all_locals_hold p.0.tables own.0) (all_edges_hold p.0.tables own.0) own.1.1 in
        subst (λ (z : Module). (c : Certificate) × (slice_get certificates place ≡ Some c) × IsTrue (all_locals_hold z c) × IsTrue (all_edges_hold z c)) p.2
        (stated.0, stated.1, subst (λ (c : Certificate). IsTrue (all_locals_hold p.0.tables c)) one parts.0, subst (λ (c : Certificate). IsTrue (all_edges_hold p.0.tables c)) one parts.1);
  }

pub runs_faultless : RunsAreFaultless
runs_faultless store storage call budget is stored typed =
    let cs = certificates_from store (λ k p at. All-at IsPublishable store k p is.passed at) in
    run_faultless (tables_in store) cs.0 (published_certified store is cs.0 cs.1) storage call budget typed stored

pub states_hold : StatesHold
states_hold store certificates storage call first s is are stored typed begins comes =
    let same : first ≡ begun storage call (length typed.others) = ok-is first (begun storage call (length typed.others)) (sym begins ∙ first_is (tables_in store) storage call typed) in
    run_holds (tables_in store) certificates (published_certified store is certificates are) storage call s typed stored (subst (λ (z : State). ComesTo (tables_in store) z s) same comes)
