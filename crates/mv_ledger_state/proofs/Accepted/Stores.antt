-- Stores are accepted, and a bundle that is published over one leaves one.
use Rattle.mv_ledger_state.proofs.Common.{[], ◌∷◌, ◌≡◌, IsTrue, List, Some, subst, sym, ℕ, All-cons, All-head, All-nil, All-tail, AllByRecursion, list_all, All, Module, PublishedModule, with_modules}
use Rattle.mv_ledger_state.proofs.Common.{IsReadByText, module_of, entry_fits, AbilitiesHold, AreBytes, LedgerState, Offer, Certificate, IsCertificateText, IsPublishable, IsStore, tables_in}
use Rattle.mv_ledger_state.proofs.Common.{certificates_from, published_certified, All-at, StoreAccepted, IsAbleStore, AllPass, IsPublished, Passes}
use Rattle.mv_linker.proofs.Joining.Joined.{joined-store}
use Rattle.mv_ledger_state.proofs.Spelling.{OffersAreBytes, read-spelled}

-- the tables of a store are accepted
pub accepted_store : (store : List PublishedModule) → IsStore store → StoreAccepted (tables_in store)
accepted_store store is =
    let cs = certificates_from store (λ k p at. All-at IsPublishable store k p is.passed at) in
    (published_certified store is cs.0 cs.1).accepted

all_tables : (P : Module → Type 0) (ps : List PublishedModule) → ((p : PublishedModule) → IsPublishable p → P p.tables) → All IsPublishable ps → AllByRecursion P (tables_in ps)
all_tables P [] each all = tt
all_tables P (p ∷ ps) each all = (each p (All-head IsPublishable p ps all), all_tables P ps each (All-tail IsPublishable p ps all))

-- and their abilities hold
pub able_store : (store : List PublishedModule) → IsStore store → IsAbleStore (tables_in store)
able_store store is = record {
  able = all_tables AbilitiesHold store (λ p passed. passed.sound.abilities) is.passed;
  structs = is.links.structs;
  entries = all_tables (λ m. IsTrue (list_all (entry_fits m) m.functions)) store (λ p passed. passed.sound.signed.entries) is.passed;
}

-- ---- a bundle

-- what an offer passed, its module keeps, with the texts that it came in
passed_publishable : IsReadByText → (o : Offer) (p : PublishedModule) (c : Certificate) → AreBytes o.text → p.text ≡ o.text → p.certificate ≡ o.certificate → Passes o p.tables c → IsPublishable p
passed_publishable reads o p c are text certificate passes = record {
  text = subst (λ bytes. module_of bytes ≡ Some p.tables) (sym text) (read-spelled reads o.text p.tables are passes.text);
  spelled = passes.text.fits;
  sound = passes.sound;
  acquires = passes.acquires;
  certificate = (c, (subst (λ bytes. IsCertificateText p.tables bytes c) (sym certificate) passes.certificate, passes.holds));
}

passed_all : IsReadByText → (offers : List Offer) (ps : List PublishedModule) → OffersAreBytes offers → AllPass offers ps → All IsPublishable ps
passed_all reads [] [] are a = All-nil IsPublishable
passed_all reads (o ∷ os) (p ∷ ps) are a = All-cons IsPublishable p ps (passed_publishable reads o p a.2.0 are.0 a.0 a.1 a.2.1) (passed_all reads os ps are.1 a.3)
passed_all _ _ _ _ a = absurd a

-- a bundle that is published over a store leaves one
pub published_store : IsReadByText → (s : LedgerState) (sender : ℕ) (offers : List Offer) (bundle : List PublishedModule) → IsStore s.published → OffersAreBytes offers
    → IsPublished s sender offers bundle → IsStore (with_modules s.published bundle)
published_store reads s sender offers bundle store are published = joined-store (Some sender) s.published bundle store (passed_all reads offers bundle are published.0) published.1
