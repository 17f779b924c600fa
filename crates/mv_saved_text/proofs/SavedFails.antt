-- Bytes are loaded as one ledger at most, and none that are loaded have a reason against them: what passes fails in no phase.
use Rattle.mv_saved_text.proofs.Common.{[], ◌++◌, ◌∙◌, ◌∷◌, ◌≡◌, List, ap, ap₂, map, refl, subst, sym, ℕ, Module, PublishedModule, IsReadByText, LedgerState, Offer, Certificate, AreLinked, AreTallied}
use Rattle.mv_saved_text.proofs.Common.{FailsLoad, HasHead, IsLoaded, no_body, no_head, no_links, no_module, no_tallies, AllPass, FailsAmong, Passes, offered}
use Rattle.mv_saved_text.proofs.Common.{EachLoadIsOne, EachSecondFormComesBack, NoLoadFails, Form, IsSavedText, Second, body_text, saved_text}
use Rattle.mv_ledger_state.proofs.Phases.{never-fails}
use Rattle.mv_ledger_state.proofs.Spelling.{OffersAreBytes, offers_bytes, module-one}
use Rattle.mv_saved_text.proofs.Saves.Saved.{heads-one, ledgers-one}

-- bytes are loaded as one ledger at most
pub loads-one : IsReadByText → EachLoadIsOne
loads-one reads bytes s t a b = ledgers-one reads a.form b.form bytes s t a.text b.text

-- what is loaded from a text of the second form is saved as that text
pub comes-back : IsReadByText → EachSecondFormComesBack
comes-back reads bytes s t a text = ap (saved_text Second) (ledgers-one reads a.form Second bytes s t a.text text) ∙ sym text.text

-- ---- the modules that passed

-- the modules that passed with these texts
pub passed-one : IsReadByText → (os : List Offer) (ps qs : List PublishedModule) → OffersAreBytes os → AllPass os ps → AllPass os qs → ps ≡ qs
passed-one reads [] [] [] are a b = refl
passed-one reads (o ∷ os) (p ∷ ps) (q ∷ qs) are a b =
    let text : p.text ≡ q.text = a.0 ∙ sym b.0 in
    let certificate : p.certificate ≡ q.certificate = a.1 ∙ sym b.1 in
    let tables : p.tables ≡ q.tables = module-one reads o.text p.tables q.tables are.0 a.2.1.text b.2.1.text in
    let here : p ≡ q = λ i. record { text = text i; certificate = certificate i; tables = tables i } in
    ap₂ (λ (x : PublishedModule) (xs : List PublishedModule). x ∷ xs) here (passed-one reads os ps qs are.1 a.3 b.3)
passed-one _ _ _ _ _ a b = absurd (search)

-- one of the offers that passed
passes_at : (before : List Offer) (o : Offer) (after : List Offer) (ps : List PublishedModule) → AllPass (before ++ o ∷ after) ps → (m : Module) × (c : Certificate) × Passes o m c
passes_at [] o after (p ∷ ps) all = (p.tables, all.2.0, all.2.1)
passes_at (b ∷ before) o after (p ∷ ps) all = passes_at before o after ps all.3
passes_at _ _ _ _ all = absurd all

-- none of offers that passed fails
pub none_fails : (os : List Offer) (ps : List PublishedModule) (phase : ℕ) → AllPass os ps → FailsAmong os phase → ⊥
none_fails os ps phase all fails =
    let at = passes_at fails.before fails.offer fails.after ps (subst (λ (xs : List Offer). AllPass xs ps) fails.are all) in
    never-fails fails.offer at.0 at.1 at.2 phase fails.fails

-- ---- what is loaded has no reason against it

-- a text's head
head_of : (form : Form) (bytes : List ℕ) (s : LedgerState) → IsSavedText form bytes s → HasHead bytes form s.runs (map offered s.published)
head_of form bytes s text = record { rest = body_text form s; text = text.text; fits = text.head }

-- is the only one
own_head : (form other : Form) (bytes : List ℕ) (s : LedgerState) (runs : ℕ) (offers : List Offer) → IsSavedText form bytes s → HasHead bytes other runs offers
    → (form ≡ other) × (map offered s.published ≡ offers)
own_head form other bytes s runs offers text head =
    let h = heads-one form other s.runs runs (map offered s.published) offers (body_text form s) head.rest (sym text.text ∙ head.text) in
    (h.0, h.2)

module _ (reads : IsReadByText) (bytes : List ℕ) (s : LedgerState) (loaded : IsLoaded bytes s) where
  -- the modules that passed are the ledger's
  own_modules : (form : Form) (runs : ℕ) (offers : List Offer) (ps : List PublishedModule) → HasHead bytes form runs offers → AllPass offers ps → s.published ≡ ps
  own_modules form runs offers ps head passed =
      let own = own_head loaded.form form bytes s runs offers loaded.text head in
      passed-one reads offers s.published ps (offers_bytes offers head.fits.sized) (subst (λ (os : List Offer). AllPass os s.published) own.1 loaded.passed) passed

  no_reason : {number : ℕ} → FailsLoad bytes number → ⊥
  no_reason (no_head none) = none loaded.form s.runs (map offered s.published) (head_of loaded.form bytes s loaded.text)
  no_reason (no_module form runs offers phase head fails) =
      let own = own_head loaded.form form bytes s runs offers loaded.text head in
      none_fails (map offered s.published) s.published phase loaded.passed (subst (λ (os : List Offer). FailsAmong os phase) (sym own.1) fails)
  no_reason (no_links form runs offers ps head passed out) = out (subst AreLinked (own_modules form runs offers ps head passed) loaded.linked)
  no_reason (no_body form runs offers ps head passed linked none) =
      let own = own_head loaded.form form bytes s runs offers loaded.text head in
      none s (own_modules form runs offers ps head passed) (subst (λ (f : Form). IsSavedText f bytes s) own.0 loaded.text)
  no_reason (no_tallies form t text passed linked out) = out (subst AreTallied (ledgers-one reads loaded.form form bytes s t loaded.text text) loaded.tallied)

pub loads-hold : IsReadByText → NoLoadFails
loads-hold reads bytes number s loaded fails = no_reason reads bytes s loaded fails
