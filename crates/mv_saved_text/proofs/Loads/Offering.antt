-- Offered modules that are published one by one: that they pass, and that the published ones are those.
use Rattle.mv_saved_text.proofs.Common.{[], ◌++◌, ◌+◌, ◌<◌, ◌∙◌, ◌∷◌, ◌≡◌, ◌≤◌, ◌⊎◌, Bool, List, Option, Some, None, true, ap, ap₂, arith, get_or, inl, inr, length, refl, subst, sym, take, ℕ, map_more, take_more}
use Rattle.mv_saved_text.proofs.Common.{IfSome, slice_get, All-at, bytes_eq, PublishedModule, Offer, AreBytes, IsReadByText, IsPublishable, IsStore, offer_of, offers_of, offered, AllPass}
use Rattle.mv_saved_text.proofs.Common.{IsOffered, IsPassed, Passes, FailsAmong, FailsAt, Refusal, Offered}
use Rattle.mv_move_types.specs.Refusals.{IsRefusedBy}
use Rattle.std.proofs.lemmas.Option.{slice_get_cases}
use Rattle.std.proofs.lemmas.Slice.Eq.{bytes_eq-Decides}
use Rattle.mv_ledger_state.proofs.Bundles.Verifying.{pass-more, stopped-at}
use Rattle.mv_ledger_state.proofs.Spelling.{spelled-read}

-- ---- offers that pass, one after the other

-- the first so many pass
abbrev pub HavePassed : List Offered → ℕ → Type 0
HavePassed offers i = (ps : List PublishedModule) × AllPass (offers_of (take i offers)) ps

pub passed-none : (offers : List Offered) → HavePassed offers 0
passed-none offers = ([], tt)

pub passed-more : (offers : List Offered) (i : ℕ) (d : Offered) → HavePassed offers i → i < length offers → IsPassed (offer_of (get_or offers i d)) → HavePassed offers (i + 1)
passed-more offers i d had lt one = (
  had.0 ++ one.0 ∷ [],
  subst (λ (os : List Offer). AllPass os (had.0 ++ one.0 ∷ [])) (sym (map_more offer_of offers i d lt))
      (pass-more (offers_of (take i offers)) had.0 (offer_of (get_or offers i d)) one.0 had.1 one.1.0 one.1.1 one.1.2),
)

pub passed-stops : (offers : List Offered) (i : ℕ) (d : Offered) (e : Refusal) → HavePassed offers i → i < length offers → IsRefusedBy (FailsAt (offer_of (get_or offers i d))) e
    → IsRefusedBy (FailsAmong (offers_of offers)) e
passed-stops offers i d e had lt refused = stopped-at offers i had.0 d e had.1 lt refused

-- ---- published modules are those that were offered

pub same-bytes : (xs ys : List ℕ) (b : Bool) → b ≡ bytes_eq xs ys → b ≡ true → xs ≡ ys
same-bytes xs ys b is same = (bytes_eq-Decides xs ys).0 (sym is ∙ same)

-- a module of a store is the one of an offer with its texts
texts-offered : IsReadByText → (p : PublishedModule) → IsPublishable p → (o : Offer) → AreBytes o.text → p.text ≡ o.text → p.certificate ≡ o.certificate → IsOffered o p
texts-offered reads p one o bytes text certificate =
    let c = one.certificate in
    let made : List ℕ → List ℕ → Offer = λ t k. record { text = t; certificate = k } in
    let same : offered p ≡ o = ap₂ made text certificate in
    let passes : Passes (offered p) p.tables c.0 =
    record { text = spelled-read reads p.text p.tables (subst AreBytes (sym text) bytes) one.text; sound = one.sound; certificate = c.1.0; holds = c.1.1; acquires = one.acquires } in
    (text, certificate, (c.0, subst (λ (x : Offer). Passes x p.tables c.0) same passes))

pub place-offered : IsReadByText → (store : List PublishedModule) → IsStore store → (i : ℕ) (text certificate : List ℕ) (o : Offer) → AreBytes o.text
    → IfSome (slice_get store i) (λ p. text ≡ p.text) → IfSome (slice_get store i) (λ p. certificate ≡ p.certificate) → text ≡ o.text → certificate ≡ o.certificate
    → IfSome (slice_get store i) (IsOffered o)
place-offered reads store is i text certificate o bytes text_is certificate_is same_text same_certificate = by_found (slice_get store i) refl text_is certificate_is
  where
    by_found : (found : Option PublishedModule) → slice_get store i ≡ found → IfSome found (λ p. text ≡ p.text) → IfSome found (λ p. certificate ≡ p.certificate) → IfSome found (IsOffered o)
    by_found None e t k = tt
    by_found (Some p) e t k = texts-offered reads p (All-at IsPublishable store i p is.passed e) o bytes (sym t ∙ same_text) (sym k ∙ same_certificate)

-- one more
pub offered-more : (offers : List Offered) (store : List PublishedModule) (i : ℕ) (d : Offered) → AllPass (offers_of (take i offers)) (take i store) → i < length offers → i < length store
    → IfSome (slice_get store i) (IsOffered (offer_of (get_or offers i d))) → AllPass (offers_of (take (i + 1) offers)) (take (i + 1) store)
offered-more offers store i d had lt within is = by_place (slice_get_cases store i).1
  where
    step : (p : PublishedModule) → slice_get store i ≡ Some p → get_or store i p ≡ p → AllPass (offers_of (take (i + 1) offers)) (take (i + 1) store)
    step p found here =
        let one : IsOffered (offer_of (get_or offers i d)) p = subst (λ (o : Option PublishedModule). IfSome o (IsOffered (offer_of (get_or offers i d)))) found is in
        let more : take (i + 1) store ≡ take i store ++ p ∷ [] = take_more store i p within ∙ ap (λ (x : PublishedModule). take i store ++ x ∷ []) here in
        subst (AllPass (offers_of (take (i + 1) offers))) (sym more)
        (subst (λ (os : List Offer). AllPass os (take i store ++ p ∷ [])) (sym (map_more offer_of offers i d lt))
        (pass-more (offers_of (take i offers)) (take i store) (offer_of (get_or offers i d)) p had one.0 one.1 one.2))

    by_place : ((x : PublishedModule) × (i < length store) × (slice_get store i ≡ Some x) × (get_or store i x ≡ x)) ⊎ ((length store ≤ i) × (slice_get store i ≡ None))
        → AllPass (offers_of (take (i + 1) offers)) (take (i + 1) store)
    by_place (inl found) = step found.0 found.2 found.3
    by_place (inr past) = absurd (omega (arith, past.0, within))
