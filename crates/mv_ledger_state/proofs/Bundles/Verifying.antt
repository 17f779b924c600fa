-- Offers are verified one after the other.
use Rattle.mv_ledger_state.proofs.Common.{[], ◌++◌, ◌+◌, ◌<◌, ◌∙◌, ◌∷◌, ◌≡◌, ◌≤◌, List, ap, drop, get_or, length, refl, subst, suc, sym, take, ℕ, drop_more, map-append, map_more, take-append-drop}
use Rattle.mv_ledger_state.proofs.Common.{take_all, All-append, All-cons, All-nil, PublishedModule, Refusal, Offer, Certificate, AreTexts, HasItsTexts, published_of, published_one, New}
use Rattle.mv_ledger_state.proofs.Common.{offer_of, offers_of, AllPass, FailsAmong, FailsAt, IsRefusedBy, Passes, Offered}
use Rattle.mv_move_types.proofs.Refusals.{refused-weaker}

-- one more that passes
pub pass-more : (os : List Offer) (ps : List PublishedModule) (o : Offer) (p : PublishedModule) → AllPass os ps → p.text ≡ o.text → p.certificate ≡ o.certificate → (c : Certificate) × Passes o p.tables c
    → AllPass (os ++ o ∷ []) (ps ++ p ∷ [])
pass-more [] [] o p all text certificate passes = (text, certificate, passes, tt)
pass-more (x ∷ os) (q ∷ qs) o p all text certificate passes = (all.0, all.1, all.2, pass-more os qs o p all.3 text certificate passes)
pass-more _ _ _ _ all _ _ _ = absurd all

-- as many passed as were offered
pub as-many : (os : List Offer) (ps : List PublishedModule) → AllPass os ps → length ps ≡ length os
as-many [] [] all = refl
as-many (x ∷ os) (q ∷ qs) all = ap suc (as-many os qs all.3)
as-many _ _ all = absurd all

-- the first so many offers passed
pub record IsVerifying (offers : List Offered) (i : ℕ) (news : List New) : Type 0 where
  pub passed : AllPass (offers_of (take i offers)) (published_of news)
  pub texts : AreTexts news

pub verifying-none : (offers : List Offered) (news : List New) → news ≡ [] → IsVerifying offers 0 news
verifying-none offers news none = subst (IsVerifying offers 0) (sym none) (record { passed = tt; texts = All-nil HasItsTexts })

pub verifying-more : (offers : List Offered) (i : ℕ) (news after : List New) (d : Offered) (n : New) → IsVerifying offers i news → i < length offers → after ≡ news ++ n ∷ []
    → n.text.now ≡ (get_or offers i d).text.now → n.certificate.now ≡ (get_or offers i d).certificate.now
    → (c : Certificate) × Passes (offer_of (get_or offers i d)) n.module c → HasItsTexts n → IsVerifying offers (i + 1) after
verifying-more offers i news after d n h lt pushed text certificate passes texts =
    subst (IsVerifying offers (i + 1)) (sym pushed) (record {
      passed =
          subst (λ (ps : List PublishedModule). AllPass (offers_of (take (i + 1) offers)) ps) (sym (map-append published_one news (n ∷ [])))
          (subst (λ (os : List Offer). AllPass os (published_of news ++ published_one n ∷ [])) (sym (map_more offer_of offers i d lt))
          (pass-more (offers_of (take i offers)) (published_of news) (offer_of (get_or offers i d)) (published_one n) h.passed text certificate passes));
      texts = All-append HasItsTexts news (n ∷ []) h.texts (All-cons HasItsTexts n [] texts (All-nil HasItsTexts));
    })

-- all of them
pub verified-all : (offers : List Offered) (i : ℕ) (news : List New) → IsVerifying offers i news → length offers ≤ i → AllPass (offers_of offers) (published_of news)
verified-all offers i news h past = subst (λ (xs : List Offered). AllPass (offers_of xs) (published_of news)) (take_all i offers past) h.passed

-- those before one pass, and that one fails
pub stopped-at : (offers : List Offered) (i : ℕ) (ps : List PublishedModule) (d : Offered) (e : Refusal) → AllPass (offers_of (take i offers)) ps → i < length offers
    → IsRefusedBy (FailsAt (offer_of (get_or offers i d))) e → IsRefusedBy (FailsAmong (offers_of offers)) e
stopped-at offers i ps d e passed lt = refused-weaker (FailsAt (offer_of (get_or offers i d))) (FailsAmong (offers_of offers)) e (λ p out. record {
  before = offers_of (take i offers);
  offer = offer_of (get_or offers i d);
  after = offers_of (drop (i + 1) offers);
  bundle = ps;
  are =
      ap offers_of (sym (take-append-drop i offers) ∙ ap (λ (xs : List Offered). take i offers ++ xs) (drop_more offers i d lt))
      ∙ map-append offer_of (take i offers) (get_or offers i d ∷ drop (i + 1) offers);
  passed = passed;
  fails = out;
})

-- the next one fails
pub verifying-fails : (offers : List Offered) (i : ℕ) (news : List New) (d : Offered) (e : Refusal) → IsVerifying offers i news → i < length offers
    → IsRefusedBy (FailsAt (offer_of (get_or offers i d))) e → IsRefusedBy (FailsAmong (offers_of offers)) e
verifying-fails offers i news d e h lt refused = stopped-at offers i (published_of news) d e h.passed lt refused
