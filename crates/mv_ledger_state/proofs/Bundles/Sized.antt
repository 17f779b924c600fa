-- Texts and certificates are within their limits: those of a bundle, and so those of the store that it joined.
use Rattle.mv_ledger_state.proofs.Common.{[], ◌∙◌, ◌∷◌, ◌≡◌, Bool, IsTrue, List, ap₂, arith, length, map, refl, subst, sym, true, ℕ, and_from, and_parts, first_so, second_so, list_all}
use Rattle.mv_ledger_state.proofs.Common.{◌&&◌, nat_le, PublishedModule, with_module, with_modules, address_fits, LedgerState, Offer, Publish, IsAccepted, IsAcceptedBy, AllPass}
use Rattle.mv_ledger_state.proofs.Common.{offered, IsShaped, offer_fits, AreSized}

-- whether all modules' texts are within their limits
abbrev all_sized : List PublishedModule → Bool
all_sized ps = list_all offer_fits (map offered ps)

-- one module joins others
sized_with_one : (ps : List PublishedModule) (q : PublishedModule) → AreSized ps → IsTrue (offer_fits (offered q)) → AreSized (with_module ps q)
sized_with_one [] q all one = and_from (offer_fits (offered q)) true one refl
sized_with_one (p ∷ ps) q all one =
    let both = and_parts (offer_fits (offered p)) (all_sized ps) all in
    grind (arith, both, sized_with_one ps q both.1 one)

-- a bundle joins others
sized_with : (ps qs : List PublishedModule) → AreSized ps → AreSized qs → AreSized (with_modules ps qs)
sized_with ps [] all more = all
sized_with ps (q ∷ qs) all more =
    sized_with (with_module ps q) qs (sized_with_one ps q all (first_so (offer_fits (offered q)) (all_sized qs) more)) (second_so (offer_fits (offered q)) (all_sized qs) more)

-- the modules that passed came in the texts that were offered
sized_passed : (offers : List Offer) (bundle : List PublishedModule) → AllPass offers bundle → IsTrue (list_all offer_fits offers) → AreSized bundle
sized_passed [] [] all fit = refl
sized_passed (o ∷ os) (p ∷ ps) all fit =
    let same : offer_fits (offered p) ≡ offer_fits o = ap₂ (λ (text certificate : List ℕ). offer_fits (record { text = text; certificate = certificate })) all.0 all.1 in
    and_from (offer_fits (offered p)) (all_sized ps) (same ∙ first_so (offer_fits o) (list_all offer_fits os) fit) (sized_passed os ps all.3 (second_so (offer_fits o) (list_all offer_fits os) fit))
sized_passed _ _ all _ = absurd all

-- what a publish record offers is within the limits
offers_sized : (payload : List ℕ) (sender : ℕ) (offers : List Offer) → IsShaped 1 payload (Publish sender offers) → IsTrue (list_all offer_fits offers)
offers_sized payload sender offers asked = second_so (address_fits sender && nat_le 1 (length offers) && nat_le (length offers) 16) (list_all offer_fits offers) asked.2

-- a ledger with these modules alone
abbrev holding : List PublishedModule → LedgerState
holding published = record { published = published; storage = []; tallies = []; runs = 0 }

-- so a bundle that was accepted leaves a store's texts within their limits
pub sized_published : (count : ℕ) (old new : List PublishedModule) (payload : List ℕ) → IsAcceptedBy count old payload new → AreSized old → AreSized new
sized_published count old new payload accepted sized =
    let b = accepted (holding old) refl in
    let a : IsAccepted (holding old) payload b.0 = b.1.0 in
    subst AreSized (sym b.1.2) (sized_with old b.0 sized (sized_passed a.offers b.0 a.published.0 (offers_sized payload a.sender a.offers a.asked)))
