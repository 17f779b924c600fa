-- What is read of a text that spells a module, and offers whose texts are bytes.
use Rattle.mv_ledger_state.proofs.Common.{[], ◌∙◌, ◌∷◌, ◌≡◌, IsTrue, List, Some, arith, map, sym, ℕ, All-cons, All-nil, same_Some, first_so, second_so, AllByRecursion, list_all, All, Module}
use Rattle.mv_ledger_state.proofs.Common.{PublishedModule, IsReadByText, module_of, AreBytes, Offer, AllPass, Spells, offered, offer_fits}

-- the module that bytes spell is read from them
pub read-spelled : IsReadByText → (bytes : List ℕ) (m : Module) → AreBytes bytes → Spells bytes m → module_of bytes ≡ Some m
read-spelled reads bytes m are spells = (reads bytes m are).1 spells

-- and the module that is read from them they spell
pub spelled-read : IsReadByText → (bytes : List ℕ) (m : Module) → AreBytes bytes → module_of bytes ≡ Some m → Spells bytes m
spelled-read reads bytes m are read = (reads bytes m are).0 read

-- so they spell one at most
pub module-one : IsReadByText → (bytes : List ℕ) (m n : Module) → AreBytes bytes → Spells bytes m → Spells bytes n → m ≡ n
module-one reads bytes m n are p q = same_Some m n (sym (read-spelled reads bytes m are p) ∙ read-spelled reads bytes n are q)

-- the offered texts are bytes
abbrev pub OffersAreBytes : List Offer → Type 0
OffersAreBytes offers = AllByRecursion (λ o. AreBytes o.text) offers

-- a text within its limits is of bytes
pub text_bytes : (o : Offer) → IsTrue (offer_fits o) → AreBytes o.text
text_bytes o h = grind arith

-- and so is each of these
pub offers_bytes : (offers : List Offer) → IsTrue (list_all offer_fits offers) → OffersAreBytes offers
offers_bytes [] h = tt
offers_bytes (o ∷ os) h = (text_bytes o (first_so (offer_fits o) (list_all offer_fits os) h), offers_bytes os (second_so (offer_fits o) (list_all offer_fits os) h))

-- modules that passed with their texts are spelled by these
pub passed-spelled : (ps : List PublishedModule) → AllPass (map offered ps) ps → All (λ p. Spells p.text p.tables) ps
passed-spelled [] all = All-nil (λ (p : PublishedModule). Spells p.text p.tables)
passed-spelled (p ∷ ps) all = All-cons (λ (p : PublishedModule). Spells p.text p.tables) p ps all.2.1.text (passed-spelled ps all.3)
