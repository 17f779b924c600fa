-- A ledger has one text of each form, and a text is of one ledger.
use Rattle.mv_saved_text.proofs.Common.{[], ◌++◌, ◌-◌, ◌^◌, ◌∙◌, ◌∷◌, ◌≡◌, ◌≤◌, IsTrue, List, ap, ap₂, arith, flat_map, get_or, leb-true, map, refl, subst, sym, true, ℕ, and_parts, All-head, All-tail}
use Rattle.mv_saved_text.proofs.Common.{some_pair_parts, to_le_bytes, w128, list_all, All, nat_le, Module, PublishedModule, U128, uleb, IsReadByText, number_of-whole, counted, number_of_from}
use Rattle.mv_saved_text.proofs.Common.{LedgerState, Offer, modules_of, scarce_structs, Tallied, Storage, is_fine_storage, IsAscending, Spells, offered, offer_fits, offer_text, EachLedgerHasOneText}
use Rattle.mv_saved_text.proofs.Common.{EachTextHasOneLedger, First, Form, IsSavedText, Second, body_text, form_byte, head_text, saved_text, storage_text, tally_fits, tally_text}
use Rattle.mv_ledger_state.proofs.Spelling.{text_bytes, module-one}
use Rattle.mv_saved_text.proofs.SavedOnce.{IsOneOn, in_parts, uleb-one, offers-one}
use Rattle.mv_saved_text.proofs.Saves.SavedStored.{first_storage-one, second_storage-one}

-- a ledger has one text of each form
pub texts-one : EachLedgerHasOneText
texts-one form a b s p q = p.text ∙ sym q.text

-- ---- heads

form-one : (form other : Form) → form_byte form ≡ form_byte other → form ≡ other
form-one First Second e = absurd (omega (arith, e))
form-one Second First e = absurd (omega (arith, e))
form-one _ _ _ = refl

-- one form, one number of runs and one list of modules stand at the front of bytes
pub heads-one : (form other : Form) (m n : ℕ) (a b : List Offer) (x y : List ℕ) → head_text form m a ++ x ≡ head_text other n b ++ y → (form ≡ other) × (m ≡ n) × (a ≡ b) × (x ≡ y)
heads-one form other m n a b x y e =
    let byte : form_byte form ≡ form_byte other = ap (λ l. get_or l 3 0) e in
    let behind : (uleb m ++ counted offer_text a) ++ x ≡ (uleb n ++ counted offer_text b) ++ y = cc in
    let runs = uleb-one m n (counted offer_text a ++ x) (counted offer_text b ++ y) (in_parts (uleb m) (counted offer_text a) x (uleb n) (counted offer_text b) y behind) in
    let offers = offers-one a b x y runs.1 in
    (form-one form other byte, runs.0, offers.0, offers.1)

-- ---- modules

-- modules that their texts spell are known by their texts
pub spelled-one : IsReadByText → (ps qs : List PublishedModule) → IsTrue (list_all offer_fits (map offered ps)) → map offered ps ≡ map offered qs → All (λ p. Spells p.text p.tables) ps
    → All (λ p. Spells p.text p.tables) qs → ps ≡ qs
spelled-one reads [] [] fit e p q = refl
spelled-one reads (a ∷ ps) (b ∷ qs) fit e p q =
    let fits = and_parts (offer_fits (offered a)) (list_all offer_fits (map offered ps)) fit in
    let first : offered a ≡ offered b = cc in
    let more : map offered ps ≡ map offered qs = cc in
    let text : a.text ≡ b.text = ap (λ (o : Offer). o.text) first in
    let certificate : a.certificate ≡ b.certificate = ap (λ (o : Offer). o.certificate) first in
    let spells : Spells a.text a.tables = All-head (λ p. Spells p.text p.tables) a ps p in
    let also : Spells a.text b.tables = subst (λ (bytes : List ℕ). Spells bytes b.tables) (sym text) (All-head (λ p. Spells p.text p.tables) b qs q) in
    let tables : a.tables ≡ b.tables = module-one reads a.text a.tables b.tables (text_bytes (offered a) fits.0) spells also in
    let here : a ≡ b = λ i. record { text = text i; certificate = certificate i; tables = tables i } in
    ap₂ (λ (x : PublishedModule) (xs : List PublishedModule). x ∷ xs) here
    (spelled-one reads ps qs fits.1 more (All-tail (λ p. Spells p.text p.tables) a ps p) (All-tail (λ p. Spells p.text p.tables) b qs q))
spelled-one reads _ _ fit e p q = absurd cc

-- ---- tallies

-- a count of 16 bytes
count-one : IsOneOn (λ n. nat_le n (2 ^ 128 - 1) ≡ true) (to_le_bytes w128)
count-one m n x y p q e =
    let low : m ≤ 2 ^ 128 - 1 = leb-true m (2 ^ 128 - 1) p in
    let also : n ≤ 2 ^ 128 - 1 = leb-true n (2 ^ 128 - 1) q in
    some_pair_parts m n x y (sym (number_of-whole U128 m x (omega (arith, low))) ∙ ap (number_of_from U128) e ∙ number_of-whole U128 n y (omega (arith, also)))

-- one tally of a struct
tally-one : (form : Form) (t u : Tallied) (x y : List ℕ) → t.struct ≡ u.struct → tally_fits form t ≡ true → tally_fits form u ≡ true → tally_text form t ++ x ≡ tally_text form u ++ y
    → (t ≡ u) × (x ≡ y)
tally-one First t u x y is p q e =
    let a = and_parts (nat_le t.packs (2 ^ 128 - 1)) (nat_le t.unpacks (2 ^ 128 - 1)) p in
    let b = and_parts (nat_le u.packs (2 ^ 128 - 1)) (nat_le u.unpacks (2 ^ 128 - 1)) q in
    let packs = count-one t.packs u.packs _ _ a.0 b.0 (in_parts (to_le_bytes w128 t.packs) (to_le_bytes w128 t.unpacks) x (to_le_bytes w128 u.packs) (to_le_bytes w128 u.unpacks) y e) in
    let unpacks = count-one t.unpacks u.unpacks x y a.1 b.1 packs.1 in
    (λ i. record { struct = is i; packs = packs.0 i; unpacks = unpacks.0 i }, unpacks.1)
tally-one Second t u x y is p q e =
    let packs = uleb-one t.packs u.packs _ _ (in_parts (uleb t.packs) (uleb t.unpacks) x (uleb u.packs) (uleb u.unpacks) y e) in
    let unpacks = uleb-one t.unpacks u.unpacks x y packs.1 in
    (λ i. record { struct = is i; packs = packs.0 i; unpacks = unpacks.0 i }, unpacks.1)

-- one list of tallies of these structs
tallies-one : (form : Form) (ts us : List Tallied) (x y : List ℕ) → map (λ t. t.struct) ts ≡ map (λ t. t.struct) us → list_all (tally_fits form) ts ≡ true → list_all (tally_fits form) us ≡ true
    → flat_map (tally_text form) ts ++ x ≡ flat_map (tally_text form) us ++ y → (ts ≡ us) × (x ≡ y)
tallies-one form [] [] x y s p q e = (refl, e)
tallies-one form (t ∷ ts) (u ∷ us) x y s p q e =
    let same : t.struct ≡ u.struct = cc in
    let more : map (λ t. t.struct) ts ≡ map (λ t. t.struct) us = cc in
    let a = and_parts (tally_fits form t) (list_all (tally_fits form) ts) p in
    let b = and_parts (tally_fits form u) (list_all (tally_fits form) us) q in
    let first = tally-one form t u _ _ same a.0 b.0 (in_parts (tally_text form t) (flat_map (tally_text form) ts) x (tally_text form u) (flat_map (tally_text form) us) y e) in
    let rest = tallies-one form ts us x y more a.1 b.1 first.1 in
    (ap₂ (λ (v : Tallied) (vs : List Tallied). v ∷ vs) first.0 rest.0, rest.1)
tallies-one form _ _ x y s p q e = absurd cc

-- ---- ledgers

-- one storage over these modules
storage-one : (form : Form) (modules : List Module) (es fs : Storage) → is_fine_storage modules es ≡ true → is_fine_storage modules fs ≡ true → IsAscending es → IsAscending fs
    → storage_text form modules es ≡ storage_text form modules fs → es ≡ fs
storage-one First modules es fs fine also up rise e = (first_storage-one modules es fs fine also [] [] (ap (λ l. l ++ []) e)).0
storage-one Second modules es fs fine also up rise e = (second_storage-one modules es fs fine also [] [] up rise (ap (λ l. l ++ []) e)).0

-- ledgers of one text, of one form, with the same modules
same_form : IsReadByText → (form : Form) (bytes : List ℕ) (s t : LedgerState) → IsSavedText form bytes s → IsSavedText form bytes t → s ≡ t
same_form reads form bytes s t a b =
    let both : saved_text form s ≡ saved_text form t = sym a.text ∙ b.text in
    let head = heads-one form form s.runs t.runs (map offered s.published) (map offered t.published) (body_text form s) (body_text form t) both in
    let published : s.published ≡ t.published = spelled-one reads s.published t.published a.head.sized head.2 a.spelled b.spelled in
    let modules : modules_of s ≡ modules_of t = ap (λ (ps : List PublishedModule). map (λ p. p.tables) ps) published in
    let structs : map (λ t. t.struct) s.tallies ≡ map (λ t. t.struct) t.tallies = a.tallied ∙ ap scarce_structs modules ∙ sym b.tallied in
    let tallies = tallies-one form s.tallies t.tallies (storage_text form (modules_of s) s.storage) (storage_text form (modules_of t) t.storage) structs a.counts b.counts head.3 in
    let storage : s.storage ≡ t.storage =
    storage-one form (modules_of t) s.storage t.storage (subst (λ (ms : List Module). is_fine_storage ms s.storage ≡ true) modules a.typed) b.typed a.ascending b.ascending
    (ap (λ (ms : List Module). storage_text form ms s.storage) (sym modules) ∙ tallies.1) in
    λ i. record { published = published i; storage = storage i; tallies = tallies.0 i; runs = head.1 i }

-- a text is of one form
pub one_form : (form other : Form) (bytes : List ℕ) (s t : LedgerState) → IsSavedText form bytes s → IsSavedText other bytes t → form ≡ other
one_form form other bytes s t a b =
    (heads-one form other s.runs t.runs (map offered s.published) (map offered t.published) (body_text form s) (body_text other t) (sym a.text ∙ b.text)).0

-- a text is of one ledger
pub ledgers-one : IsReadByText → EachTextHasOneLedger
ledgers-one reads form other bytes s t a b = same_form reads form bytes s t a (subst (λ (f : Form). IsSavedText f bytes t) (sym (one_form form other bytes s t a b)) b)
