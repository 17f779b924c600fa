-- What is saved of a sound ledger is loaded, what is loaded is sound, and what is loaded is saved as it was.
use Rattle.mv_saved_text.proofs.Common.{[], ◌*◌, ◌+◌, ◌<◌, ◌^◌, ◌∷◌, ◌≡◌, ◌≤◌, IsTrue, List, arith, le-leb, length, map, refl, true, ℕ, and_from, and_parts, length-map, All-cons, All-head, All-nil}
use Rattle.mv_saved_text.proofs.Common.{All-tail, AllByRecursion, list_all, All, nat_le, Module, PublishedModule, IsReadByText, count, FlatEntry, storage_of, LedgerState, modules_of, Tallied}
use Rattle.mv_saved_text.proofs.Common.{IsPublishable, IsStore, tables_in, fine_storage, IsSoundLedger, AreTallied, AllPass, offered, offer_fits, EachLoadIsSaved, EachLoadIsSound, EachSaveIsLoaded}
use Rattle.mv_saved_text.proofs.Common.{IsSavable, First, Form, IsSavedText, Second, greatest_count, saved_text, tally_fits, IsLedger, IsSmall, state_of, tallied, view_of, Tally}
use Rattle.mv_ledger_state.proofs.Accepted.Stores.{accepted_store}
use Rattle.mv_ledger_state.proofs.Accepted.Sound.{sound_stored}
use Rattle.mv_ledger_state.proofs.Spelling.{text_bytes, read-spelled, spelled-read, passed-spelled}
use Rattle.mv_ledger_state.proofs.Lists.{all-weaker}

-- ---- tallies

-- both parts of what is known of each
both : {A : Type 0} (P Q : A → Type 0) (xs : List A) → AllByRecursion P xs → AllByRecursion Q xs → AllByRecursion (λ x. P x × Q x) xs
both P Q [] p q = tt
both P Q (x ∷ xs) p q = ((p.0, q.0), both P Q xs p.1 q.1)

module _ (s : LedgerState) where
  -- no more were made than the runs can have made
  abbrev IsBounded : Tallied → Type 0
  IsBounded t = t.packs ≤ 10000000 * s.runs

  -- what was made and not taken apart is stored
  abbrev IsStored : Tallied → Type 0
  IsStored t = count s.storage t.struct + t.unpacks ≡ t.packs

  -- both forms can write what so many runs made
  within : (form : Form) (n : ℕ) → n ≤ 42949672960000000 → nat_le n (greatest_count form) ≡ true
  within First n h = le-leb n (greatest_count First) (omega (arith, h))
  within Second n h = le-leb n (greatest_count Second) h

  counts_fit : (form : Form) (ts : List Tallied) → s.runs ≤ 4294967296 → AllByRecursion (λ t. IsBounded t × IsStored t) ts → list_all (tally_fits form) ts ≡ true
  counts_fit form [] had h = refl
  counts_fit form (t ∷ ts) had h =
      let bounded : t.packs ≤ 10000000 * s.runs = h.0.0 in
      let stored : count s.storage t.struct + t.unpacks ≡ t.packs = h.0.1 in
      let packs : t.packs ≤ 42949672960000000 = omega (arith, bounded, had) in
      let unpacks : t.unpacks ≤ 42949672960000000 = omega (arith, stored, packs) in
      and_from (tally_fits form t) (list_all (tally_fits form) ts)
      (and_from (nat_le t.packs (greatest_count form)) (nat_le t.unpacks (greatest_count form)) (within form t.packs packs) (within form t.unpacks unpacks)) (counts_fit form ts had h.1)

-- ---- saved and loaded

-- no more of a savable ledger's values were made than the runs can have made, and what was made is stored or taken apart
savable_tallied : (s : LedgerState) → IsSoundLedger s → IsSavable s → AreTallied s
savable_tallied s sound savable = both (IsBounded s) (IsStored s) s.tallies savable.packs sound.balanced

-- the text of a sound ledger within its limits
pub text-saves : (form : Form) (s : LedgerState) → IsSoundLedger s → IsSavable s → IsSavedText form (saved_text form s) s
text-saves form s sound savable = record {
  text = refl;
  head = savable.head;
  spelled = passed-spelled s.published savable.passed;
  tallied = sound.tallied;
  counts = counts_fit s form s.tallies savable.head.had (savable_tallied s sound savable);
  ascending = sound.ascending;
  typed = sound_stored s sound;
  few = savable.few;
}

-- what is saved of a sound ledger within its limits is loaded
pub saves-load : EachSaveIsLoaded
saves-load form s sound savable = record {
  form = form;
  text = text-saves form s sound savable;
  passed = savable.passed;
  linked = record { once = sound.store.once; links = sound.store.links };
  tallied = savable_tallied s sound savable;
}

-- whatever is loaded is loaded from what is saved of it
pub loads-save : EachLoadIsSaved
loads-save bytes s loaded = record {
  form = Second;
  text = record {
    text = refl;
    head = loaded.text.head;
    spelled = loaded.text.spelled;
    tallied = loaded.text.tallied;
    counts = counts_fit s Second s.tallies loaded.text.head.had loaded.tallied;
    ascending = loaded.text.ascending;
    typed = loaded.text.typed;
    few = loaded.text.few;
  };
  passed = loaded.passed;
  linked = loaded.linked;
  tallied = loaded.tallied;
}

-- ---- loaded and sound

-- modules that passed with the texts that they came in may stand in a store
publishable : IsReadByText → (ps : List PublishedModule) → IsTrue (list_all offer_fits (map offered ps)) → AllPass (map offered ps) ps → All IsPublishable ps
publishable reads [] sized all = All-nil IsPublishable
publishable reads (p ∷ ps) sized all =
    let fits = and_parts (offer_fits (offered p)) (list_all offer_fits (map offered ps)) sized in
    let passes = all.2.1 in
    All-cons IsPublishable p ps (record {
      text = read-spelled reads p.text p.tables (text_bytes (offered p) fits.0) passes.text;
      spelled = passes.text.fits;
      sound = passes.sound;
      acquires = passes.acquires;
      certificate = (all.2.0, (passes.certificate, passes.holds));
    }) (publishable reads ps fits.1 all.3)

-- what is loaded is sound and within its limits
pub loads-sound : IsReadByText → EachLoadIsSound
loads-sound reads bytes s loaded =
    let store : IsStore s.published = record { passed = publishable reads s.published loaded.text.head.sized loaded.passed; once = loaded.linked.once; links = loaded.linked.links } in (
      record {
        store = store;
        typed = fine_storage (modules_of s) (accepted_store s.published store) s.storage loaded.text.typed;
        ascending = loaded.text.ascending;
        tallied = loaded.text.tallied;
        balanced = all-weaker (λ t. IsBounded s t × IsStored s t) (IsStored s) (λ t both. both.1) s.tallies loaded.tallied;
      },
      record { head = loaded.text.head; passed = loaded.passed; packs = all-weaker (λ t. IsBounded s t × IsStored s t) (IsBounded s) (λ t both. both.0) s.tallies loaded.tallied; few = loaded.text.few },
    )

-- modules of a store passed with the texts that they came in
pub store_passed : IsReadByText → (ps : List PublishedModule) → IsTrue (list_all offer_fits (map offered ps)) → All IsPublishable ps → AllPass (map offered ps) ps
store_passed reads [] sized all = tt
store_passed reads (p ∷ ps) sized all =
    let fits = and_parts (offer_fits (offered p)) (list_all offer_fits (map offered ps)) sized in
    let one : IsPublishable p = All-head IsPublishable p ps all in
    let c = one.certificate in (
      refl,
      refl,
      (c.0, record { text = spelled-read reads p.text p.tables (text_bytes (offered p) fits.0) one.text; sound = one.sound; certificate = c.1.0; holds = c.1.1; acquires = one.acquires }),
      store_passed reads ps fits.1 (All-tail IsPublishable p ps all),
    )

-- ---- a ledger is within the limits of a saved one

-- no struct has more values made than so many runs can have made
few_made : (modules : List Module) (runs : ℕ) (ts : List Tally) → All (IsSmall runs) ts → AllByRecursion (λ t. t.packs ≤ 10000000 * runs) (map (tallied modules) ts)
few_made modules runs [] all = tt
few_made modules runs (t ∷ ts) all =
    let small : t.packs ≤ runs * 10000000 = (All-head (IsSmall runs) t ts all).0 in
    (omega (arith, small), few_made modules runs ts (All-tail (IsSmall runs) t ts all))

-- a ledger with few stored values is
pub ledger-savable : IsReadByText → (published : List PublishedModule) (stored : List FlatEntry) (tallies : List Tally) (runs : ℕ) → length published ≤ 4096 → length stored < 2 ^ 63
    → IsLedger published stored tallies runs → IsSavable (state_of (view_of published stored tallies runs))
ledger-savable reads published stored tallies runs room few is =
    let as_many : length (map offered published) ≡ length published = length-map published offered in
    let values : length (storage_of (tables_in published) stored) ≡ length stored = length-map stored _ in
    record {
      head = record { had = is.counted; few = omega (arith, as_many, room); sized = is.sized };
      passed = store_passed reads published is.sized is.sound.store.passed;
      packs = few_made (tables_in published) runs tallies is.small;
      few = omega (arith, values, few);
    }
