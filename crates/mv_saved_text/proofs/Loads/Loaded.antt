-- From its parts, which ledger bytes are loaded as, and why they are not.
use Rattle.mv_saved_text.proofs.Common.{[], ◌*◌, ◌++◌, ◌+◌, ◌<◌, ◌^◌, ◌∙◌, ◌∷◌, ◌≡◌, ◌≤◌, IsTrue, List, Some, ap, ap₂, arith, flat_map, length, map, refl, subst, sym, ℕ, length-map}
use Rattle.mv_saved_text.proofs.Common.{All-cons, All-nil, same_Some, first_so, second_so, list_all, All, Module, PublishedModule, AreBytes, FlatStorage, count, flat}
use Rattle.mv_saved_text.proofs.Common.{flat_storage, storage_of, LedgerState, Offer, scarce_structs, Tallied, Storage, is_fine_entry, is_fine_storage, IsStore, tables_in, fine_storage, IsFineWords}
use Rattle.mv_saved_text.proofs.Common.{StoreAccepted, StorageTyped, IsSoundLedger, IsAscending, FailsLoad, HasHead, IsLoadRefusal, IsLoaded, no_body, no_links, no_module, no_tallies, counts_of}
use Rattle.mv_saved_text.proofs.Common.{struct_of, AreCounted, AreNotJoined, EachBodyIsRead, EachReadIsBody, IsBody, IsNoBody, SavedHead, body_from, counted_by, head_from}
use Rattle.mv_saved_text.proofs.Common.{AllPass, offered, offer_fits, HeadFits, IsSavedText, body_text, head_text, storage_text, tally_text, AreLinked, IsLedger, IsSmall, IsTalliedStore, all_of, state_of, tallied, view_of, Link}
use Rattle.mv_saved_text.proofs.Common.{BadModule, Tally}
use Rattle.mv_ledger_state.proofs.Handed.{storage_decoded, sizes}
use Rattle.mv_saved_text.specs.declared.loading.LoadError.{LoadError}
use Rattle.mv_saved_text.specs.declared.loading.LoadError.TheVariants.{Memory}
use Rattle.mv_ledger_state.proofs.Accepted.Stores.{accepted_store}
use Rattle.mv_saved_text.proofs.Common.{Body, Form, append-nil}
use Rattle.mv_saved_text.specs.Parts.LoadedParts.{IsUnreadBody, unread_as}
use Rattle.mv_ledger_state.specs.declared.unread.Unread.{Unread}
use Rattle.mv_ledger_state.specs.declared.unread.Unread.TheVariants.{Cut, Malformed, Memory as OutOfMemory}
use Rattle.mv_saved_text.proofs.Loads.LoadedHead.{head-parts, head-whole, head-had}
use Rattle.mv_saved_text.proofs.Loads.LoadedTallies.{read-held, counts-are, still-many}
use Rattle.mv_ledger_state.proofs.Spelling.{passed-spelled}
use Rattle.mv_ledger_state.proofs.TalliedStores.{tallied-structs}
use Rattle.mv_ledger_state.proofs.Lists.{all-weaker}

-- ---- lists

-- modules that passed are offered as they were
offers-were : (offers : List Offer) (ps : List PublishedModule) → AllPass offers ps → map offered ps ≡ offers
offers-were [] [] passed = refl
offers-were (o ∷ os) (p ∷ ps) passed =
    let made : List ℕ → List ℕ → Offer = λ text certificate. record { text = text; certificate = certificate } in
    let same : offered p ≡ o = ap₂ made passed.0 passed.1 in
    ap₂ (λ (x : Offer) (xs : List Offer). x ∷ xs) same (offers-were os ps passed.3)
offers-were _ _ passed = absurd passed

-- the words of fine values
fine-words : (modules : List Module) (es : Storage) → IsTrue (is_fine_storage modules es) → All (IsFineWords modules) (flat_storage es)
fine-words modules [] fine = All-nil (IsFineWords modules)
fine-words modules (e ∷ es) fine =
    All-cons (IsFineWords modules) (record { key = e.key; words = flat e.value }) (flat_storage es) (e.value, (refl, first_so (is_fine_entry modules e) (list_all (is_fine_entry modules) es) fine))
    (fine-words modules es (second_so (is_fine_entry modules e) (list_all (is_fine_entry modules) es) fine))

module _ (modules : List Module) (runs : ℕ) (storage : Storage) where
  -- counts of what is stored are small
  small-counts : (ts : List Tally) → AreCounted runs storage (map (tallied modules) ts) → All (IsSmall runs) ts
  small-counts [] counted = All-nil (IsSmall runs)
  small-counts (t ∷ ts) counted =
      let packs : t.packs ≤ 10000000 * runs = counted.0.0 in
      let unpacks : count storage (tallied modules t).struct + t.unpacks ≡ t.packs = counted.0.1 in
      All-cons (IsSmall runs) t ts (omega (arith, packs), omega (arith, packs, unpacks)) (small-counts ts counted.1)

-- ---- a part that is refused

-- a part is not read for what the bytes have there, or for want of memory
pub unread-as : (bytes : List ℕ) (form : Form) (modules : List Module) (count : ℕ) (rest : List ℕ) (e : Unread) (r : LoadError) → r ≡ unread_as Body e → IsUnreadBody form modules count rest e
    → (IsNoBody form modules count rest → FailsLoad bytes 4) → IsLoadRefusal bytes r
unread-as bytes form modules count rest Cut r is none fails = subst (IsLoadRefusal bytes) (sym is) (fails none)
unread-as bytes form modules count rest Malformed r is none fails = subst (IsLoadRefusal bytes) (sym is) (fails (subst (IsNoBody form modules count) (append-nil rest) (none [])))
unread-as bytes form modules count rest OutOfMemory r is none fails = subst (IsLoadRefusal bytes) (sym is) tt

-- ---- bytes that have a head and no body

module _ (bytes : List ℕ) (head : SavedHead) (rest : List ℕ) (begins : head_from bytes ≡ Some (head, rest)) (has : HasHead bytes head.form head.runs head.offers)
    (ps : List PublishedModule) (tss : List (List Tally)) (every : AllPass head.offers ps) (held : IsTalliedStore ps tss) where
  -- a text of these modules ends in a body
  text-body : (s : LedgerState) → s.published ≡ ps → IsSavedText head.form bytes s → IsBody head.form (tables_in s.published) rest s.tallies s.storage
  text-body s is text =
      let whole = ap head_from text.text ∙ head-whole head.form (body_text head.form s) s.runs (map offered s.published) text.head in
      let had : SavedHead = record { form = head.form; runs = s.runs; offers = map offered s.published } in
      let same : rest ≡ body_text head.form s = ap (λ (z : SavedHead × List ℕ). z.1) (same_Some (head, rest) (had, body_text head.form s) (sym begins ∙ whole)) in
      record { text = same; counts = text.counts; ascending = text.ascending; typed = text.typed; few = text.few }

  -- as many tallies as the modules have
  text-many : (s : LedgerState) → s.published ≡ ps → IsSavedText head.form bytes s → length s.tallies ≡ length (all_of tss)
  text-many s is text =
      sym (length-map s.tallies (λ (t : Tallied). t.struct)) ∙ ap length (text.tallied ∙ ap (λ (qs : List PublishedModule). scarce_structs (tables_in qs)) is ∙ sym (tallied-structs ps tss held))
      ∙ length-map (map (tallied (tables_in ps)) (all_of tss)) (λ (t : Tallied). t.struct) ∙ length-map (all_of tss) (tallied (tables_in ps))

  -- so where no body is read the bytes are no text
  pub without-body : EachBodyIsRead → IsNoBody head.form (tables_in ps) (length (all_of tss)) rest → FailsLoad bytes 4
  without-body reads none = no_body head.form head.runs head.offers ps has every (record { once = held.store.once; links = held.store.links }) (λ s is text.
      let few : length s.published ≤ 65536 = omega (arith, length-map s.published offered, text.head.few) in
      let read = reads head.form s.published rest s.tallies s.storage (subst IsStore (sym is) held.store) few (text-body s is text) in
      none (map counted_by s.tallies, flat_storage s.storage)
      (sym (ap₂ (λ (qs : List PublishedModule) (n : ℕ). body_from head.form (tables_in qs) n rest) is (text-many s is text)) ∙ read))

-- ---- bytes with a head

module _ (bytes : List ℕ) (head : SavedHead) (rest : List ℕ) (are : AreBytes bytes) (begins : head_from bytes ≡ Some (head, rest)) where
  has : HasHead bytes head.form head.runs head.offers
  has = head-had bytes rest head are begins

  -- the modules are none of a ledger
  pub fails-joined : (e : LoadError) → AreNotJoined head.offers e → IsLoadRefusal bytes e
  fails-joined BadModule refused = no_module head.form head.runs head.offers refused.0 has refused.1
  fails-joined Link refused = no_links head.form head.runs head.offers refused.0 has refused.1 refused.2
  fails-joined Memory refused = tt
  fails-joined _ refused = absurd refused

  pub head-few : length head.offers ≤ 4096
  head-few = (head-parts bytes rest head are begins).1.few

  module _ (ps : List PublishedModule) (tss : List (List Tally)) (every : AllPass head.offers ps) (held : IsTalliedStore ps tss) where
    linked : AreLinked ps
    linked = record { once = held.store.once; links = held.store.links }

    -- so where no body is read the bytes are no text
    pub fails-body : EachBodyIsRead → IsNoBody head.form (tables_in ps) (length (all_of tss)) rest → FailsLoad bytes 4
    fails-body reads none = without-body bytes head rest begins has ps tss every held reads none

    module _ (uss : List (List Tally)) (stored : FlatStorage) (kept : map (map struct_of) uss ≡ map (map struct_of) tss) (few : length stored < 2 ^ 64)
        (read : body_from head.form (tables_in ps) (length (all_of tss)) rest ≡ Some ((map counts_of (all_of uss), stored), [])) (parts : EachReadIsBody) where
      abbrev tallies : List Tallied
      tallies = map (tallied (tables_in ps)) (all_of uss)

      count-is : length tallies ≡ length (all_of tss)
      count-is = length-map (all_of uss) (tallied (tables_in ps)) ∙ still-many (tables_in ps) tss uss kept

      read-so : body_from head.form (tables_in ps) (length tallies) rest ≡ Some ((map counted_by tallies, stored), [])
      read-so =
          ap (λ (n : ℕ). body_from head.form (tables_in ps) n rest) count-is ∙ read
          ∙ ap (λ (cs : List (ℕ × ℕ)). Some ((cs, stored), [])) (sym (counts-are (tables_in ps) (all_of uss)))

      head-is : HeadFits head.runs head.offers
      head-is = (head-parts bytes rest head are begins).1

      found : (storage : Storage) × ((stored ≡ flat_storage storage) × IsBody head.form (tables_in ps) rest tallies storage)
      found = parts head.form ps rest tallies stored held.store (head-parts bytes rest head are begins).0.left few read-so

      abbrev storage : Storage
      storage = found.0

      body : IsBody head.form (tables_in ps) rest tallies storage
      body = found.1.1

      accepted : StoreAccepted (tables_in ps)
      accepted = accepted_store ps held.store

      typed : StorageTyped (tables_in ps) storage
      typed = fine_storage (tables_in ps) accepted storage body.typed

      storage-is : storage_of (tables_in ps) stored ≡ storage
      storage-is = ap (storage_of (tables_in ps)) found.1.0 ∙ storage_decoded (tables_in ps) (sizes (tables_in ps) accepted) storage typed

      pub stored-fine : All (IsFineWords (tables_in ps)) stored
      stored-fine = subst (All (IsFineWords (tables_in ps))) (sym found.1.0) (fine-words (tables_in ps) storage body.typed)

      offers-are : map offered ps ≡ head.offers
      offers-are = offers-were head.offers ps every

      structs-are : map (λ (t : Tallied). t.struct) tallies ≡ scarce_structs (tables_in ps)
      structs-are = tallied-structs ps uss (read-held ps tss held uss kept)

      ascending : IsAscending (storage_of (tables_in ps) stored)
      ascending = subst IsAscending (sym storage-is) body.ascending

      passed : AllPass (map offered ps) ps
      passed = subst (λ (os : List Offer). AllPass os ps) (sym offers-are) every

      text : IsSavedText head.form bytes (state_of (view_of ps stored (all_of uss) head.runs))
      text = record {
        text =
            (head-parts bytes rest head are begins).0.text ∙ ap (λ (os : List Offer). head_text head.form head.runs os ++ rest) (sym offers-are)
            ∙ ap (λ (z : List ℕ). head_text head.form head.runs (map offered ps) ++ z)
            (body.text ∙ ap (λ (es : Storage). flat_map (tally_text head.form) tallies ++ storage_text head.form (tables_in ps) es) (sym storage-is));
        head = subst (HeadFits head.runs) (sym offers-are) head-is;
        spelled = passed-spelled ps passed;
        tallied = structs-are;
        counts = body.counts;
        ascending = ascending;
        typed = subst (λ (es : Storage). IsTrue (is_fine_storage (tables_in ps) es)) (sym storage-is) body.typed;
        few = subst (λ (es : Storage). length es < 2 ^ 64) (sym storage-is) body.few;
      }

      -- its tallies are not those of what is stored
      pub fails-tallied : (AreCounted head.runs (storage_of (tables_in ps) stored) (map (tallied (tables_in ps)) (all_of uss)) → ⊥) → FailsLoad bytes 5
      fails-tallied wrong = no_tallies head.form (state_of (view_of ps stored (all_of uss) head.runs)) text passed linked wrong

      module _ (counted : AreCounted head.runs (storage_of (tables_in ps) stored) (map (tallied (tables_in ps)) (all_of uss))) where
        -- the bytes are loaded
        pub is-loaded : IsLoaded bytes (state_of (view_of ps stored (all_of uss) head.runs))
        is-loaded = record { form = head.form; text = text; passed = passed; linked = linked; tallied = counted }

        sound : IsSoundLedger (state_of (view_of ps stored (all_of uss) head.runs))
        sound = record {
          store = held.store;
          typed = subst (StorageTyped (tables_in ps)) (sym storage-is) typed;
          ascending = ascending;
          tallied = structs-are;
          balanced = all-weaker (λ (t : Tallied). (t.packs ≤ 10000000 * head.runs) × (count (storage_of (tables_in ps) stored) t.struct + t.unpacks ≡ t.packs))
              (λ t. count (storage_of (tables_in ps) stored) t.struct + t.unpacks ≡ t.packs) (λ t both. both.1) tallies counted;
        }

        -- as a ledger
        pub is-ledger : IsLedger ps stored (all_of uss) head.runs
        is-ledger = record {
          sized = subst (λ (os : List Offer). IsTrue (list_all offer_fits os)) (sym offers-are) head-is.sized;
          fine = stored-fine;
          small = small-counts (tables_in ps) head.runs (storage_of (tables_in ps) stored) (all_of uss) counted;
          counted = head-is.had;
          sound = sound;
        }
