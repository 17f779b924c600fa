-- The text of what is stored is read as its words, and what is read is such a text.
use Rattle.mv_saved_text.proofs.Common.{[], ◌++◌, ◌<◌, ◌^◌, ◌∙◌, ◌∷◌, ◌≡◌, ◌≤◌, ◌⊎◌, IsTrue, List, None, Some, ap, ap₂, arith, flat_map, inl, inr, length, lt-ltb, map, refl, subst}
use Rattle.mv_saved_text.proofs.Common.{suc, sym, true, zero, ℕ, and_from, length-map, All-head, All-tail, slice_get_within, first_so, second_so, AllByRecursion, filter, list_all, All, nat_le}
use Rattle.mv_saved_text.proofs.Common.{slice_get, leaves_within, Module, name_at, name_of_struct, StructName, ◌>>=◌, PublishedModule, Definition, Key, uleb, few_structs, HasText, Front, on_bind}
use Rattle.mv_saved_text.proofs.Common.{counted, is_index, AreBytes, same_key-to, entries_from_words, with_words, words_under, Ascends, FlatEntry, flat_storage, Storage, same_key, is_fine_entry}
use Rattle.mv_saved_text.proofs.Common.{is_fine_storage, all_at, IsPublishable, IsStore, tables_in, struct_is_small, on_found, IsAscending, is_keyed, storage_into, with_entry, First, Form, Second}
use Rattle.mv_saved_text.proofs.Common.{addressed_text, is_under, keyed_from, storage_text, stored_text, struct_text}
use Rattle.mv_linker.proofs.Joining.Scopes.{within_tables}
use Rattle.mv_saved_text.proofs.Loads.BodyLookups.{words-append, puts, words-puts, Ascends-puts, puts-ascending, is_of, under, is_key_of, words-under, under-puts}
use Rattle.mv_saved_text.proofs.Loads.BodyEntries.{entry_text, IsEntry}
use Rattle.mv_saved_text.proofs.Loads.BodyGroups.{rises-ascends, ascends-rises, group-parts, group-whole, Among, group_text, groups-parts, groups-whole, is-own, own-is, own-entry}
use Rattle.mv_saved_text.proofs.Loads.BodyKeyed.{keyed-distinct, keyed-among}
use Rattle.mv_saved_text.proofs.Loads.BodyValues.{valued, entry-valued, EachIsSized, FineParts, fine-parts, stored-as, addressed-as, ascending-ascends, ascends-ascending, under-valued}
use Rattle.mv_saved_text.proofs.Loads.BodyValues.{under-flat}
use Rattle.mv_ledger_state.proofs.Lists.{all-weaker, all-filter}
use Rattle.mv_binary_format.proofs.Back.{filter-shorter}
use Rattle.mv_saved_text.specs.Parts.Saving.{struct_under}
use Rattle.mv_ledger_state.proofs.Handed.{flat_entry}

-- ---- what is read

module _ (modules : List Module) where
  -- entries with their values
  record AreValued (es : List FlatEntry) : Type 0 where
    pub same : flat_storage (map (valued modules) es) ≡ es
    pub fine : is_fine_storage modules (map (valued modules) es) ≡ true

  are-valued : (es : List FlatEntry) → AllByRecursion (λ e. IsEntry modules (Some (struct_under e.key)) e) es → AreValued es
  are-valued [] h = record { same = refl; fine = refl }
  are-valued (e ∷ es) h =
      let v = entry-valued modules (Some (struct_under e.key)) e h.0 in
      let rest = are-valued es h.1 in
      record {
        same = ap₂ (λ (x : FlatEntry) (xs : List FlatEntry). x ∷ xs) v.same rest.same;
        fine = and_from (is_fine_entry modules (valued modules e)) (list_all (is_fine_entry modules) (map (valued modules) es)) v.fine rest.fine;
      }

  -- the texts of entries are those of their values
  stored-texts : (es : List FlatEntry) → AllByRecursion (IsEntry modules None) es → flat_map stored_text (map (valued modules) es) ≡ flat_map (entry_text modules None) es
  stored-texts [] h = refl
  stored-texts (e ∷ es) h =
      let v = entry-valued modules None e h.0 in
      ap₂ (λ (x y : List ℕ). x ++ y) (stored-as modules (valued modules e) e refl v.text) (stored-texts es h.1)

  addressed-texts : (d : Definition) (es : List FlatEntry) → AllByRecursion (IsEntry modules (Some d)) es
      → flat_map addressed_text (map (valued modules) es) ≡ flat_map (entry_text modules (Some d)) es
  addressed-texts d [] h = refl
  addressed-texts d (e ∷ es) h =
      let v = entry-valued modules (Some d) e h.0 in
      ap₂ (λ (x y : List ℕ). x ++ y) (addressed-as modules d (valued modules e) e refl v.text) (addressed-texts d es h.1)

  -- what holds of all entries holds of those that they are put into
  all-with : (P : FlatEntry → Type 0) (s : List FlatEntry) (e : FlatEntry) → AllByRecursion P s → P e → AllByRecursion P (with_words s e.key e.words)
  all-with P [] e h own = (own, tt)
  all-with P (x ∷ s) e h own = grind (arith, all-with P s e h.1 own)

  all-put : (P : FlatEntry → Type 0) (s : List FlatEntry) (e : FlatEntry) → AllByRecursion P s → P e → AllByRecursion P (with_entry s e)
  all-put P s e h own = grind (arith, all-with P s e h own)

  all-puts : (P : FlatEntry → Type 0) (s es : List FlatEntry) → AllByRecursion P s → AllByRecursion P es → AllByRecursion P (puts s es)
  all-puts P s [] h g = h
  all-puts P s (e ∷ es) h g = all-puts P (with_entry s e) es (all-put P s e h g.0) g.1

  -- the text of what is stored of a struct
  struct-text : (d : Definition) (s es : List FlatEntry) → under d s ≡ under d es → AllByRecursion (IsEntry modules (Some d)) (under d es)
      → group_text modules es d ≡ struct_text (map (valued modules) s) d
  struct-text d s es same are =
      let values : filter (is_under d) (map (valued modules) s) ≡ map (valued modules) (under d es) = under-valued modules d s ∙ ap (map (valued modules)) same in
      ap₂ (λ (n : ℕ) (z : List ℕ). uleb n ++ z) (sym (length-map (under d es) (valued modules))) (sym (addressed-texts d (under d es) are)) ∙ ap (counted addressed_text) (sym values)

  structs-text : (ds : List Definition) (s es : List FlatEntry) → ((d : Definition) → under d s ≡ under d es) → ((d : Definition) → AllByRecursion (IsEntry modules (Some d)) (under d es))
      → flat_map (group_text modules es) ds ≡ flat_map (struct_text (map (valued modules) s)) ds
  structs-text [] s es same are = refl
  structs-text (d ∷ ds) s es same are = ap₂ (λ (x y : List ℕ). x ++ y) (struct-text d s es (same d) (are d)) (structs-text ds s es same are)

  -- what was read is a storage, and its text stands at the front
  pub record StorageFrom (form : Form) (bytes : List ℕ) (s : List FlatEntry) (rest : List ℕ) : Type 0 where
    pub front : Front (storage_text form modules (map (valued modules) s)) bytes rest
    pub same : flat_storage (map (valued modules) s) ≡ s
    pub fine : is_fine_storage modules (map (valued modules) s) ≡ true
    pub ascending : IsAscending (map (valued modules) s)

  pub storage-parts : (form : Form) (bytes rest : List ℕ) (s : List FlatEntry) → AreBytes bytes → storage_into modules form [] bytes ≡ Some (s, rest) → StorageFrom form bytes s rest
  storage-parts First bytes rest s ok h =
      let g = group-parts modules None [] bytes s rest ok h in
      let up : Ascends g.entries = rises-ascends g.entries g.rises in
      let is : s ≡ g.entries = g.put ∙ puts-ascending g.entries up in
      let v = are-valued g.entries (all-weaker (IsEntry modules None) (λ e. IsEntry modules (Some (struct_under e.key)) e) (own-entry modules None) g.entries g.are) in
      let text : counted (entry_text modules None) g.entries ≡ counted stored_text (map (valued modules) g.entries) =
      ap₂ (λ (n : ℕ) (z : List ℕ). uleb n ++ z) (sym (length-map g.entries (valued modules))) (sym (stored-texts g.entries g.are)) in
      subst (λ (z : List FlatEntry). StorageFrom First bytes z rest) (sym is)
      (record { front = subst (λ (z : List ℕ). Front z bytes rest) text g.front; same = v.same; fine = v.fine; ascending = ascends-ascending modules g.entries up })
  storage-parts Second bytes rest s ok h =
      let g = groups-parts modules (keyed_from 0 modules) [] bytes s rest (keyed-distinct 0 modules) ok h in
      let same : (d : Definition) → under d s ≡ under d g.entries = λ d. ap (under d) g.put ∙ under-puts d g.entries (g.ascend d) in
      let up : Ascends s = subst Ascends (sym g.put) (Ascends-puts [] g.entries tt) in
      let each : AllByRecursion (λ e. IsEntry modules (Some (struct_under e.key)) e) s =
      subst (λ (z : List FlatEntry). AllByRecursion (λ e. IsEntry modules (Some (struct_under e.key)) e) z) (sym g.put)
      (all-puts (λ e. IsEntry modules (Some (struct_under e.key)) e) [] g.entries tt g.each) in
      let v = are-valued s each in
      record {
        front = subst (λ (z : List ℕ). Front z bytes rest) (structs-text (keyed_from 0 modules) s g.entries same g.are) g.front;
        same = v.same;
        fine = v.fine;
        ascending = ascends-ascending modules s up;
      }

-- ---- what is written

-- the structs of a store have so many leaves
pub store-sized : (published : List PublishedModule) → IsStore published → EachIsSized (tables_in published)
store-sized published store place index name named =
    on_bind (slice_get (tables_in published) place) _ name named (λ m m_is n1.
    on_bind (slice_get m.structs index) (name_of_struct m) name n1 (λ d d_is n2.
    let small = all_at (λ m. list_all (struct_is_small (tables_in published) m) m.structs) (tables_in published) place m store.links.small m_is in
    let own : struct_is_small (tables_in published) m d ≡ true = all_at (struct_is_small (tables_in published) m) m.structs index d small d_is in
    on_found (λ n. nat_le n 256) (name_of_struct m d >>= leaves_within 8 (tables_in published)) own (λ n n_is le. (n, sym (ap (λ o. o >>= leaves_within 8 (tables_in published)) n2) ∙ n_is))))

-- each module of a store has a text
text-at : (ps : List PublishedModule) (k : ℕ) (m : Module) → All IsPublishable ps → slice_get (tables_in ps) k ≡ Some m → HasText m
text-at [] k m passed h = absurd cc
text-at (p ∷ ps) zero m passed h = let same : p.tables ≡ m = cc in subst HasText same (All-head IsPublishable p ps passed).spelled
text-at (p ∷ ps) (suc k) m passed h = text-at ps k m (All-tail IsPublishable p ps passed) h

-- a struct of a small store can be written by its place and index
record IsWritten (k : Key) : Type 0 where
  pub place : IsTrue (is_index k.place)
  pub index : IsTrue (is_index k.index)

written : (published : List PublishedModule) → IsStore published → length published ≤ 65536 → (k : Key) (name : StructName) → name_at (tables_in published) k.place k.index ≡ Some name → IsWritten k
written published store few k name named =
    on_bind (slice_get (tables_in published) k.place) _ name named (λ m m_is n1.
    on_bind (slice_get m.structs k.index) (name_of_struct m) name n1 (λ d d_is n2.
    let place : k.place < length published = within_tables published k.place m m_is in
    let index : k.index < length m.structs = slice_get_within m.structs k.index d d_is in
    let most : length m.structs ≤ 65536 = few_structs m (text-at published k.place m store.passed m_is) in
    record { place = lt-ltb k.place (2 ^ 16) (omega arith); index = lt-ltb k.index (2 ^ 16) (omega arith) }))

-- what stands under a key among what is stored of structs
lookup-groups : (es : List FlatEntry) (q : Key) (ds : List Definition) → (words_under es q ≡ None) ⊎ Among (struct_under q) ds → words_under (flat_map (λ d. under d es) ds) q ≡ words_under es q
lookup-groups es q [] (inl none) = sym none
lookup-groups es q [] (inr among) = absurd among
lookup-groups es q (d ∷ ds) h =
    let own : struct_under q ≡ d → is_key_of d q ≡ true = is-own d (record { key = q; words = [] }) in
    let none : words_under es q ≡ None → words_under (flat_map (λ d. under d es) ds) q ≡ words_under es q = λ n. lookup-groups es q ds (inl n) in
    let among : Among (struct_under q) ds → words_under (flat_map (λ d. under d es) ds) q ≡ words_under es q = λ a. lookup-groups es q ds (inr a) in
    grind (arith, own, none, among, words-append (under d es) (flat_map (λ d. under d es) ds) q, words-under d es q)

module _ (modules : List Module) where
  -- each stored value has its parts
  pub all-parts : EachIsSized modules → (storage : Storage) → is_fine_storage modules storage ≡ true → AllByRecursion (FineParts modules) storage
  all-parts sized [] fine = tt
  all-parts sized (e ∷ storage) fine = (
    fine-parts modules sized e (first_so (is_fine_entry modules e) (list_all (is_fine_entry modules) storage) fine),
    all-parts sized storage
        (second_so (is_fine_entry modules e) (list_all (is_fine_entry modules) storage) fine),
  )

  -- stored values of a struct are entries under it
  own-entries : (d : Definition) (storage : Storage) → AllByRecursion (FineParts modules) storage → AllByRecursion (IsEntry modules (Some d)) (under d (flat_storage storage))
  own-entries d [] parts = tt
  own-entries d (e ∷ storage) parts =
      let own : is_of d (flat_entry e) ≡ true → IsEntry modules (Some d) (flat_entry e) =
      λ is. record { kinds = parts.0.kinds; kinds_are = parts.0.kinds_are; leaves = parts.0.leaves; address = parts.0.address; known = own-is d (flat_entry e) is } in
      grind (arith, own, own-entries d storage parts.1)

  -- their texts
  own-texts : (d : Definition) (storage : Storage) → AllByRecursion (FineParts modules) storage → flat_map addressed_text storage ≡ flat_map (entry_text modules (Some d)) (flat_storage storage)
  own-texts d [] parts = refl
  own-texts d (e ∷ storage) parts = ap₂ (λ (x y : List ℕ). x ++ y) (addressed-as modules d e (flat_entry e) refl parts.0.text) (own-texts d storage parts.1)

  all-texts : (storage : Storage) → AllByRecursion (FineParts modules) storage → flat_map stored_text storage ≡ flat_map (entry_text modules None) (flat_storage storage)
  all-texts [] parts = refl
  all-texts (e ∷ storage) parts = ap₂ (λ (x y : List ℕ). x ++ y) (stored-as modules e (flat_entry e) refl parts.0.text) (all-texts storage parts.1)

  group-is : (storage : Storage) → AllByRecursion (FineParts modules) storage → (d : Definition) → struct_text storage d ≡ group_text modules (flat_storage storage) d
  group-is storage parts d =
      let own : AllByRecursion (FineParts modules) (filter (is_under d) storage) = all-filter (FineParts modules) (is_under d) storage parts in
      ap₂ (λ (n : ℕ) (z : List ℕ). uleb n ++ z) (sym (length-map (filter (is_under d) storage) flat_entry)) (own-texts d (filter (is_under d) storage) own)
      ∙ ap (counted (entry_text modules (Some d))) (sym (under-flat d storage))

  groups-are : (storage : Storage) → AllByRecursion (FineParts modules) storage → (ds : List Definition) → flat_map (struct_text storage) ds ≡ flat_map (group_text modules (flat_storage storage)) ds
  groups-are storage parts [] = refl
  groups-are storage parts (d ∷ ds) = ap₂ (λ (x y : List ℕ). x ++ y) (group-is storage parts d) (groups-are storage parts ds)

  -- what is stored is stored under a struct with key
  stored-keyed : (storage : Storage) → AllByRecursion (FineParts modules) storage → (q : Key) → (words_under (flat_storage storage) q ≡ None) ⊎ (is_keyed modules (struct_under q) ≡ true)
  stored-keyed [] parts q = inl refl
  stored-keyed (e ∷ storage) parts q =
      let keyed : same_key e.key q ≡ true → is_keyed modules (struct_under q) ≡ true = λ same. subst (λ (k : Key). is_keyed modules (struct_under k) ≡ true) (same_key-to e.key q same) parts.0.keyed in
      grind (arith, keyed, stored-keyed storage parts.1 q)

  pub keyed-or : (storage : Storage) → AllByRecursion (FineParts modules) storage → (q : Key) → (words_under (flat_storage storage) q ≡ None) ⊎ Among (struct_under q) (keyed_from 0 modules)
  keyed-or storage parts q = elim (stored-keyed storage parts q) [ inl none ↦ inl none | inr keyed ↦ inr (keyed-among modules (struct_under q) keyed) ]

  second-whole : (storage : Storage) → AllByRecursion (FineParts modules) storage → IsAscending storage → length storage < 2 ^ 64 → (rest : List ℕ)
      → storage_into modules Second [] (storage_text Second modules storage ++ rest) ≡ Some (flat_storage storage, rest)
  second-whole storage parts up few rest =
      let words : List FlatEntry = flat_storage storage in
      let ascends : Ascends words = ascending-ascends storage up in
      let whole : puts [] (flat_map (λ d. under d words) (keyed_from 0 modules)) ≡ words =
      entries_from_words (puts [] (flat_map (λ d. under d words) (keyed_from 0 modules))) words (Ascends-puts [] (flat_map (λ d. under d words) (keyed_from 0 modules)) tt) ascends
      (λ q. words-puts [] (flat_map (λ d. under d words) (keyed_from 0 modules)) q ∙ lookup-groups words q (keyed_from 0 modules) (keyed-or storage parts q)) in
      ap (λ z. storage_into modules Second [] (z ++ rest)) (groups-are storage parts (keyed_from 0 modules))
      ∙ groups-whole modules (keyed_from 0 modules) [] rest words ascends (λ d. own-entries d storage parts) (λ d. omega (arith, filter-shorter (is_of d) words, length-map storage flat_entry))
      ∙ ap (λ z. Some (z, rest)) whole

module _ (published : List PublishedModule) (store : IsStore published) (short : length published ≤ 65536) where
  -- stored values whose structs are written are entries
  none-entries : (storage : Storage) → AllByRecursion (FineParts (tables_in published)) storage → AllByRecursion (IsEntry (tables_in published) None) (flat_storage storage)
  none-entries [] parts = tt
  none-entries (e ∷ storage) parts =
      let w = written published store short e.key parts.0.name parts.0.named in
      (record { kinds = parts.0.kinds; kinds_are = parts.0.kinds_are; leaves = parts.0.leaves; address = parts.0.address; known = (w.place, w.index) }, none-entries storage parts.1)

  pub storage-whole : (form : Form) (storage : Storage) → is_fine_storage (tables_in published) storage ≡ true → IsAscending storage → length storage < 2 ^ 64 → (rest : List ℕ)
      → storage_into (tables_in published) form [] (storage_text form (tables_in published) storage ++ rest) ≡ Some (flat_storage storage, rest)
  storage-whole First storage fine up few rest =
      let parts = all-parts (tables_in published) (store-sized published store) storage fine in
      let ascends : Ascends (flat_storage storage) = ascending-ascends storage up in
      let text : counted stored_text storage ≡ counted (entry_text (tables_in published) None) (flat_storage storage) =
      ap₂ (λ (n : ℕ) (z : List ℕ). uleb n ++ z) (sym (length-map storage flat_entry)) (all-texts (tables_in published) storage parts) in
      ap (λ z. storage_into (tables_in published) First [] (z ++ rest)) text
      ∙ group-whole (tables_in published) None [] rest (flat_storage storage) (none-entries storage parts) (ascends-rises (flat_storage storage) ascends) (omega (arith, length-map storage flat_entry))
      ∙ ap (λ z. Some (z, rest)) (puts-ascending (flat_storage storage) ascends)
  storage-whole Second storage fine up few rest = second-whole (tables_in published) storage (all-parts (tables_in published) (store-sized published store) storage fine) up few rest
