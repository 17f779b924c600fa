-- What is not read at the front of what follows the modules, nor of longer texts where it is malformed: from the parts to the whole.
use Rattle.mv_saved_text.proofs.Common.{[], ◌++◌, ◌+◌, ◌-◌, ◌<◌, ◌∙◌, ◌∷◌, ◌≡◌, List, None, Option, Some, ap, arith, drop, false, get_or}
use Rattle.mv_saved_text.proofs.Common.{length, map, option_map, refl, subst, suc, sym, true, ℕ, drop-set-lt, drop_more, none-some, some_pair_parts, then_some, slice_set, Module}
use Rattle.mv_saved_text.proofs.Common.{◌>>=◌, Definition, FlatEntry, FlatStorage, Key, LeafKind, number_from, after, Read, entries_from, entry_from, group_into, groups_into, is_after}
use Rattle.mv_saved_text.proofs.Common.{leaf_from, leaves_from, rising_into, with_entry, Form, body_from, IsNoBody, Tally, all_of, lists_of, struct_of, with_items, Global, Vec, address_from, count_from, tally_from}
use Rattle.mv_saved_text.specs.Layouts.{kinds_under}
use Rattle.mv_saved_text.specs.Parts.BodyParts.{storage_into, struct_from}
use Rattle.mv_ledger_state.specs.Unread.{IsUnread}
use Rattle.mv_saved_text.specs.Parts.LoadedParts.{IsUnreadBody}
use Rattle.mv_ledger_state.specs.declared.unread.Unread.{Unread}
use Rattle.mv_ledger_state.specs.declared.unread.Unread.TheVariants.{Cut, Malformed, Memory}
use Rattle.mv_saved_text.proofs.Loads.BodyTallies.{left-is, with_more, here-is, lists-set, short-lists}
use Rattle.mv_saved_text.proofs.Loads.Extending.{address-extends, struct-extends, count-extends, tally-extends, entry-extends, group-extends, body-extends, words_from, kinds_from, addressed_from}
use Rattle.mv_ledger_state.proofs.Extending.{Extends, number-extends, entries-extends}
use Rattle.mv_ledger_state.proofs.Unreading.{unread-first, unread-next, Onward, onward-next}

-- ---- leaves

pub leaves-onward : {A : Type 0} (all : List ℕ → Option A) (start : List ℕ) (kinds : List LeafKind) (i : ℕ) (cur next : List ℕ) (k : LeafKind) (n : ℕ) → Extends (leaf_from k) → i < length kinds
    → k ≡ get_or kinds i k → leaf_from k cur ≡ Some (n, next) → Onward all start (leaves_from (drop i kinds)) cur → Onward all start (leaves_from (drop (i + 1) kinds)) next
leaves-onward all start kinds i cur next k n extends lt is e =
    onward-next all start (leaves_from (drop i kinds)) cur (leaves_from (drop (i + 1) kinds)) next (λ more none.
    ap (λ z. leaves_from z (cur ++ more)) (drop_more kinds i k lt)
    ∙ ap (λ z. leaves_from (z ∷ drop (i + 1) kinds) (cur ++ more)) (sym is)
    ∙ ap (λ o. o >>= λ n. leaves_from (drop (i + 1) kinds) n.1 >>= λ rest. Some (n.0 ∷ rest.0, rest.1)) (extends cur next more n e)
    ∙ ap (λ o. o >>= λ rest. Some (n ∷ rest.0, rest.1)) none)

pub leaves-unread : (kinds : List LeafKind) (i : ℕ) (cur : List ℕ) (k : LeafKind) (e : Unread) → i < length kinds → k ≡ get_or kinds i k → IsUnread (leaf_from k) cur e
    → IsUnread (leaves_from (drop i kinds)) cur e
leaves-unread kinds i cur k e lt is none =
    subst (λ z. IsUnread (leaves_from z) cur e) (sym (drop_more kinds i k lt ∙ ap (λ z. z ∷ drop (i + 1) kinds) (sym is)))
    (unread-first (leaf_from k) (λ n. leaves_from (drop (i + 1) kinds) n.1 >>= λ rest. Some (n.0 ∷ rest.0, rest.1)) cur e none)

-- ---- stored values

-- the values after their number
pub group-onward : (each : List ℕ → Read FlatEntry) (n : ℕ) (before : FlatStorage) (bytes start : List ℕ) → number_from 18446744073709551615 bytes ≡ Some (n, start)
    → Onward (group_into each before) bytes (rising_into each (n - 0) None before) start
group-onward each n before bytes start is =
    let z : n - 0 ≡ n = omega arith in
    record {
      goes = λ more none.
          ap (λ o. o >>= λ n. rising_into each n.0 None before n.1) (number-extends 18446744073709551615 bytes start more n is)
          ∙ ap (λ k. rising_into each k None before (start ++ more)) (sym z) ∙ none;
    }

rising-at : (each : List ℕ → Read FlatEntry) (k n : ℕ) (last : Option Key) (storage : FlatStorage) (bytes rest : List ℕ) (e : FlatEntry) → k ≡ suc n → each bytes ≡ Some (e, rest)
    → rising_into each k last storage bytes ≡ (then_some (is_after last e.key) rest >>= rising_into each n (Some e.key) (with_entry storage e))
rising-at each k n last storage bytes rest e is read =
    ap (λ z. rising_into each z last storage bytes) is
    ∙ ap (λ o. o >>= λ e. then_some (is_after last e.0.key) e.1 >>= rising_into each n (Some e.0.key) (with_entry storage e.0)) read

pub rising-onward : {A : Type 0} (all : List ℕ → Option A) (start : List ℕ) (each : List ℕ → Read FlatEntry) (n i : ℕ) (last : Option Key) (storage : FlatStorage) (cur next : List ℕ) (e : FlatEntry)
    → Extends each → i < n → each cur ≡ Some (e, next) → is_after last e.key ≡ true
    → Onward all start (rising_into each (n - i) last storage) cur → Onward all start (rising_into each (n - (i + 1)) (Some e.key) (with_entry storage e)) next
rising-onward all start each n i last storage cur next e extends lt is rises =
    let k : n - i ≡ suc (n - (i + 1)) = omega arith in
    onward-next all start (rising_into each (n - i) last storage) cur (rising_into each (n - (i + 1)) (Some e.key) (with_entry storage e)) next (λ more none.
    rising-at each (n - i) (n - (i + 1)) last storage (cur ++ more) (next ++ more) e k (extends cur next more e is)
    ∙ ap (λ b. then_some b (next ++ more) >>= rising_into each (n - (i + 1)) (Some e.key) (with_entry storage e)) rises ∙ none)

pub rising-unread : (each : List ℕ → Read FlatEntry) (n i : ℕ) (last : Option Key) (storage : FlatStorage) (cur : List ℕ) (e : Unread) → i < n → IsUnread each cur e
    → IsUnread (rising_into each (n - i) last storage) cur e
rising-unread each n i last storage cur e lt none =
    let k : n - i ≡ suc (n - (i + 1)) = omega arith in
    subst (λ z. IsUnread (rising_into each z last storage) cur e) (sym k)
    (unread-first each (λ x. then_some (is_after last x.0.key) x.1 >>= rising_into each (n - (i + 1)) (Some x.0.key) (with_entry storage x.0)) cur e none)

-- the next has a key that isn't above the last
pub rising-falls : (each : List ℕ → Read FlatEntry) (n i : ℕ) (last : Option Key) (storage : FlatStorage) (cur next : List ℕ) (e : FlatEntry) → Extends each → i < n → each cur ≡ Some (e, next)
    → is_after last e.key ≡ false → IsUnread (rising_into each (n - i) last storage) cur Malformed
rising-falls each n i last storage cur next e extends lt is falls = λ more.
    let k : n - i ≡ suc (n - (i + 1)) = omega arith in
    rising-at each (n - i) (n - (i + 1)) last storage (cur ++ more) (next ++ more) e k (extends cur next more e is)
    ∙ ap (λ b. then_some b (next ++ more) >>= rising_into each (n - (i + 1)) (Some e.key) (with_entry storage e)) falls

-- ---- struct by struct

groups-at : (modules : List Module) (ds : List Definition) (i : ℕ) (storage : FlatStorage) (bytes : List ℕ) (d : Definition) → i < length ds → d ≡ get_or ds i d
    → groups_into modules (drop i ds) storage bytes ≡ (group_into (entry_from modules (Some d)) storage bytes >>= λ s. groups_into modules (drop (i + 1) ds) s.0 s.1)
groups-at modules ds i storage bytes d lt is =
    ap (λ z. groups_into modules z storage bytes) (drop_more ds i d lt ∙ ap (λ z. z ∷ drop (i + 1) ds) (sym is))

pub groups-onward : {A : Type 0} (all : List ℕ → Option A) (start : List ℕ) (modules : List Module) (ds : List Definition) (i : ℕ) (storage put : FlatStorage) (cur next : List ℕ) (d : Definition)
    → i < length ds → d ≡ get_or ds i d → group_into (entry_from modules (Some d)) storage cur ≡ Some (put, next)
    → Onward all start (groups_into modules (drop i ds) storage) cur → Onward all start (groups_into modules (drop (i + 1) ds) put) next
groups-onward all start modules ds i storage put cur next d lt is e =
    let extends = group-extends (entry_from modules (Some d)) (entry-extends modules (Some d)) storage in
    onward-next all start (groups_into modules (drop i ds) storage) cur (groups_into modules (drop (i + 1) ds) put) next (λ more none.
    groups-at modules ds i storage (cur ++ more) d lt is ∙ ap (λ o. o >>= λ s. groups_into modules (drop (i + 1) ds) s.0 s.1) (extends cur next more put e) ∙ none)

pub groups-unread : (modules : List Module) (ds : List Definition) (i : ℕ) (storage : FlatStorage) (cur : List ℕ) (d : Definition) (e : Unread) → i < length ds → d ≡ get_or ds i d
    → IsUnread (group_into (entry_from modules (Some d)) storage) cur e → IsUnread (groups_into modules (drop i ds) storage) cur e
groups-unread modules ds i storage cur d e lt is none =
    subst (λ z. IsUnread (groups_into modules z storage) cur e) (sym (drop_more ds i d lt ∙ ap (λ z. z ∷ drop (i + 1) ds) (sym is)))
    (unread-first (group_into (entry_from modules (Some d)) storage) (λ s. groups_into modules (drop (i + 1) ds) s.0 s.1) cur e none)

-- ---- the tallies of modules

pub tallies-onward : {A : Type 0} (all : List ℕ → Option A) (start : List ℕ) (each : List ℕ → Read (ℕ × ℕ)) (i : ℕ) (tss : List (List Tally)) (cur next : List ℕ) (d ts : List Tally) (xs : List (ℕ × ℕ))
    → Extends (entries_from each (length (get_or tss i d))) → i < length tss → entries_from each (length (get_or tss i d)) cur ≡ Some (xs, next)
    → Onward all start (entries_from each (length (all_of (drop i tss)))) cur → Onward all start (entries_from each (length (all_of (drop (i + 1) (slice_set tss i ts))))) next
tallies-onward all start each i tss cur next d ts xs extends lt e =
    let left : ℕ = length (all_of (drop (i + 1) tss)) in
    let back : drop (i + 1) (slice_set tss i ts) ≡ drop (i + 1) tss = drop-set-lt (i + 1) tss i ts (omega arith) in
    onward-next all start (entries_from each (length (all_of (drop i tss)))) cur (entries_from each (length (all_of (drop (i + 1) (slice_set tss i ts))))) next (λ more none.
    left-is each i tss (cur ++ more) d lt ∙ ap (with_more each left) (extends cur next more xs e)
    ∙ ap (λ z. option_map (after xs) (entries_from each (length (all_of z)) (next ++ more))) (sym back) ∙ ap (option_map (after xs)) none)

pub tallies-unread : (each : List ℕ → Read (ℕ × ℕ)) (i : ℕ) (tss : List (List Tally)) (cur : List ℕ) (d : List Tally) (e : Unread) → i < length tss
    → IsUnread (entries_from each (length (get_or tss i d))) cur e → IsUnread (entries_from each (length (all_of (drop i tss)))) cur e
tallies-unread each i tss cur d Cut lt none = left-is each i tss cur d lt ∙ ap (with_more each (length (all_of (drop (i + 1) tss)))) none
tallies-unread each i tss cur d Malformed lt none = λ more. left-is each i tss (cur ++ more) d lt ∙ ap (with_more each (length (all_of (drop (i + 1) tss)))) (none more)
tallies-unread each i tss cur d Memory lt none = tt

-- a module's tallies in their vector
module _ (vs : List (Vec Tally Global)) (i : ℕ) (v : Vec Tally Global) (before ts : List Tally) (short : i < length vs) (value : before ≡ (get_or vs i v).items)
    (len : length before ≡ (get_or vs i v).len) (kept : map struct_of ts ≡ map struct_of before) where
  pub vector-unread : (each : List ℕ → Read (ℕ × ℕ)) (cur : List ℕ) (e : Unread) → IsUnread (entries_from each (length before)) cur e
      → IsUnread (entries_from each (length (all_of (drop i (lists_of vs))))) cur e
  vector-unread each cur e none =
      tallies-unread each i (lists_of vs) cur [] e (short-lists vs i v before ts short value len kept)
      (subst (λ (z : List Tally). IsUnread (entries_from each (length z)) cur e) (sym (here-is vs i v before ts short value len kept)) none)

  pub vector-onward : {A : Type 0} (all : List ℕ → Option A) (start : List ℕ) (each : List ℕ → Read (ℕ × ℕ)) (cur next : List ℕ) (xs : List (ℕ × ℕ)) → Extends each
      → entries_from each (length before) cur ≡ Some (xs, next) → Onward all start (entries_from each (length (all_of (drop i (lists_of vs))))) cur
      → Onward all start (entries_from each (length (all_of (drop (i + 1) (lists_of (slice_set vs i (with_items (get_or vs i v) ts))))))) next
  vector-onward all start each cur next xs one e on =
      subst (λ (z : List (List Tally)). Onward all start (entries_from each (length (all_of (drop (i + 1) z)))) next) (sym (lists-set vs i v before ts short value len kept))
      (tallies-onward all start each i (lists_of vs) cur next [] ts xs (entries-extends each one (length (get_or (lists_of vs) i []))) (short-lists vs i v before ts short value len kept)
      (ap (λ (z : List Tally). entries_from each (length z) cur) (here-is vs i v before ts short value len kept) ∙ e) on)

-- ---- what follows the modules

-- no such thing is read
pub body-unread : (form : Form) (modules : List Module) (count : ℕ) (bytes : List ℕ) (e : Unread) → IsUnread (body_from form modules count) bytes e → IsUnreadBody form modules count bytes e
body-unread form modules count bytes Cut none = λ body is. none-some (body, []) (sym none ∙ is)
body-unread form modules count bytes Malformed none = λ more body is. none-some (body, []) (sym (none more) ∙ is)
body-unread form modules count bytes Memory none = tt

-- ---- the parts of a tally and of a stored value

pub tally-unread : (form : Form) (bytes rest : List ℕ) (packs : ℕ) (e : Unread) → count_from form bytes ≡ Some (packs, rest) → IsUnread (count_from form) rest e → IsUnread (tally_from form) bytes e
tally-unread form bytes rest packs e is none =
    unread-next (count_from form) (λ packs. count_from form packs.1 >>= λ unpacks. Some ((packs.0, unpacks.0), unpacks.1)) bytes rest packs e (count-extends form) is
    (unread-first (count_from form) (λ unpacks. Some ((packs, unpacks.0), unpacks.1)) rest e none)

pub index-unread : (bytes rest : List ℕ) (place : ℕ) (e : Unread) → number_from 65535 bytes ≡ Some (place, rest) → IsUnread (number_from 65535) rest e → IsUnread (struct_from None) bytes e
index-unread bytes rest place e is none =
    unread-next (number_from 65535) (λ place. number_from 65535 place.1 >>= λ index. Some (record { place = place.0; index = index.0 }, index.1)) bytes rest place e (number-extends 65535) is
    (unread-first (number_from 65535) (λ index. Some (record { place = place; index = index.0 }, index.1)) rest e none)

module _ (modules : List Module) (of : Option Definition) (bytes addressed keyed : List ℕ) (address : ℕ) (d : Definition) (address_is : address_from bytes ≡ Some (address, addressed))
    (d_is : struct_from of addressed ≡ Some (d, keyed)) (e : Unread) where
  -- what follows the key isn't read
  entry-after : IsUnread (kinds_from modules address d) keyed e → IsUnread (entry_from modules of) bytes e
  entry-after none =
      unread-next address_from (λ a. addressed_from modules of a.0 a.1) bytes addressed address e address-extends address_is
      (unread-next (struct_from of) (λ d. kinds_from modules address d.0 d.1) addressed keyed d e (struct-extends of) d_is none)

  -- the leaves aren't
  pub entry-unread : (kinds : List LeafKind) → kinds_under modules d ≡ Some kinds → IsUnread (leaves_from kinds) keyed e → IsUnread (entry_from modules of) bytes e
  entry-unread kinds is none =
      entry-after (subst (λ o. IsUnread (λ z. o >>= λ kinds. words_from address d kinds z) keyed e) (sym is)
      (unread-first (leaves_from kinds) (λ words. Some (record { key = record { address = address; place = d.place; index = d.index }; words = words.0 }, words.1)) keyed e none))

  -- there are no such values
  pub entry-shapeless : e ≡ Malformed → kinds_under modules d ≡ None → IsUnread (entry_from modules of) bytes e
  entry-shapeless malformed is = entry-after (subst (λ z. IsUnread (kinds_from modules address d) keyed z) (sym malformed) (λ more. ap (λ o. o >>= λ kinds. words_from address d kinds (keyed ++ more)) is))

-- what is made of nothing
pub made-none : {A B : Type 0} (f : A → B) (o : Option A) (r : Option B) → option_map f o ≡ r → ((a : A) → o ≡ Some a → ⊥) → r ≡ None
made-none f None r is empty = sym is
made-none f (Some a) r is empty = absurd (empty a refl)

-- ---- the tallies and what is stored

pub storage-unread : (form : Form) (modules : List Module) (count : ℕ) (bytes rest : List ℕ) (counts : List (ℕ × ℕ)) (e : Unread) → entries_from (tally_from form) count bytes ≡ Some (counts, rest)
    → IsUnread (storage_into modules form []) rest e → IsUnreadBody form modules count bytes e
storage-unread form modules count bytes rest counts e is none =
    body-unread form modules count bytes e
    (unread-next (entries_from (tally_from form) count) (λ counts. storage_into modules form [] counts.1 >>= λ stored. Some ((counts.0, stored.0), stored.1)) bytes rest counts e
    (entries-extends (tally_from form) (tally-extends form) count) is
    (unread-first (storage_into modules form []) (λ stored. Some ((counts, stored.0), stored.1)) rest e none))

-- bytes are left
pub body-left : (form : Form) (modules : List Module) (count : ℕ) (bytes counted rest : List ℕ) (counts : List (ℕ × ℕ)) (stored : FlatStorage) → entries_from (tally_from form) count bytes ≡ Some (counts, counted)
    → storage_into modules form [] counted ≡ Some (stored, rest) → body_from form modules count bytes ≡ Some ((counts, stored), rest)
body-left form modules count bytes counted rest counts stored tallies_are stored_is =
    ap (λ o. o >>= λ counts. storage_into modules form [] counts.1 >>= λ stored. Some ((counts.0, stored.0), stored.1)) tallies_are
    ∙ ap (λ o. o >>= λ stored. Some ((counts, stored.0), stored.1)) stored_is

pub left-over : (form : Form) (modules : List Module) (count : ℕ) (bytes rest : List ℕ) (body : List (ℕ × ℕ) × FlatStorage) → body_from form modules count bytes ≡ Some (body, rest)
    → (more : List ℕ) → (rest ++ more ≡ [] → ⊥) → IsNoBody form modules count (bytes ++ more)
left-over form modules count bytes rest body is more some = λ other whole.
    some (some_pair_parts body other (rest ++ more) [] (sym (body-extends form modules count bytes rest more body is) ∙ whole)).1

-- more of them with others behind
pub more-left : (rest more : List ℕ) → (rest ≡ [] → ⊥) → rest ++ more ≡ [] → ⊥
more-left [] more some is = some refl
more-left (b ∷ rest) more some is = absurd cc
