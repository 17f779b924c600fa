-- Reading stored values that become storage once all of them are read: how far it has come.
use Rattle.mv_saved_text.proofs.Common.{[], ◌++◌, ◌+◌, ◌-◌, ◌<◌, ◌∷◌, ◌≡◌, List, None, Option, Some, drop, false, get_or, length, refl, true, ℕ, Module}
use Rattle.mv_saved_text.proofs.Common.{Definition, FlatEntry, FlatStorage, Key, number_from, Read, entry_from, group_into, groups_into, is_after, rising_into, with_entry}
use Rattle.mv_storage.specs.Filling.{IsFilled}
use Rattle.mv_storage.proofs.Filled.{IsFilled-more}
use Rattle.mv_ledger_state.specs.Unread.{IsUnread}
use Rattle.mv_saved_text.specs.Parts.Fillings.{Fills, IsUnfilled}
use Rattle.mv_ledger_state.specs.declared.unread.Unread.{Unread}
use Rattle.mv_ledger_state.specs.declared.unread.Unread.TheVariants.{Malformed}
use Rattle.mv_saved_text.proofs.Loads.BodyReading.{RisingOn, RisingOn-start, RisingOn-next, GroupsOn, GroupsOn-next}
use Rattle.mv_ledger_state.proofs.Extending.{Extends}
use Rattle.mv_ledger_state.proofs.Unreading.{Onward, onward-start, onward-unread}
use Rattle.mv_saved_text.proofs.Loads.Unreading.{group-onward, rising-onward, rising-unread, rising-falls, groups-onward, groups-unread}

-- ---- values by ascending key

module _ (each : List ℕ → Read FlatEntry) (n : ℕ) (bytes start : List ℕ) where
  -- the first i of n values are read into a storage, which the entries fill
  pub record Risen (i : ℕ) (before entries : FlatStorage) (last : Option Key) (cur : List ℕ) : Type 0 where
    pub storage : FlatStorage
    pub filled : IsFilled entries storage
    pub read : RisingOn each n i before start last storage cur
    pub onward : Onward (group_into each before) bytes (rising_into each (n - i) last storage) cur

  -- the same for each storage that the old entries fill
  abbrev pub Rises : ℕ → FlatStorage → FlatStorage → Option Key → List ℕ → Type 0
  Rises i old entries last cur = (s : FlatStorage) → IsFilled old s → Risen i s entries last cur

  pub Rises-start : (old : FlatStorage) → number_from 18446744073709551615 bytes ≡ Some (n, start) → Rises 0 old old None start
  Rises-start old is s f = record { storage = s; filled = f; read = RisingOn-start each n s start; onward = group-onward each n s bytes start is }

  pub Rises-next : (i : ℕ) (old entries : FlatStorage) (last : Option Key) (cur next : List ℕ) (e : FlatEntry) → Extends each → i < n → each cur ≡ Some (e, next) → is_after last e.key ≡ true
      → Rises i old entries last cur → Rises (i + 1) old (entries ++ e ∷ []) (Some e.key) next
  Rises-next i old entries last cur next e extends lt is rises g s f =
      let h = g s f in record {
        storage = with_entry h.storage e;
        filled = IsFilled-more entries h.storage e h.filled;
        read = RisingOn-next each n i s start last h.storage cur next e lt is rises h.read;
        onward = rising-onward (group_into each s) bytes each n i last h.storage cur next e extends lt is rises h.onward;
      }

  -- the next can't be read
  pub Rises-unread : (i : ℕ) (old entries : FlatStorage) (last : Option Key) (cur : List ℕ) (e : Unread) → i < n → IsUnread each cur e → Rises i old entries last cur
      → IsUnfilled (group_into each) old bytes e
  Rises-unread i old entries last cur e lt none g s f =
      let h = g s f in onward-unread (group_into each s) bytes (rising_into each (n - i) last h.storage) cur e h.onward (rising-unread each n i last h.storage cur e lt none)

  -- the next has a key that isn't above the last
  pub Rises-falls : (i : ℕ) (old entries : FlatStorage) (last : Option Key) (cur next : List ℕ) (e : FlatEntry) → Extends each → i < n → each cur ≡ Some (e, next) → is_after last e.key ≡ false
      → Rises i old entries last cur → IsUnfilled (group_into each) old bytes Malformed
  Rises-falls i old entries last cur next e extends lt is falls g s f =
      let h = g s f in
      onward-unread (group_into each s) bytes (rising_into each (n - i) last h.storage) cur Malformed h.onward (rising-falls each n i last h.storage cur next e extends lt is falls)

-- ---- struct by struct

module _ (modules : List Module) (ds : List Definition) (bytes : List ℕ) where
  -- the values of the first i structs are read into a storage, which the entries fill
  pub record Grouped (i : ℕ) (before entries : FlatStorage) (cur : List ℕ) : Type 0 where
    pub storage : FlatStorage
    pub filled : IsFilled entries storage
    pub read : GroupsOn modules ds i before bytes storage cur
    pub onward : Onward (groups_into modules ds before) bytes (groups_into modules (drop i ds) storage) cur

  -- the same for each storage that the old entries fill
  abbrev pub Groups : ℕ → FlatStorage → FlatStorage → List ℕ → Type 0
  Groups i old entries cur = (s : FlatStorage) → IsFilled old s → Grouped i s entries cur

  pub Groups-start : (old : FlatStorage) → Groups 0 old old bytes
  Groups-start old s f = record { storage = s; filled = f; read = record { goes = refl }; onward = onward-start (groups_into modules ds s) bytes }

  pub Groups-next : (i : ℕ) (old entries more : FlatStorage) (cur next : List ℕ) (d : Definition) → i < length ds → d ≡ get_or ds i d → Fills (group_into (entry_from modules (Some d))) entries cur more next
      → Groups i old entries cur → Groups (i + 1) old more next
  Groups-next i old entries more cur next d lt is fills g s f =
      let h = g s f in
      let put = fills h.storage h.filled in record {
        storage = put.0;
        filled = put.1;
        read = GroupsOn-next modules ds i s bytes h.storage put.0 cur next d lt is put.2 h.read;
        onward = groups-onward (groups_into modules ds s) bytes modules ds i h.storage put.0 cur next d lt is put.2 h.onward;
      }

  -- the values of the next can't be read
  pub Groups-unread : (i : ℕ) (old entries : FlatStorage) (cur : List ℕ) (d : Definition) (e : Unread) → i < length ds → d ≡ get_or ds i d
      → IsUnfilled (group_into (entry_from modules (Some d))) entries cur e → Groups i old entries cur → IsUnfilled (groups_into modules ds) old bytes e
  Groups-unread i old entries cur d e lt is none g s f =
      let h = g s f in
      onward-unread (groups_into modules ds s) bytes (groups_into modules (drop i ds) h.storage) cur e h.onward (groups-unread modules ds i h.storage cur d e lt is (none h.storage h.filled))
