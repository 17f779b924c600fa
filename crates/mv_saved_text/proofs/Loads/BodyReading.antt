-- Reading what stands after the modules of a saved ledger: how far it has come.
use Rattle.mv_saved_text.proofs.Common.{[], ◌++◌, ◌+◌, ◌-◌, ◌<◌, ◌∙◌, ◌∷◌, ◌≡◌, List, None, Option, Some, ap, append_assoc, arith, drop, get_or}
use Rattle.mv_saved_text.proofs.Common.{length, map, option_map, refl, suc, sym, take, true, ℕ, map-set_same, drop_more, map-append, take_more_set, slice_set, Module}
use Rattle.mv_saved_text.proofs.Common.{◌>>=◌, Definition, Key, LeafKind, after, Read, FlatStorage, FlatEntry, counts_of, entry_from}
use Rattle.mv_saved_text.proofs.Common.{group_into, groups_into, is_after, leaves_from, rising_into, struct_of, with_entry, leaf_from, Tally}

-- ---- leaves

-- what was read of the first i leaves
pub record LeavesOn (kinds : List LeafKind) (i : ℕ) (start : List ℕ) (words cur : List ℕ) : Type 0 where
  pub goes : leaves_from kinds start ≡ option_map (after words) (leaves_from (drop i kinds) cur)

after-one : (words : List ℕ) (n : ℕ) (o : Read (List ℕ)) → option_map (after words) (o >>= λ xs. Some (n ∷ xs.0, xs.1)) ≡ option_map (after (words ++ n ∷ [])) o
after-one words n None = refl
after-one words n (Some r) = ap (λ z. Some (z, r.1)) (sym (append_assoc words (n ∷ []) r.0))

-- one more is read
pub LeavesOn-next : (kinds : List LeafKind) (i : ℕ) (start words cur next : List ℕ) (k : LeafKind) (n : ℕ) → i < length kinds → k ≡ get_or kinds i k
    → leaf_from k cur ≡ Some (n, next) → LeavesOn kinds i start words cur → LeavesOn kinds (i + 1) start (words ++ n ∷ []) next
LeavesOn-next kinds i start words cur next k n lt is e g =
    let own : leaf_from (get_or kinds i k) cur ≡ Some (n, next) = ap (λ z. leaf_from z cur) (sym is) ∙ e in
    record { goes = g.goes ∙ rw (drop_more kinds i k lt, own) (after-one words n (leaves_from (drop (i + 1) kinds) next)) }

-- ---- tallies

-- a tally whose counts were read is of the struct that it was
pub structs-kept : (ts start : List Tally) (i : ℕ) (t d : Tally) → struct_of t ≡ struct_of (get_or ts i d) → map struct_of ts ≡ map struct_of start
    → map struct_of (slice_set ts i t) ≡ map struct_of start
structs-kept ts start i t d e kept = map-set_same struct_of ts i t d e ∙ kept

-- one more tally's counts
pub counts-more : (ts : List Tally) (i : ℕ) (t : Tally) → i < length ts → map counts_of (take (i + 1) (slice_set ts i t)) ≡ map counts_of (take i ts) ++ counts_of t ∷ []
counts-more ts i t lt = ap (map counts_of) (take_more_set ts i t lt) ∙ map-append counts_of (take i ts) (t ∷ [])

-- ---- stored values

-- what was put into a storage of the first i of n values
pub record RisingOn (each : List ℕ → Read FlatEntry) (n i : ℕ) (before : FlatStorage) (start : List ℕ) (last : Option Key) (storage : FlatStorage) (cur : List ℕ) : Type 0 where
  pub goes : rising_into each n None before start ≡ rising_into each (n - i) last storage cur

-- none yet
pub RisingOn-start : (each : List ℕ → Read FlatEntry) (n : ℕ) (before : FlatStorage) (start : List ℕ) → RisingOn each n 0 before start None before start
RisingOn-start each n before start = let z : n - 0 ≡ n = omega arith in record { goes = ap (λ k. rising_into each k None before start) (sym z) }

-- one more
pub RisingOn-next : (each : List ℕ → Read FlatEntry) (n i : ℕ) (before : FlatStorage) (start : List ℕ) (last : Option Key) (storage : FlatStorage) (cur next : List ℕ) (e : FlatEntry)
    → i < n → each cur ≡ Some (e, next) → is_after last e.key ≡ true → RisingOn each n i before start last storage cur → RisingOn each n (i + 1) before start (Some e.key) (with_entry storage e) next
RisingOn-next each n i before start last storage cur next e lt e_is rises g = let k : n - i ≡ suc (n - (i + 1)) = omega arith in record { goes = g.goes ∙ rw (k, e_is, rises) refl }

-- what was put into a storage of the first i structs' values
pub record GroupsOn (modules : List Module) (ds : List Definition) (i : ℕ) (before : FlatStorage) (start : List ℕ) (storage : FlatStorage) (cur : List ℕ) : Type 0 where
  pub goes : groups_into modules ds before start ≡ groups_into modules (drop i ds) storage cur

-- one more struct's
pub GroupsOn-next : (modules : List Module) (ds : List Definition) (i : ℕ) (before : FlatStorage) (start : List ℕ) (storage more : FlatStorage) (cur next : List ℕ) (d : Definition) → i < length ds
    → d ≡ get_or ds i d
    → group_into (entry_from modules (Some d)) storage cur ≡ Some (more, next) → GroupsOn modules ds i before start storage cur → GroupsOn modules ds (i + 1) before start more next
GroupsOn-next modules ds i before start storage more cur next d lt is e g =
    let own : group_into (entry_from modules (Some (get_or ds i d))) storage cur ≡ Some (more, next) = ap (λ z. group_into (entry_from modules (Some z)) storage cur) (sym is) ∙ e in
    record { goes = g.goes ∙ rw (drop_more ds i d lt, own) refl }
