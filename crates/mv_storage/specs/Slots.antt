-- What the slots of storage show, and which of them a run has changed.
use Rattle.std.specs.Prelude.{ℕ, ◌<◌, List, [], ◌∷◌, Bool, cond, true, false, is_some, ◌≡◌, ◌⊎◌, Option, Some, None, slice_get, slice_index_or}
use Rattle.std.specs.Vec.{with_item, with_items_from}
use Rattle.std.specs.Option.{option_and_then, option_map, option_map_or}
use Rattle.std.specs.List.{list_any}
use Rattle.std.specs.Ordering.{nat_cmp, ordering_then}
use Rattle.std.specs.declared.cmp.Ordering.{Ordering}
use Rattle.std.specs.BTreeMap.{BTreeMap, get, IsOrdered}
use Rattle.mv_move_types.specs.declared.tables.Key.{Key}
use Rattle.mv_machine.specs.State.{same_key}
use Rattle.mv_storage.specs.declared.slot.Slot.{Slot}
use Rattle.mv_storage.specs.declared.slot.Versions.{Versions}
use Rattle.mv_storage.specs.declared.slot.Slot.TheVariants.{Vacant, Gone, Empty, One, Many, AddedOne, AddedMany, Changed}
use Rattle.mv_storage.specs.declared.slot.Layer.{Layer}
use Rattle.mv_storage.specs.declared.slot.Layer.TheVariants.{Committed, Current}
use Rattle.mv_storage.specs.declared.places.Places.{Places}
use Rattle.mv_storage.specs.FlatStorage.{FlatStorage}
use Rattle.mv_storage.specs.WordLists.{laid_over}
use Rattle.mv_storage.specs.Map.{Layers}

-- how two keys compare
abbrev pub key_cmp : Key → Key → Ordering
key_cmp a b = ordering_then (nat_cmp a.address b.address) (ordering_then (nat_cmp a.place b.place) (nat_cmp a.index b.index))

-- one version
abbrev pub version : Layer → Versions → Option (List ℕ)
version Committed v = v.committed
version Current v = v.current

-- a value that only the run sees
abbrev pub added : Layer → List ℕ → Option (List ℕ)
added Committed words = None
added Current words = Some words

-- the value of a slot as a run sees it, or as it was before
abbrev pub of_layer : Layer → Slot → Option (List ℕ)
of_layer layer (Vacant next) = None
of_layer layer Gone = None
of_layer layer Empty = None
of_layer layer (One n) = Some (n ∷ [])
of_layer layer (Many words) = Some words.items
of_layer layer (AddedOne n) = added layer (n ∷ [])
of_layer layer (AddedMany words) = added layer words.items
of_layer layer (Changed versions) = version layer versions.value

-- that of a slot that may be absent
abbrev pub layer_at : Layer → Option Slot → Option (List ℕ)
layer_at layer slot = option_and_then (of_layer layer) slot

-- whether a run has changed it
abbrev pub is_change : Slot → Bool
is_change (Vacant next) = false
is_change Gone = false
is_change Empty = true
is_change (One n) = false
is_change (Many words) = false
is_change (AddedOne n) = true
is_change (AddedMany words) = true
is_change (Changed versions) = true

-- whether a run has changed a slot, which may be absent
abbrev pub is_changed : Option Slot → Bool
is_changed None = false
is_changed (Some s) = is_change s

-- whether it is no key's
abbrev pub is_vacant : Slot → Bool
is_vacant (Vacant next) = true
is_vacant Gone = false
is_vacant Empty = false
is_vacant (One n) = false
is_vacant (Many words) = false
is_vacant (AddedOne n) = false
is_vacant (AddedMany words) = false
is_vacant (Changed versions) = false

-- whether it keeps its place whatever the run makes of it
abbrev pub is_pinned : Slot → Bool
is_pinned (Vacant next) = false
is_pinned Gone = true
is_pinned Empty = false
is_pinned (One n) = true
is_pinned (Many words) = true
is_pinned (AddedOne n) = false
is_pinned (AddedMany words) = false
is_pinned (Changed versions) = true

-- whether it is a key's without a value, which an open block has taken out
abbrev pub is_gone : Slot → Bool
is_gone (Vacant next) = false
is_gone Gone = true
is_gone Empty = false
is_gone (One n) = false
is_gone (Many words) = false
is_gone (AddedOne n) = false
is_gone (AddedMany words) = false
is_gone (Changed versions) = false

-- whether the run has put a value where no key was, and taken it out again
abbrev pub is_empty : Slot → Bool
is_empty (Vacant next) = false
is_empty Gone = false
is_empty Empty = true
is_empty (One n) = false
is_empty (Many words) = false
is_empty (AddedOne n) = false
is_empty (AddedMany words) = false
is_empty (Changed versions) = false

-- a slot stands at the place, and is no key's
abbrev pub IsVacantAt : List Slot → ℕ → Type 0
IsVacantAt slots place = (s : Slot) × (slice_get slots place ≡ Some s) × (is_vacant s ≡ true)

-- a slot stands at the place, and may be a key's
abbrev pub IsUsedAt : List Slot → ℕ → Type 0
IsUsedAt slots place = (s : Slot) × (slice_get slots place ≡ Some s) × (is_vacant s ≡ false)

-- the free place that a slot names, or else this one
abbrev pub next_free : ℕ → Slot → ℕ
next_free free (Vacant next) = next
next_free free Gone = free
next_free free Empty = free
next_free free (One n) = free
next_free free (Many words) = free
next_free free (AddedOne n) = free
next_free free (AddedMany words) = free
next_free free (Changed versions) = free

-- the free place where the slot at a place is used: of a free one, that which was left before it
abbrev pub free_after : Places → ℕ → ℕ
free_after p place = option_map_or (next_free p.free) (slice_get p.slots.items place) p.free

-- the entry of a value that may be absent, before other entries
abbrev pub shown_before : Key → Option (List ℕ) → FlatStorage → FlatStorage
shown_before key None entries = entries
shown_before key (Some words) entries = record { key = key; words = words } ∷ entries

-- the entries that keys with their slots' places show
abbrev pub shown : Layer → List Slot → List (Key × ℕ) → FlatStorage
shown layer slots [] = []
shown layer slots (e ∷ es) = shown_before e.0 (layer_at layer (slice_get slots e.1)) (shown layer slots es)

-- both layers of the slots
abbrev pub layers : Places → Layers
layers p = record { committed = shown Committed p.slots.items p.tree.entries; current = shown Current p.slots.items p.tree.entries; marks = [] }

-- the slot under a key
abbrev pub slot_at : Places → Key → Option Slot
slot_at p key = option_and_then (slice_get p.slots.items) (get key_cmp p.tree key)

-- whether the slot under a key, which may be absent, keeps its place
abbrev pub keeps_place : Option Slot → Bool
keeps_place None = false
keeps_place (Some s) = is_pinned s

-- a key has this place, and keeps it whatever the run makes of its value
abbrev pub IsPinned : Places → Key → ℕ → Type 0
IsPinned p key place = (get key_cmp p.tree key ≡ Some place) × (keeps_place (slot_at p key) ≡ true)

-- each key that keeps its place has it still
abbrev pub KeepsPinned : Places → Places → Type 0
KeepsPinned old new = (q : Key) (place : ℕ) → IsPinned old q place → IsPinned new q place

-- what the slot under a key shows in a layer
abbrev pub value_at : Layer → Places → Key → Option (List ℕ)
value_at layer p key = layer_at layer (slot_at p key)

-- a layer shows at each key what it showed
abbrev pub ShowsSame : Layer → Places → Places → Type 0
ShowsSame layer old new = (q : Key) → value_at layer new q ≡ value_at layer old q

-- a layer shows this value at one key, and at each other what it showed
abbrev pub ShowsAt : Layer → Key → Option (List ℕ) → Places → Places → Type 0
ShowsAt layer key value old new = (q : Key) → value_at layer new q ≡ cond (same_key key q) value (value_at layer old q)

-- the keys ascend, each is one of a struct definition, and each has a place of its own, where a slot in use stands
pub record IsSound (p : Places) : Type 0 where
  pub ordered : IsOrdered key_cmp p.tree
  pub fits : (q : Key) → is_some (get key_cmp p.tree q) ≡ true → q.place < 65536
  pub used : (q : Key) (place : ℕ) → get key_cmp p.tree q ≡ Some place → IsUsedAt p.slots.items place
  pub apart : (q r : Key) (place : ℕ) → get key_cmp p.tree q ≡ Some place → get key_cmp p.tree r ≡ Some place → same_key q r ≡ true

-- each slot that a run has changed is that of a key touched
abbrev pub AreNoted : Places → List (Key × ℕ) → Type 0
AreNoted p touched = (q : Key) → is_changed (slot_at p q) ≡ true → list_any (λ t. same_key q t.0) touched ≡ true

-- each key touched has the place that it is noted with
abbrev pub ArePlaced : BTreeMap Key ℕ → List (Key × ℕ) → Type 0
ArePlaced tree [] = Unit {0}
ArePlaced tree (t ∷ ts) = (get key_cmp tree t.0 ≡ Some t.1) × ArePlaced tree ts

-- each key that is remembered with a place has that place
abbrev pub IsRemembered : BTreeMap Key ℕ → List (Option (Key × ℕ)) → Type 0
IsRemembered tree lines = (i : ℕ) (t : Key × ℕ) → slice_get lines i ≡ Some (Some t) → get key_cmp tree t.0 ≡ Some t.1

-- no key is remembered
abbrev pub IsForgotten : List (Option (Key × ℕ)) → Type 0
IsForgotten lines = (tree : BTreeMap Key ℕ) → IsRemembered tree lines

-- a key's place is remembered, and nothing else but what was
abbrev pub IsNotedDown : Key → ℕ → List (Option (Key × ℕ)) → List (Option (Key × ℕ)) → Type 0
IsNotedDown key place old new = (tree : BTreeMap Key ℕ) → get key_cmp tree key ≡ Some place → IsRemembered tree old → IsRemembered tree new

-- a key has this place, or none by now, and the place is free
abbrev pub IsResolving : Places → Key → ℕ → Type 0
IsResolving p key place = (get key_cmp p.tree key ≡ Some place) ⊎ ((get key_cmp p.tree key ≡ None) × IsVacantAt p.slots.items place)

-- what resolving the slot of one key leaves: the layer shows what it showed, the slot is not a run's change any more, each
-- other key has the slot that it had, and what is left to resolve can be resolved; where the run's changes are given up, keys that
-- keep their places have them still
pub record IsResolvedAt (layer : Layer) (key : Key) (old new : Places) : Type 0 where
  pub sound : IsSound new
  pub same : ShowsSame layer old new
  pub resolved : is_changed (slot_at new key) ≡ false
  pub others : (q : Key) → same_key key q ≡ false → slot_at new q ≡ slot_at old q
  pub resolving : (q : Key) (place : ℕ) → IsResolving old q place → IsResolving new q place
  pub pinned : layer ≡ Committed → KeepsPinned old new

-- no slot is a run's change
abbrev pub AreKept : Places → Type 0
AreKept p = (q : Key) → is_changed (slot_at p q) ≡ false

-- the slots as a run has them
pub record IsTracked (p : Places) (touched : List (Key × ℕ)) : Type 0 where
  pub sound : IsSound p
  pub noted : AreNoted p touched
  pub placed : ArePlaced p.tree touched

-- the slots where no run is at work: none is changed
pub record IsResolved (p : Places) (touched : List (Key × ℕ)) : Type 0 where
  pub sound : IsSound p
  pub kept : (q : Key) → is_changed (slot_at p q) ≡ false
  pub none : touched ≡ []

-- one layer of an overlay's
abbrev pub seen : Layer → Layers → FlatStorage
seen Committed l = l.committed
seen Current l = l.current

-- the run has what it sees to itself
abbrev pub IsOwn : Slot → Type 0
IsOwn s = (is_change s ≡ true) × (is_some (of_layer Current s) ≡ true)

-- the key has this place, and its slot there is the run's own
abbrev pub IsOwnAt : Places → Key → ℕ → Type 0
IsOwnAt p key place = (get key_cmp p.tree key ≡ Some place) × ((s : Slot) × (slice_get p.slots.items place ≡ Some s) × IsOwn s)

-- versions with these words over the run's from a place on
abbrev pub written_versions : Versions → ℕ → List ℕ → Versions
written_versions v from words = record { committed = v.committed; current = option_map (laid_over from words) v.current }

-- a slot with these words over those that are the run's own, from a place on
abbrev pub written_slot : Slot → ℕ → List ℕ → Slot
written_slot (Vacant next) from words = Vacant next
written_slot Gone from words = Gone
written_slot Empty from words = Empty
written_slot (One n) from words = One n
written_slot (Many v) from words = Many v
written_slot (AddedOne n) from words = AddedOne (slice_index_or words 0 n)
written_slot (AddedMany v) from words = AddedMany (with_items_from v from words)
written_slot (Changed b) from words = Changed (record b { value = written_versions b.value from words })

-- places with these words over those of the slot at a place, or over nothing
abbrev pub written_at : Places → Option ℕ → ℕ → List ℕ → Places
written_at p None from words = record { tree = p.tree; slots = p.slots; nothing = with_items_from p.nothing 0 words; free = p.free }
written_at p (Some place) from words =
    option_map_or (λ s. record { tree = p.tree; slots = with_item p.slots place (written_slot s from words); nothing = p.nothing; free = p.free })
    (slice_get p.slots.items place) p
