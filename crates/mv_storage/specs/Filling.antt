-- Storage that is made of values all at once.
--   IsFilled entries s        the storage has under each key what came first
--   ArePairs pairs slots      each key stands with the place of its own slot, which holds a committed value
--   AreFilled pairs slots p   the places show under each key what the pairs show first
use Rattle.std.specs.Prelude.{ℕ, ◌<◌, false, List, length, ◌≡◌, Some, slice_get}
use Rattle.std.specs.List.{AllByRecursion}
use Rattle.std.specs.Map.{keys_of}
use Rattle.mv_move_types.specs.declared.tables.Key.{Key}
use Rattle.mv_storage.specs.declared.places.Places.{Places}
use Rattle.mv_storage.specs.declared.slot.Slot.{Slot}
use Rattle.mv_storage.specs.declared.slot.Layer.TheVariants.{Committed}
use Rattle.mv_storage.specs.FlatStorage.{FlatStorage, words_under}
use Rattle.mv_storage.specs.Map.{Ascends}
use Rattle.mv_storage.specs.Slots.{is_vacant, is_change, of_layer, shown, layers, IsSound, AreKept}

-- the storage has under each key the words of the first of these entries with that key
abbrev pub IsFilled : FlatStorage → FlatStorage → Type 0
IsFilled entries storage = Ascends storage × ((k : Key) → words_under storage k ≡ words_under entries k)

-- a committed value that no run has changed
pub record HoldsKept (s : Slot) : Type 0 where
  pub used : is_vacant s ≡ false
  pub kept : is_change s ≡ false
  pub words : List ℕ
  pub value : of_layer Committed s ≡ Some words

-- the pair's place is its own place among the pairs, and a committed value's slot stands there
pub record IsPair (pairs : List (Key × ℕ)) (slots : List Slot) (p : Key × ℕ) : Type 0 where
  pub fits : p.0.place < 65536
  pub own : slice_get (keys_of pairs) p.1 ≡ Some p.0
  pub slot : Slot
  pub at : slice_get slots p.1 ≡ Some slot
  pub held : HoldsKept slot

-- a pair for each slot, in order
pub record ArePairs (pairs : List (Key × ℕ)) (slots : List Slot) : Type 0 where
  pub long : length pairs ≡ length slots
  pub each : AllByRecursion (IsPair pairs slots) pairs

-- places that show under each key what the pairs show first
pub record AreFilled (pairs : List (Key × ℕ)) (slots : List Slot) (p : Places) : Type 0 where
  pub sound : IsSound p
  pub kept : AreKept p
  pub filled : IsFilled (shown Committed slots pairs) (layers p).committed
