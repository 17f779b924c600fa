-- Blocks of storage that can be taken back.
--   back             one committed change taken back
--   contents         what a run sees, and what was committed at the beginning of each open block
--   IsUndoable       each change can be taken back in place, without memory
--   IsDifference     what is told of two storages is the difference of the two, key by key
use Rattle.std.specs.Prelude.{ℕ, ◌≡◌, ◌≤◌, Bool, true, false, List, [], ◌∷◌, length, Option, Some, None}
use Rattle.std.specs.List.{AllByRecursion}
use Rattle.mv_move_types.specs.declared.tables.Key.{Key}
use Rattle.mv_machine.specs.State.{same_key}
use Rattle.mv_undo.specs.Undo.{marks_of, AreMarks}
use Rattle.mv_storage.specs.FlatStorage.{FlatStorage, with_words, without_words}
use Rattle.mv_storage.specs.Map.{Layers}
use Rattle.mv_storage.specs.Slots.{IsPinned, IsResolving, layers}
use Rattle.mv_storage.specs.declared.places.Places.{Places}
use Rattle.mv_storage.specs.declared.blocks.Before.{Before}
use Rattle.mv_storage.specs.declared.blocks.Before.TheVariants.{Absent, Nothing, Held}
use Rattle.mv_storage.specs.declared.blocks.Undone.{Undone}

-- the value before a change
abbrev pub value_before : Before → Option (List ℕ)
value_before Absent = None
value_before Nothing = None
value_before (Held words) = Some words

-- whether the key had no place before a change
abbrev pub is_absent : Before → Bool
is_absent Absent = true
is_absent Nothing = false
is_absent (Held words) = false

-- the storage with these words under the key, or with none
abbrev pub with_value : FlatStorage → Key → Option (List ℕ) → FlatStorage
with_value storage key None = without_words storage key
with_value storage key (Some words) = with_words storage key words

-- one change taken back
abbrev pub back : Undone → FlatStorage → FlatStorage
back change storage = with_value storage change.key (value_before change.before)

-- what a run sees, and what was committed at each mark
abbrev pub contents : Places → List Undone → List ℕ → Layers
contents p changes marks = record (layers p) { marks = marks_of back changes marks (layers p).committed }

-- a key that a change gave its place is in no older change
abbrev pub AreFresh : List Undone → Type 0
AreFresh [] = Unit {0}
AreFresh (u ∷ us) = AllByRecursion (λ w. is_absent w.before ≡ true → same_key w.key u.key ≡ false) us × AreFresh us

-- each key of a change has the place that it is noted with, and keeps it
pub record IsUndoable (p : Places) (changes : List Undone) : Type 0 where
  pub placed : AllByRecursion (λ u. IsPinned p u.key u.place) changes
  pub fresh : AreFresh changes

-- what is noted can be taken back, and what was committed at each mark stays the same
pub record IsNoted (old new : Places) (before after : List Undone) : Type 0 where
  pub undoable : IsUndoable new after
  pub more : length before ≤ length after
  pub marks : (ms : List ℕ) → AreMarks ms (length before) → marks_of back after ms (layers new).committed ≡ marks_of back before ms (layers old).committed

-- each key of a change has the place that it is noted with, or none by now
abbrev pub AreClearing : Places → List Undone → Type 0
AreClearing p [] = Unit {0}
AreClearing p (u ∷ us) = IsResolving p u.key u.place × AreClearing p us
