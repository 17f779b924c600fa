-- What is told of the difference of two storages, key by key.
--   told               of each key, what it had and what it has, if these differ
--   IsDifference       what is told of two storages is the difference of the two
use Rattle.std.specs.Prelude.{ℕ, suc, ◌≡◌, ◌==◌, ◌&&◌, ◌||◌, cond, Bool, true, false, List, [], ◌∷◌, ◌++◌, map, Option, Some, None, slice_get}
use Rattle.std.specs.Option.{option_and_then}
use Rattle.std.specs.List.{AllByRecursion}
use Rattle.std.specs.List.Sorted.{IsStrictlySortedBy}
use Rattle.mv_move_types.specs.declared.tables.Key.{Key}
use Rattle.mv_machine.specs.State.{same_key}
use Rattle.mv_storage.specs.FlatStorage.{FlatStorage, words_under}
use Rattle.mv_storage.specs.Slots.{key_cmp, value_at}
use Rattle.mv_storage.specs.Blocks.{value_before}
use Rattle.mv_storage.specs.declared.blocks.Undone.{Undone}
use Rattle.mv_storage.specs.declared.places.Places.{Places}
use Rattle.mv_storage.specs.declared.slot.Layer.TheVariants.{Committed}

-- a key with the words that it had and the words that it has, each if there are any
pub record Change : Type 0 where
  pub key : Key
  pub before : Option (List ℕ)
  pub now : Option (List ℕ)

-- whether two lists of words are the same
abbrev pub same_list : List ℕ → List ℕ → Bool
same_list [] [] = true
same_list [] (y ∷ ys) = false
same_list (x ∷ xs) [] = false
same_list (x ∷ xs) (y ∷ ys) = (x == y) && same_list xs ys

-- whether two values are the same, each of which may be absent
abbrev pub same_words : Option (List ℕ) → Option (List ℕ) → Bool
same_words None None = true
same_words None (Some y) = false
same_words (Some x) None = false
same_words (Some x) (Some y) = same_list x y

-- what a key had before the change at a place
abbrev pub before_at : List Undone → ℕ → Option (List ℕ)
before_at changes place = option_and_then (λ u. value_before u.before) (slice_get changes place)

-- the place of the oldest of these changes that is of a key; the first of them has this place
abbrev pub first_at : ℕ → List Undone → Key → Option ℕ
first_at place [] q = None
first_at place (u ∷ us) q = cond (same_key u.key q) (Some place) (first_at (suc place) us q)

-- what is told of one key
abbrev pub told_of : Key → Option (List ℕ) → Option (List ℕ) → List Change
told_of key before now = cond (same_words before now) [] (record { key = key; before = before; now = now } ∷ [])

-- what is told of keys with the places of their oldest changes
abbrev pub told : List Undone → Places → List (Key × ℕ) → List Change
told changes places [] = []
told changes places (e ∷ es) = told_of e.0 (before_at changes e.1) (value_at Committed places e.0) ++ told changes places es

-- whether a key is told of
abbrev pub tells_of : Key → List Change → Bool
tells_of q [] = false
tells_of q (c ∷ cs) = same_key c.key q || tells_of q cs

-- a change is told as it is
pub record IsTold (old new : FlatStorage) (c : Change) : Type 0 where
  pub before : c.before ≡ words_under old c.key
  pub now : c.now ≡ words_under new c.key
  pub differ : same_words c.before c.now ≡ false

-- by ascending key, each key of which the value differs, and none besides
pub record IsDifference (old new : FlatStorage) (cs : List Change) : Type 0 where
  pub ascend : IsStrictlySortedBy key_cmp (map (λ c. c.key) cs)
  pub each : AllByRecursion (IsTold old new) cs
  pub others : (q : Key) → tells_of q cs ≡ false → words_under new q ≡ words_under old q
