-- The storage in order, and what a run sees of it.
use Rattle.std.specs.Prelude.{ℕ, Bool, ◌&&◌, nat_lt, cond, List, [], ◌∷◌, true, ◌≡◌}
use Rattle.std.specs.Option.{option_and_then, option_map_or}
use Rattle.mv_move_types.specs.declared.tables.Key.{Key}
use Rattle.mv_machine.specs.State.{key_before}
use Rattle.mv_storage.specs.FlatStorage.{FlatStorage, words_under, with_words}
use Rattle.mv_storage.specs.WordLists.{spliced, laid_over}

-- the key comes before the first entry's
abbrev pub IsBelow : Key → FlatStorage → Type 0
IsBelow key [] = Unit {0}
IsBelow key (e ∷ es) = key_before key e.key ≡ true

-- the keys ascend, and none stands twice
abbrev pub Ascends : FlatStorage → Type 0
Ascends [] = Unit {0}
Ascends (e ∷ es) = IsBelow e.key es × Ascends es

-- the storage with these words in place of as many under a key, if they are there
abbrev pub overwritten : FlatStorage → Key → ℕ → List ℕ → FlatStorage
overwritten storage key from words =
    option_map_or (with_words storage key) (option_and_then (spliced from words) (words_under storage key)) storage

-- what a run sees: the storage as it was before the run, and as it is by now; and what was committed at the beginning of each open
-- block, the oldest first
pub record Layers : Type 0 where
  pub committed : FlatStorage
  pub current : FlatStorage
  pub marks : List FlatStorage

-- the storage with these words over those under a key from a place on, as far as there are so many
abbrev pub written : FlatStorage → Key → ℕ → List ℕ → FlatStorage
written storage key from words = option_map_or (λ old. with_words storage key (laid_over from words old)) (words_under storage key) storage

-- what a run sees once so many words that were lent are these, or the same where none were lent
abbrev pub written_if : Bool → ℕ → Layers → Key → ℕ → List ℕ → Layers
written_if lent width l key from words = cond (lent && nat_lt 0 width) (record l { current = written l.current key from words }) l
