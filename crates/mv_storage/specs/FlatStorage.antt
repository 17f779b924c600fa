-- The storage as words: the leaves of each stored value, in order.
use Rattle.std.specs.Prelude.{ℕ, cond, List, [], ◌∷◌, Option, Some, None}
use Rattle.mv_move_types.specs.declared.tables.Key.{Key}
use Rattle.mv_machine.specs.State.{key_before, same_key}
pub use Rattle.mv_machine.specs.Flat.{FlatEntry}

-- the entries by ascending key
abbrev pub FlatStorage : Type 0
FlatStorage = List FlatEntry

-- the words under a key
abbrev pub words_under : FlatStorage → Key → Option (List ℕ)
words_under [] key = None
words_under (e ∷ es) key = cond (same_key e.key key) (Some e.words) (words_under es key)

-- the storage with these words under the key
abbrev pub with_words : FlatStorage → Key → List ℕ → FlatStorage
with_words [] key words = record { key = key; words = words } ∷ []
with_words (e ∷ es) key words =
    cond (same_key e.key key) (record { key = key; words = words } ∷ es)
    (cond (key_before key e.key) (record { key = key; words = words } ∷ e ∷ es) (e ∷ with_words es key words))

-- the storage with nothing under the key
abbrev pub without_words : FlatStorage → Key → FlatStorage
without_words [] key = []
without_words (e ∷ es) key = cond (same_key e.key key) es (e ∷ without_words es key)
