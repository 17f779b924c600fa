-- Values as words, and which words are those of typed values.
--   flat_entry e                   a stored value as words
--   AreTypedWords modules words    words are those of the storage that is read from them, which is typed
--   IsFineWords modules e          words are those of a value of their key's struct
use Rattle.std.specs.Prelude.{◌≡◌, List, [], IsTrue}
use Rattle.mv_move_types.specs.Module.{Module}
use Rattle.mv_machine.specs.Value.{Value}
use Rattle.mv_machine.specs.State.{Entry}
use Rattle.mv_machine.specs.Flat.{FlatEntry, flat, flat_storage, storage_of}
use Rattle.mv_machine.specs.Typed.{is_fine_entry}
use Rattle.mv_storage.specs.FlatStorage.{FlatStorage}
use Rattle.mv_soundness.specs.Typing.StateTyped.{StorageTyped}

-- a stored value as words
abbrev pub flat_entry : Entry → FlatEntry
flat_entry e = record { key = e.key; words = flat e.value }

-- words that are those of the storage that is read from them, which is typed
pub record AreTypedWords (modules : List Module) (words : FlatStorage) : Type 0 where
  pub typed : StorageTyped modules (storage_of modules words)
  pub whole : flat_storage (storage_of modules words) ≡ words

-- the words are those of a value of the key's struct
abbrev pub IsFineWords : List Module → FlatEntry → Type 0
IsFineWords modules e =
    (v : Value) × ((flat v ≡ e.words) × IsTrue (is_fine_entry modules (record { key = e.key; value = v })))
