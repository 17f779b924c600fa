-- Stored values that are read one after the other, and become storage once all of them are read.
--   Fills into old bytes new rest   storage of the old entries becomes that of the new ones by what is read
--   IsUnfilled into old bytes e     nothing is read into storage of the old entries
use Rattle.std.specs.Prelude.{◌≡◌, ℕ, List, Some}
use Rattle.mv_module_text.specs.Parsing.{Read}
use Rattle.mv_storage.specs.FlatStorage.{FlatStorage}
use Rattle.mv_storage.specs.Filling.{IsFilled}
use Rattle.mv_ledger_state.specs.Unread.{IsUnread}
use Rattle.mv_ledger_state.specs.declared.unread.Unread.{Unread}

-- where storage is filled with the old entries, what is read into it leaves it filled with the new ones
abbrev pub Fills : (FlatStorage → List ℕ → Read FlatStorage) → FlatStorage → List ℕ → FlatStorage → List ℕ → Type 0
Fills into old bytes new rest = (s : FlatStorage) → IsFilled old s → (t : FlatStorage) × IsFilled new t × (into s bytes ≡ Some (t, rest))

-- why nothing is read into storage that is filled with the old entries
abbrev pub IsUnfilled : (FlatStorage → List ℕ → Read FlatStorage) → FlatStorage → List ℕ → Unread → Type 0
IsUnfilled into old bytes e = (s : FlatStorage) → IsFilled old s → IsUnread (into s) bytes e
