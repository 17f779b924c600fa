-- The steps of a save, each of which makes the next bytes.
--   is_end position              whether all is written there
--   rank s position              how far it is from a position to the end
--   Comes s old bytes new        these bytes come next at a position, and then what is left at another
--   IsStored modules stored s    a ledger has these modules, and these values are stored in it
--   values_coded kinds entries   values with leaves of these kinds, each after its address
use Rattle.std.specs.Prelude.{◌≡◌, ℕ, ◌+◌, ◌-◌, ◌*◌, ◌^◌, ◌<◌, Bool, true, false, List, ◌++◌, length}
use Rattle.std.specs.List.{flat_map}
use Rattle.mv_move_types.specs.Module.{Module}
use Rattle.mv_move_types.specs.declared.token.LeafKind.{LeafKind}
use Rattle.mv_module_text.specs.Entries.{address_text}
use Rattle.mv_machine.specs.Flat.{FlatEntry, storage_of}
use Rattle.mv_machine.specs.Ledger.{LedgerState, modules_of}
use Rattle.mv_saved_text.specs.Layouts.{coded}
use Rattle.mv_saved_text.specs.Flowing.{keyed_of, left_of}
use Rattle.mv_saved_text.specs.declared.position.Position.{Position}
use Rattle.mv_saved_text.specs.declared.position.Position.TheVariants.{Head, Modules, Counts, Sections, Values, End}

-- whether all is written at a position
abbrev pub is_end : Position → Bool
is_end End = true
is_end _ = false

-- the ranks of so many structs with key
abbrev pub ranks : ℕ → ℕ
ranks n = n * (2 ^ 128 + 2) + 1

-- how far it is to the end: less with each step
abbrev pub rank : LedgerState → Position → ℕ
rank s Head = ranks (length (keyed_of s)) + length s.published + 3
rank s (Modules place) = ranks (length (keyed_of s)) + (length s.published - place) + 2
rank s Counts = ranks (length (keyed_of s)) + 1
rank s (Sections i) = ranks (length (keyed_of s) - i)
rank s (Values i from) = ranks (length (keyed_of s) - (i + 1)) + (2 ^ 128 - from) + 1
rank s End = 0

-- These bytes come next at a position, and then what is left at another, which is nearer to the end.
pub record Comes (s : LedgerState) (old : Position) (bytes : List ℕ) (new : Position) : Type 0 where
  pub text : left_of old s ≡ bytes ++ left_of new s
  pub nearer : rank s new < rank s old

-- a ledger has these modules, and these values are stored in it
pub record IsStored (modules : List Module) (stored : List FlatEntry) (s : LedgerState) : Type 0 where
  pub modules_are : modules_of s ≡ modules
  pub storage_is : s.storage ≡ storage_of modules stored

-- values with leaves of these kinds, each after its address
abbrev pub values_coded : List LeafKind → List FlatEntry → List ℕ
values_coded kinds = flat_map (λ e. address_text e.key.address ++ coded kinds e.words)
