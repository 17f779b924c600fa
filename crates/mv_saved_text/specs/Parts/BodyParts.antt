-- What stands in the text of a saved ledger after its modules, read from its front.
--   form_of form             the form that is meant
--   counts_of t, struct_of t what a tally counts, and of which struct
--   count_from form          a count of a tally
--   tally_from form          both counts of a tally
--   leaves_from kinds        leaves of these kinds, one after the other
--   entry_from modules of    a stored value, of this struct or of the one that it names
--   rising_into each n       so many stored values by ascending key, put into a storage
--   group_into each          the same after their number
--   groups_into modules ds   those of these structs, struct by struct
--   storage_into modules f   all stored values
use Rattle.std.specs.Prelude.{ℕ, zero, suc, Bool, true, cond, is_some, List, [], ◌∷◌, Option, Some, None}
use Rattle.std.specs.Option.{option_map_or}
use Rattle.std.specs.Bool.{then_some}
use Rattle.mv_uleb.specs.Parsing.{number_from}
use Rattle.mv_move_types.specs.declared.tables.Definition.{Definition}
use Rattle.mv_move_types.specs.declared.tables.Key.{Key}
use Rattle.mv_move_types.specs.declared.token.LeafKind.{LeafKind}
use Rattle.mv_move_types.specs.declared.token.Width.TheVariants.{U128}
use Rattle.mv_move_types.specs.Options.{◌>>=◌}
use Rattle.mv_move_types.specs.Module.{Module}
use Rattle.mv_module_text.specs.Parsing.{Read, index_from, number_of_from, address_from}
use Rattle.mv_machine.specs.State.{key_before}
use Rattle.mv_machine.specs.Flat.{FlatEntry}
use Rattle.mv_storage.specs.FlatStorage.{FlatStorage, words_under, with_words}
use Rattle.mv_saved_text.specs.declared.loading.head.SavedForm.{SavedForm}
use Rattle.mv_saved_text.specs.declared.loading.head.SavedForm.TheVariants.{First as FirstForm, Second as SecondForm}
use Rattle.mv_machine.specs.declared.Tally.{Tally}
use Rattle.mv_saved_text.specs.Layouts.{kinds_under}
use Rattle.mv_ledger_state.specs.Payloads.{leaf_from}
use Rattle.mv_saved_text.specs.SavedText.{Form, First, Second, greatest_count, keyed_from}

-- the form that is meant
abbrev pub form_of : SavedForm → Form
form_of FirstForm = First
form_of SecondForm = Second

-- what a tally counts
abbrev pub counts_of : Tally → ℕ × ℕ
counts_of t = (t.packs, t.unpacks)

-- of which struct
abbrev pub struct_of : Tally → Definition
struct_of t = record { place = t.place; index = t.index }

-- a count of a tally: of 16 bytes, or as short as it can be
abbrev pub count_from : Form → List ℕ → Read ℕ
count_from First bytes = number_of_from U128 bytes
count_from Second bytes = number_from (greatest_count Second) bytes

-- what was made and what was taken apart
abbrev pub tally_from : Form → List ℕ → Read (ℕ × ℕ)
tally_from form bytes = do
  packs ← count_from form bytes
  unpacks ← count_from form packs.1
  Some ((packs.0, unpacks.0), unpacks.1)

-- leaves of these kinds, one after the other
abbrev pub leaves_from : List LeafKind → List ℕ → Read (List ℕ)
leaves_from [] bytes = Some ([], bytes)
leaves_from (kind ∷ kinds) bytes = do
  n ← leaf_from kind bytes
  rest ← leaves_from kinds n.1
  Some (n.0 ∷ rest.0, rest.1)

-- a struct by its module's place and its definition's index, or the one that is known
abbrev pub struct_from : Option Definition → List ℕ → Read Definition
struct_from (Some d) bytes = Some (d, bytes)
struct_from None bytes = do
  place ← index_from bytes
  index ← index_from place.1
  Some (record { place = place.0; index = index.0 }, index.1)

-- a stored value: its address, its struct where it is not known, and its leaves
abbrev pub entry_from : List Module → Option Definition → List ℕ → Read FlatEntry
entry_from modules of bytes = do
  address ← address_from bytes
  d ← struct_from of address.1
  kinds ← kinds_under modules d.0
  words ← leaves_from kinds d.1
  Some (record { key = record { address = address.0; place = d.0.place; index = d.0.index }; words = words.0 }, words.1)

-- whether a key comes after the last one, if there was one
abbrev pub is_after : Option Key → Key → Bool
is_after last key = option_map_or (λ k. key_before k key) last true

-- the storage with an entry, if none is there under its key
abbrev pub with_entry : FlatStorage → FlatEntry → FlatStorage
with_entry storage e = cond (is_some (words_under storage e.key)) storage (with_words storage e.key e.words)

-- so many entries by ascending key, after a last one, put into a storage
abbrev pub rising_into : (List ℕ → Read FlatEntry) → ℕ → Option Key → FlatStorage → List ℕ → Read FlatStorage
rising_into each zero last storage bytes = Some (storage, bytes)
rising_into each (suc n) last storage bytes = do
  e ← each bytes
  rest ← then_some (is_after last e.0.key) e.1
  rising_into each n (Some e.0.key) (with_entry storage e.0) rest

-- entries by ascending key after their number, put into a storage
abbrev pub group_into : (List ℕ → Read FlatEntry) → FlatStorage → List ℕ → Read FlatStorage
group_into each storage bytes = number_from 18446744073709551615 bytes >>= λ n. rising_into each n.0 None storage n.1

-- those of each of these structs
abbrev pub groups_into : List Module → List Definition → FlatStorage → List ℕ → Read FlatStorage
groups_into modules [] storage bytes = Some (storage, bytes)
groups_into modules (d ∷ ds) storage bytes = do
  s ← group_into (entry_from modules (Some d)) storage bytes
  groups_into modules ds s.0 s.1

-- all stored values: by ascending key, or struct by struct
abbrev pub storage_into : List Module → Form → FlatStorage → List ℕ → Read FlatStorage
storage_into modules First storage bytes = group_into (entry_from modules None) storage bytes
storage_into modules Second storage bytes = groups_into modules (keyed_from 0 modules) storage bytes
