-- What follows the modules in a ledger's text, as a definition of the text, and that `body_from` reads these texts and no others.
use Rattle.std.specs.Prelude.{◌≡◌, ℕ, ◌^◌, ◌<◌, ◌≤◌, IsTrue, List, [], ◌++◌, map, flat_map, length, Some}
use Rattle.std.specs.List.{list_all}
use Rattle.mv_move_types.specs.Module.{Module}
use Rattle.mv_move_types.specs.Published.{PublishedModule}
use Rattle.mv_module_text.specs.Laws.{AreBytes}
use Rattle.mv_machine.specs.Flat.{flat_storage}
use Rattle.mv_machine.specs.Lines.{Tallied}
use Rattle.mv_machine.specs.State.{Storage}
use Rattle.mv_machine.specs.Typed.{is_fine_storage}
use Rattle.mv_storage.specs.FlatStorage.{FlatStorage}
use Rattle.mv_link_rules.specs.Link.{IsStore, tables_in}
use Rattle.mv_ledger_state.specs.Counting.Kept.{IsAscending}
use Rattle.mv_saved_text.specs.SavedText.{Form, tally_text, tally_fits, storage_text}
use Rattle.mv_saved_text.specs.Parts.LoadedParts.{body_from}

-- The bytes are what follows the modules in a ledger's text: the tallies can be written, and each stored value is one of its
-- key's struct, which has key, by strictly ascending key.
pub record IsBody (form : Form) (modules : List Module) (bytes : List ℕ) (tallies : List Tallied) (storage : Storage) : Type 0 where
  pub text : bytes ≡ flat_map (tally_text form) tallies ++ storage_text form modules storage
  pub counts : IsTrue (list_all (tally_fits form) tallies)
  pub ascending : IsAscending storage
  pub typed : IsTrue (is_fine_storage modules storage)
  pub few : length storage < 2 ^ 64

-- what a tally counts
abbrev pub counted_by : Tallied → ℕ × ℕ
counted_by t = (t.packs, t.unpacks)

-- each such text is read
abbrev pub EachBodyIsRead : Type 0
EachBodyIsRead =
    (form : Form) (published : List PublishedModule) (bytes : List ℕ) (tallies : List Tallied) (storage : Storage) → IsStore published → length published ≤ 65536
    → IsBody form (tables_in published) bytes tallies storage
    → body_from form (tables_in published) (length tallies) bytes ≡ Some ((map counted_by tallies, flat_storage storage), [])

-- and what is read is such a text
abbrev pub EachReadIsBody : Type 0
EachReadIsBody =
    (form : Form) (published : List PublishedModule) (bytes : List ℕ) (tallies : List Tallied) (stored : FlatStorage) → IsStore published → AreBytes bytes → length stored < 2 ^ 64
    → body_from form (tables_in published) (length tallies) bytes ≡ Some ((map counted_by tallies, stored), [])
    → (storage : Storage) × ((stored ≡ flat_storage storage) × IsBody form (tables_in published) bytes tallies storage)
