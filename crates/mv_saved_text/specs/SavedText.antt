-- The texts of a saved ledger, in both forms.
-- First the text of a ledger part by part, in both forms, then what fits in it.
--   Form, form_byte form                      the two forms, and the byte that tells them apart
--   head_text form runs offers                how a text begins: the form, the number of runs, the modules with their certificates
--   tally_text, leaves_text                   a tally, and a value as its leaves
--   stored_text, struct_text                  a stored value in form 1, and the stored values of a struct in form 2
--   storage_text form modules storage         all stored values
--   body_text form s                          what follows the modules: tallies and stored values
--   saved_text form s                         the whole text
--   tally_fits form t, HeadFits runs offers   a tally, and how a text begins, are within their limits
--   IsSavedText form bytes s                  the bytes are the text of this ledger
-- The others are parts of these.
use Rattle.std.specs.Prelude.{◌≡◌, ℕ, ◌*◌, ◌^◌, ◌<◌, ◌≤◌, ◌-◌, Bool, ◌&&◌, ◌==◌, nat_le, IsTrue, All, List, [], ◌∷◌, ◌++◌, map, flat_map, length}
use Rattle.std.specs.List.{list_all, filter, enumerate_from}
use Rattle.std.specs.Int.{w128, to_le_bytes}
use Rattle.mv_uleb.specs.Uleb.{uleb}
use Rattle.mv_move_types.specs.Limits.{most_modules, most_runs, most_steps}
use Rattle.mv_move_types.specs.declared.tables.Definition.{Definition}
use Rattle.mv_move_types.specs.Module.{Module}
use Rattle.mv_module_text.specs.Entries.{address_text, counted}
use Rattle.mv_machine.specs.Value.{Value, Leaf, Struct, Ref, Values, NoMore, More}
use Rattle.mv_machine.specs.State.{Entry, Storage}
use Rattle.mv_machine.specs.Lines.{Tallied}
use Rattle.mv_machine.specs.Typed.{is_fine_storage}
use Rattle.mv_machine.specs.Ledger.{Offer, LedgerState, modules_of, scarce_structs}
use Rattle.mv_ledger_state.specs.RecordText.{leaf_bytes, offer_text, offer_fits}
use Rattle.mv_ledger_state.specs.Publishing.{Spells, offered}
use Rattle.mv_ledger_state.specs.Counting.Kept.{IsAscending}
use Rattle.mv_interface.specs.Shapes.{has_key}

-- the forms of a saved ledger
pub data Form : Type 0 where
  First : Form
  Second : Form

-- the byte that tells the forms apart: the digit 1 or 2
abbrev pub form_byte : Form → ℕ
form_byte First = 0x31
form_byte Second = 0x32

-- how a text begins: the form, the runs had, and the modules with their certificates as in a publish record
abbrev pub head_text : Form → ℕ → List Offer → List ℕ
head_text form runs offers = 0x4D ∷ 0x56 ∷ 0x4C ∷ form_byte form ∷ uleb runs ++ counted offer_text offers

-- what was made and what was taken apart: of 16 bytes each, or as short as they can be
abbrev pub tally_text : Form → Tallied → List ℕ
tally_text First t = to_le_bytes w128 t.packs ++ to_le_bytes w128 t.unpacks
tally_text Second t = uleb t.packs ++ uleb t.unpacks

-- a value as its leaves in order, coded as arguments without tokens
abbrev mutual
  pub leaves_text : Value → List ℕ
  leaves_text (Leaf kind n) = leaf_bytes kind n
  leaves_text (Struct name fields) = leaves_of_fields fields
  leaves_text (Ref r) = []

  pub leaves_of_fields : Values → List ℕ
  leaves_of_fields NoMore = []
  leaves_of_fields (More v vs) = leaves_text v ++ leaves_of_fields vs

-- a stored value: its address, its struct and its leaves
abbrev pub stored_text : Entry → List ℕ
stored_text e = address_text e.key.address ++ uleb e.key.place ++ uleb e.key.index ++ leaves_text e.value

-- a stored value where its struct is known
abbrev pub addressed_text : Entry → List ℕ
addressed_text e = address_text e.key.address ++ leaves_text e.value

-- the indices, ascending, of a module's structs with key
abbrev pub keyed_indices : Module → List ℕ
keyed_indices m = map (λ p. p.0) (filter (λ p. has_key m p.1) (enumerate_from 0 m.structs))

-- the structs with key of the modules from this place on, by place and index
abbrev pub keyed_from : ℕ → List Module → List Definition
keyed_from place modules = flat_map (λ p. map (λ i. record { place = p.0; index = i }) (keyed_indices p.1)) (enumerate_from place modules)

-- whether a value is stored under a key of the struct
abbrev pub is_under : Definition → Entry → Bool
is_under d e = (e.key.place == d.place) && (e.key.index == d.index)

-- the values that are stored of one struct, after their number, by ascending address
abbrev pub struct_text : Storage → Definition → List ℕ
struct_text storage d = counted addressed_text (filter (is_under d) storage)

-- all stored values: by ascending key, or struct by struct
abbrev pub storage_text : Form → List Module → Storage → List ℕ
storage_text First modules storage = counted stored_text storage
storage_text Second modules storage = flat_map (struct_text storage) (keyed_from 0 modules)

-- what follows the modules
abbrev pub body_text : Form → LedgerState → List ℕ
body_text form s = flat_map (tally_text form) s.tallies ++ storage_text form (modules_of s) s.storage

-- the text of a ledger in a form
abbrev pub saved_text : Form → LedgerState → List ℕ
saved_text form s = head_text form s.runs (map offered s.published) ++ body_text form s

-- the greatest count that a form can write: what 16 bytes can say, or as many as the most runs make in the most steps of each
abbrev pub greatest_count : Form → ℕ
greatest_count First = 2 ^ 128 - 1
greatest_count Second = most_steps * most_runs

-- whether a tally can be written
abbrev pub tally_fits : Form → Tallied → Bool
tally_fits form t = nat_le t.packs (greatest_count form) && nat_le t.unpacks (greatest_count form)

-- what the number of stored values lies below, so that ten bytes can say it
abbrev pub stored_limit : ℕ
stored_limit = 2 ^ 64

-- the number of runs and the modules are within their limits
pub record HeadFits (runs : ℕ) (offers : List Offer) : Type 0 where
  pub had : runs ≤ most_runs
  pub few : length offers ≤ most_modules
  pub sized : IsTrue (list_all offer_fits offers)

-- The bytes are the text of a ledger in a form: its parts are within their limits, its modules are those that their texts
-- spell, each struct with neither copy nor drop has its tally, in order, and each stored value is one of its key's struct,
-- which has key, by strictly ascending key.
pub record IsSavedText (form : Form) (bytes : List ℕ) (s : LedgerState) : Type 0 where
  pub text : bytes ≡ saved_text form s
  pub head : HeadFits s.runs (map offered s.published)
  pub spelled : All (λ p. Spells p.text p.tables) s.published
  pub tallied : map (λ t. t.struct) s.tallies ≡ scarce_structs (modules_of s)
  pub counts : IsTrue (list_all (tally_fits form) s.tallies)
  pub ascending : IsAscending s.storage
  pub typed : IsTrue (is_fine_storage (modules_of s) s.storage)
  pub few : length s.storage < stored_limit
