-- The parts of which the loading of a ledger is made, and how they stand to its text.
--   head_from       how a text begins. read_head reads it
--   BeginsWith      the bytes begin with this head
--   AreNotJoined    why offered modules are none of a ledger. of_offers says it
--   IsOffered       a published module is the one that was offered. is_offered is the test
--   body_from       what follows the modules: the tallies, which read_all reads, and the values, which read_storage does
--   IsNoBody        the bytes are no such thing with nothing after it
--   IsUnreadBody    why they are not; where they are malformed, nor are longer ones
--   unread_as       why bytes are not loaded where a part of them was not read
--   AreCounted      the tallies are those of what is stored. are_tallied is the test
use Rattle.std.specs.Prelude.{◌≡◌, ◌==◌, ℕ, ◌+◌, ◌*◌, ◌≤◌, cond, List, [], ◌++◌, Option, Some, None, ⊤}
use Rattle.std.specs.List.{AllByRecursion}
use Rattle.mv_uleb.specs.Parsing.{number_from}
use Rattle.mv_move_types.specs.Limits.{most_modules, most_runs, most_steps}
use Rattle.mv_move_types.specs.declared.refusal.Refusal.{Refusal}
use Rattle.mv_move_types.specs.declared.refusal.Refusal.TheVariants.{Phase, Memory as NoMemory}
use Rattle.mv_move_types.specs.Options.{◌>>=◌}
use Rattle.mv_move_types.specs.Module.{Module}
use Rattle.mv_move_types.specs.Published.{PublishedModule}
use Rattle.mv_module_text.specs.Laws.{AreBytes}
use Rattle.mv_module_text.specs.Parsing.{Read, byte_from, mark_from, entries_from, counted_from}
use Rattle.mv_machine.specs.Count.{count}
use Rattle.mv_machine.specs.Ledger.{Offer}
use Rattle.mv_machine.specs.Lines.{Tallied}
use Rattle.mv_machine.specs.State.{Storage}
use Rattle.mv_storage.specs.FlatStorage.{FlatStorage}
use Rattle.mv_certificate_rules.specs.Certificate.{Certificate}
use Rattle.mv_saved_text.specs.declared.loading.LoadError.{LoadError}
use Rattle.mv_saved_text.specs.declared.loading.LoadError.TheVariants.{Head as NoHead, Module as NoModule, Link as NoLink}
use Rattle.mv_saved_text.specs.declared.loading.LoadError.TheVariants.{Body as NoBody, Tally as NoTally, Memory}
use Rattle.mv_saved_text.specs.declared.loading.head.Head.{Head}
use Rattle.mv_ledger_state.specs.Asking.{offers_of}
use Rattle.mv_saved_text.specs.Parts.BodyParts.{form_of, tally_from, storage_into}
use Rattle.mv_saved_text.specs.Loading.{AreLinked}
use Rattle.mv_ledger_state.specs.Payloads.{offer_from}
use Rattle.mv_ledger_state.specs.Publishing.{AllPass, FailsAmong, Passes}
use Rattle.mv_ledger_state.specs.declared.unread.Unread.{Unread}
use Rattle.mv_ledger_state.specs.declared.unread.Unread.TheVariants.{Cut, Malformed, Memory as NoRoom}
use Rattle.mv_saved_text.specs.SavedText.{Form, First, Second}

-- why bytes are not loaded where a part of them is refused
abbrev pub reason_of : LoadError → Refusal → LoadError
reason_of reason (Phase phase) = reason
reason_of reason NoMemory = Memory

-- and where a part of them was not read
abbrev pub unread_as : LoadError → Unread → LoadError
unread_as reason Cut = reason
unread_as reason Malformed = reason
unread_as reason NoRoom = Memory

-- ---- the head

-- how a text begins
pub record SavedHead : Type 0 where
  pub form : Form
  pub runs : ℕ
  pub offers : List Offer

-- the form of this byte
abbrev pub form_by : ℕ → List ℕ → Read Form
form_by b bytes = cond (b == 0x31) (Some (First, bytes)) (cond (b == 0x32) (Some (Second, bytes)) None)

-- the form whose byte stands at the front
abbrev pub form_from : List ℕ → Read Form
form_from bytes = byte_from bytes >>= λ b. form_by b.0 b.1

-- the three bytes that each text begins with
abbrev pub marks_from : List ℕ → Option (List ℕ)
marks_from bytes = do
  m ← mark_from 0x4D bytes
  v ← mark_from 0x56 m
  mark_from 0x4C v

-- these bytes, the form, the runs had, and the modules with their certificates
abbrev pub head_from : List ℕ → Read SavedHead
head_from bytes = do
  rest ← marks_from bytes
  form ← form_from rest
  runs ← number_from most_runs form.1
  offers ← counted_from most_modules offer_from runs.1
  Some (record { form = form.0; runs = runs.0; offers = offers.0 }, offers.1)

-- the beginning that was read
abbrev pub head_of : Head → SavedHead
head_of h = record { form = form_of h.form; runs = h.runs; offers = offers_of h.offers.items }

-- the bytes begin with this head, and this is what is left of them
pub record BeginsWith (bytes : List ℕ) (head : SavedHead) (rest : List ℕ) : Type 0 where
  pub are : AreBytes bytes
  pub begins : head_from bytes ≡ Some (head, rest)

-- ---- the modules

-- a published module is the one that was offered, which passes
abbrev pub IsOffered : Offer → PublishedModule → Type 0
IsOffered o p = (p.text ≡ o.text) × (p.certificate ≡ o.certificate) × ((c : Certificate) × Passes o p.tables c)

-- an offer passes phases 2 to 12
abbrev pub IsPassed : Offer → Type 0
IsPassed o = (p : PublishedModule) × IsOffered o p

-- one of the offers fails a phase, or they pass and are not linked
abbrev pub AreNotJoined : List Offer → LoadError → Type 0
AreNotJoined offers NoModule = (phase : ℕ) × FailsAmong offers phase
AreNotJoined offers NoLink = (published : List PublishedModule) × AllPass offers published × ¬ AreLinked published
AreNotJoined offers Memory = ⊤
AreNotJoined offers NoHead = ⊥
AreNotJoined offers NoBody = ⊥
AreNotJoined offers NoTally = ⊥

-- ---- what follows the modules

-- the counts of so many tallies, and what is stored
abbrev pub body_from : Form → List Module → ℕ → List ℕ → Read (List (ℕ × ℕ) × FlatStorage)
body_from form modules count bytes = do
  counts ← entries_from (tally_from form) count bytes
  stored ← storage_into modules form [] counts.1
  Some ((counts.0, stored.0), stored.1)

-- no such thing stands there with nothing after it
abbrev pub IsNoBody : Form → List Module → ℕ → List ℕ → Type 0
IsNoBody form modules count bytes = (body : List (ℕ × ℕ) × FlatStorage) → body_from form modules count bytes ≡ Some (body, []) → ⊥

-- why bytes are not what follows the modules
abbrev pub IsUnreadBody : Form → List Module → ℕ → List ℕ → Unread → Type 0
IsUnreadBody form modules count bytes Cut = IsNoBody form modules count bytes
IsUnreadBody form modules count bytes Malformed = (more : List ℕ) → IsNoBody form modules count (bytes ++ more)
IsUnreadBody form modules count bytes NoRoom = ⊤

-- ---- the tallies against what is stored

-- of each struct no more values were made than so many runs can have made, and as many are stored, at any depth, as were made
-- and not taken apart
abbrev pub AreCounted : ℕ → Storage → List Tallied → Type 0
AreCounted runs storage tallies = AllByRecursion (λ t. (t.packs ≤ most_steps * runs) × (count storage t.struct + t.unpacks ≡ t.packs)) tallies
