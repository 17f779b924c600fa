-- What a ledger holds, and the machine's state that it stands for.
--   LedgerView, empty_view                   what a ledger holds, with values as words, and what it held when each open block was begun
--   HeldView, held_of view                   what a block that is begun now goes back to
--   state_of view                            the machine's ledger that it stands for (why: decision 15)
--   view_of published stored tallies runs    what a ledger with these parts holds
--   IsSmall runs t                           a tally is no more than so many runs can have made
--   AreScarce modules tallies                each module has the tallies of its scarce structs, in order
--   EachTallyIsScarce                        therefore each tally is of a scarce struct
--   AreSized published                       texts and certificates are within the limits of a bundle
--   PublishedView, none_published            what `Published` holds: modules, and the tallies of each, now and at the marks of open blocks
--   HeldModules, held_now view               what a block that is begun now goes back to
--   CanCount count view                      a run of so many entries can be added
--   IsTalliedStore modules tallies           what holds of these between calls
--   IsLedger published stored tallies runs   what holds of a ledger's parts between calls
-- The others are parts of these.
use Rattle.std.specs.Prelude.{◌≡◌, ℕ, ◌+◌, ◌*◌, ◌≤◌, List, [], ◌∷◌, map, length, All, IsTrue, true, ◌⊎◌}
use Rattle.std.specs.List.{filter, list_all, enumerate_from}
use Rattle.mv_move_types.specs.Limits.{most_modules, most_runs, most_steps}
use Rattle.mv_move_types.specs.Module.{Module}
use Rattle.mv_move_types.specs.Published.{PublishedModule}
use Rattle.mv_machine.specs.Flat.{FlatEntry, storage_of}
use Rattle.mv_machine.specs.Lines.{Tallied}
use Rattle.mv_machine.specs.Ledger.{LedgerState}
use Rattle.mv_link_rules.specs.Link.{IsStore, tables_in}
use Rattle.mv_move_types.specs.Scarce.{is_scarce_struct, is_scarce_in}
pub use Rattle.mv_soundness.specs.Words.{IsFineWords}
use Rattle.mv_machine.specs.Tallies.{all_of, tallied}
use Rattle.mv_machine.specs.declared.Tally.{Tally}
use Rattle.mv_ledger_state.specs.RecordText.{offer_fits}
use Rattle.mv_ledger_state.specs.Publishing.{offered}
use Rattle.mv_ledger_state.specs.Accepted.SoundLedger.{IsSoundLedger}

-- what a ledger held when a block was begun: the published modules, the stored values as their words, the tallies, and the runs had
pub record HeldView : Type 0 where
  pub published : List PublishedModule
  pub stored : List FlatEntry
  pub tallies : List Tallied
  pub runs : ℕ

-- the published modules, the stored values as their words, the tallies, and the runs had, now and when each open block was begun, the
-- oldest first
pub record LedgerView : Type 0 where
  pub published : List PublishedModule
  pub stored : List FlatEntry
  pub tallies : List Tallied
  pub runs : ℕ
  pub marks : List HeldView

-- nothing published, stored or run
abbrev pub empty_view : LedgerView
empty_view = record { published = []; stored = []; tallies = []; runs = 0; marks = [] }

-- what a block that is begun now goes back to
abbrev pub held_of : LedgerView → HeldView
held_of v = record { published = v.published; stored = v.stored; tallies = v.tallies; runs = v.runs }

-- the state of the machine's ledger
abbrev pub state_of : LedgerView → LedgerState
state_of v = record {
  published = v.published;
  storage = storage_of (map (λ p. p.tables) v.published) v.stored;
  tallies = v.tallies;
  runs = v.runs;
}

-- the tallies of the modules at this place and on are each with the module of its place
abbrev pub ArePlaced : ℕ → List (List Tally) → Type 0
ArePlaced place [] = Unit {0}
ArePlaced place (ts ∷ tss) = All (λ t. t.place ≡ place) ts × ArePlaced (place + 1) tss

-- the indices, ascending, of a module's structs with neither copy nor drop
abbrev pub scarce_indices : Module → List ℕ
scarce_indices m = map (λ p. p.0) (filter (λ p. is_scarce_struct m p.1) (enumerate_from 0 m.structs))

-- what a ledger with these parts holds, with no open block
abbrev pub view_of : List PublishedModule → List FlatEntry → List Tally → ℕ → LedgerView
view_of published stored tallies runs =
    record { published = published; stored = stored; tallies = map (tallied (tables_in published)) tallies; runs = runs; marks = [] }

-- in so many runs, each of at most 10,000,000 steps, no step made or took apart more than one value of the struct
abbrev pub IsSmall : ℕ → Tally → Type 0
IsSmall runs t = (t.packs ≤ runs * most_steps) × (t.unpacks ≤ runs * most_steps)

-- each module's list has the tallies of its structs with neither copy nor drop, in order
abbrev pub AreScarce : List Module → List (List Tally) → Type 0
AreScarce [] [] = Unit {0}
AreScarce [] (ts ∷ tss) = ⊥
AreScarce (m ∷ ms) [] = ⊥
AreScarce (m ∷ ms) (ts ∷ tss) = (map (λ t. t.index) ts ≡ scarce_indices m) × AreScarce ms tss

-- So each tally of modules, which stand by their places, is of a struct with neither copy nor drop.
abbrev pub EachTallyIsScarce : Type 0
EachTallyIsScarce =
    (modules : List Module) (tallies : List (List Tally)) → AreScarce modules tallies → ArePlaced 0 tallies
    → All (λ t. is_scarce_in modules t.place t.index ≡ true) (all_of tallies)

-- the texts and the certificates that modules came in are bytes, and no longer than those of a bundle
abbrev pub AreSized : List PublishedModule → Type 0
AreSized published = IsTrue (list_all offer_fits (map offered published))

-- the published modules, and the tallies of each, as they were when a block was begun
pub record HeldModules : Type 0 where
  pub modules : List PublishedModule
  pub tallies : List (List Tally)

-- The published modules, and the tallies of each, now and when each open block was begun, the oldest first; and for how many entries of
-- a run room was taken.
pub record PublishedView : Type 0 where
  pub modules : List PublishedModule
  pub tallies : List (List Tally)
  pub marks : List HeldModules
  pub room : ℕ

-- nothing published
abbrev pub none_published : PublishedView
none_published = record { modules = []; tallies = []; marks = []; room = 0 }

-- what a block that is begun now goes back to
abbrev pub held_now : PublishedView → HeldModules
held_now v = record { modules = v.modules; tallies = v.tallies }

-- a run of so many entries can be added: no block is open, or there is room
abbrev pub CanCount : ℕ → PublishedView → Type 0
CanCount count v = (v.marks ≡ []) ⊎ (count ≤ v.room)

-- Modules are a store and no more than a ledger has, and each has the tallies of its structs with neither copy nor drop.
pub record IsTalliedStore (modules : List PublishedModule) (tallies : List (List Tally)) : Type 0 where
  pub few : length modules ≤ most_modules
  pub store : IsStore modules
  pub placed : ArePlaced 0 tallies
  pub scarce : AreScarce (tables_in modules) tallies

-- The texts of a ledger's modules and its runs are within their limits, each stored value is one of its key's struct, each tally
-- is in its range, and the machine's ledger that it stands for is sound.
pub record IsLedger (published : List PublishedModule) (stored : List FlatEntry) (tallies : List Tally) (runs : ℕ) : Type 0 where
  pub sized : AreSized published
  pub fine : All (IsFineWords (tables_in published)) stored
  pub small : All (IsSmall runs) tallies
  pub counted : runs ≤ most_runs
  pub sound : IsSoundLedger (state_of (view_of published stored tallies runs))
