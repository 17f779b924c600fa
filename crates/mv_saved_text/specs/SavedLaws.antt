-- Laws of saved ledgers.
--   IsSavable s                                  the ledger is within the limits of a saved one
--   EachLedgerHasOneText, EachTextHasOneLedger   a ledger has one text of each form, and a text is of one ledger
--   EachSaveIsLoaded                             what is saved of a sound ledger within its limits is loaded as that ledger
--   EachLoadIsSound                              what is loaded, from any bytes, is sound: all that is promised of ledgers holds of it
--   EachLoadIsOne                                bytes are loaded as one ledger at most
--   EachLoadIsSaved, EachSecondFormComesBack     what was loaded is saved and loaded as the same; from form 2, saved as the same bytes
--   NoLoadFails                                  bytes that are loaded have no reason against them
--   NoSaveIsRefused s                            what is saved of the ledger is refused for want of memory alone
use Rattle.std.specs.Prelude.{◌≡◌, ℕ, ◌*◌, ◌<◌, ◌≤◌, List, map, length}
use Rattle.std.specs.List.{AllByRecursion}
use Rattle.mv_move_types.specs.Limits.{most_steps}
use Rattle.mv_machine.specs.Ledger.{LedgerState}
use Rattle.mv_saved_text.specs.SavedText.{Form, Second, saved_text, HeadFits, IsSavedText, stored_limit}
use Rattle.mv_ledger_state.specs.Publishing.{AllPass, offered}
use Rattle.mv_ledger_state.specs.Accepted.SoundLedger.{IsSoundLedger}
use Rattle.mv_saved_text.specs.Loading.{IsLoaded, FailsLoad, IsLoadRefusal}
use Rattle.mv_saved_text.specs.declared.loading.LoadError.{LoadError}
use Rattle.mv_saved_text.specs.declared.loading.LoadError.TheVariants.{Memory}

-- a ledger's parts are within the limits of a saved one, and its modules passed with the texts that they came in
pub record IsSavable (s : LedgerState) : Type 0 where
  pub head : HeadFits s.runs (map offered s.published)
  pub passed : AllPass (map offered s.published) s.published
  pub packs : AllByRecursion (λ t. t.packs ≤ most_steps * s.runs) s.tallies
  pub few : length s.storage < stored_limit

-- a ledger has one text of each form
abbrev pub EachLedgerHasOneText : Type 0
EachLedgerHasOneText = (form : Form) (a b : List ℕ) (s : LedgerState) → IsSavedText form a s → IsSavedText form b s → a ≡ b

-- and a text is of one ledger
abbrev pub EachTextHasOneLedger : Type 0
EachTextHasOneLedger = (form other : Form) (bytes : List ℕ) (s t : LedgerState) → IsSavedText form bytes s → IsSavedText other bytes t → s ≡ t

-- what is saved of a sound ledger within its limits, in either form, is loaded as that ledger
abbrev pub EachSaveIsLoaded : Type 0
EachSaveIsLoaded = (form : Form) (s : LedgerState) → IsSoundLedger s → IsSavable s → IsLoaded (saved_text form s) s

-- a ledger that is loaded is sound and within its limits: what holds of one that began empty holds of it
abbrev pub EachLoadIsSound : Type 0
EachLoadIsSound = (bytes : List ℕ) (s : LedgerState) → IsLoaded bytes s → IsSoundLedger s × IsSavable s

-- bytes are loaded as one ledger at most
abbrev pub EachLoadIsOne : Type 0
EachLoadIsOne = (bytes : List ℕ) (s t : LedgerState) → IsLoaded bytes s → IsLoaded bytes t → s ≡ t

-- whatever is loaded is, saved again, loaded as what it was: with the same runs, modules, storage, tallies and counts
abbrev pub EachLoadIsSaved : Type 0
EachLoadIsSaved = (bytes : List ℕ) (s : LedgerState) → IsLoaded bytes s → IsLoaded (saved_text Second s) s

-- and if it was of the second form, to its own bytes
abbrev pub EachSecondFormComesBack : Type 0
EachSecondFormComesBack = (bytes : List ℕ) (s t : LedgerState) → IsLoaded bytes s → IsSavedText Second bytes t → saved_text Second s ≡ bytes

-- no bytes that are loaded have a reason against them
abbrev pub NoLoadFails : Type 0
NoLoadFails = (bytes : List ℕ) (number : ℕ) (s : LedgerState) → IsLoaded bytes s → FailsLoad bytes number → ⊥

-- No reason stands against a text of the ledger, in either form: where it is refused, memory ran out.
abbrev pub NoSaveIsRefused : LedgerState → Type 0
NoSaveIsRefused s = (form : Form) (bytes : List ℕ) (error : LoadError) → IsSavedText form bytes s → IsLoadRefusal bytes error → error ≡ Memory
