-- No run of a sound ledger meets a fault, and each answered record leaves it sound.
use Rattle.mv_ledger_state.proofs.Common.{◌≡◌, Err, IsTrue, List, Ok, Option, Result, Some, refl, subst, sym, ℕ, PublishedModule, with_modules, IsReadByText, address_fits, WhereSome, Answers, Audit, Bad}
use Rattle.mv_ledger_state.proofs.Common.{BadRun, LedgerState, Offer, Publish, Request, Run, RunRequest, Show, admitted, attempted, empty_ledger, modules_of, applied, with_bundle, with_returned}
use Rattle.mv_ledger_state.proofs.Common.{with_run, Published, Refused, Reply, AtReturn, Aborted, Exhausted, Faulted, FunctionCall, Returned, RunOutcome, run, Event}
use Rattle.mv_ledger_state.proofs.Common.{Storage, is_fine_storage, IsStore, tables_in, runs_faultless, Ranged, admitted_typed, fine_storage, typed_is_fine, StorageTyped, IsVetted, IsSoundLedger}
use Rattle.mv_ledger_state.proofs.Common.{Conserves, IsFineStorage, IsPublished, Spells}
use Rattle.mv_linker.proofs.Joining.Empty.{no_modules}
use Rattle.mv_soundness.specs.Typing.Outcome.{Faultless}
use Rattle.mv_ledger_state.proofs.Bundles.Heirs.{Inherits, inherited}
use Rattle.mv_ledger_state.proofs.Bundles.Staying.{storage-stays}
use Rattle.mv_ledger_state.proofs.Counting.Admitted.{admitted-entry}
use Rattle.mv_ledger_state.proofs.Counting.Declared.{declared-stays}
use Rattle.mv_ledger_state.proofs.Counting.Conserved.{run-conserves}
use Rattle.mv_ledger_state.proofs.Counting.Tallied.{AreBalanced, returned-balanced, bundle-balanced}
use Rattle.mv_ledger_state.proofs.Counting.Typed.{fine-kept}
use Rattle.mv_ledger_state.proofs.Spelling.{OffersAreBytes}
use Rattle.mv_ledger_state.proofs.Accepted.Stores.{accepted_store, able_store, published_store}

-- nothing published, stored or run
pub empty_sound : IsSoundLedger empty_ledger
empty_sound = record { store = no_modules; typed = tt; ascending = tt; tallied = refl; balanced = tt }

-- what a sound ledger stores is what the ledger calls fine
pub sound_stored : (s : LedgerState) → IsSoundLedger s → IsTrue (is_fine_storage (modules_of s) s.storage)
sound_stored s sound = typed_is_fine (modules_of s) (accepted_store s.published sound.store) s.storage sound.typed

-- so a run may begin with it
pub sound_fine : (s : LedgerState) → IsSoundLedger s → IsFineStorage (modules_of s) s.storage
sound_fine s sound = record { kept = fine-kept (modules_of s) (able_store s.published sound.store) s.storage (sound_stored s sound); ascending = sound.ascending }

-- its tallies
sound_balanced : (s : LedgerState) → IsSoundLedger s → AreBalanced (modules_of s) s.storage s.tallies
sound_balanced s sound = record { tallied = sound.tallied; balanced = sound.balanced }

-- ---- a bundle

-- a bundle that is published leaves a sound ledger sound
pub published_sound : (s : LedgerState) (sender : ℕ) (offers : List Offer) (bundle : List PublishedModule) → IsSoundLedger s → IsStore (with_modules s.published bundle)
    → IsPublished s sender offers bundle → IsSoundLedger (with_bundle s bundle)
published_sound s sender offers bundle sound whole published =
    let after : List PublishedModule = with_modules s.published bundle in
    let inherits : Inherits (modules_of s) (tables_in after) = inherited s.published bundle published.1.compatible in
    let are = bundle-balanced (modules_of s) (tables_in after) s.storage s.tallies (sound_fine s sound).kept (sound_balanced s sound) (declared-stays s.published after sound.store whole inherits)
    (able_store after whole) in
    record {
      store = whole;
      typed = fine_storage (tables_in after) (accepted_store after whole) s.storage (storage-stays s.published after sound.store whole inherits s.storage (sound_stored s sound));
      ascending = sound.ascending;
      tallied = are.tallied;
      balanced = are.balanced;
    }

-- ---- a run

-- a run's sender and arguments are in their ranges, as those of each record that is read
pub record RunFits (r : RunRequest) : Type 0 where
  pub sender : IsTrue (address_fits r.sender)
  pub arguments : Ranged r.arguments

-- a run that is admitted meets no fault, and leaves what is stored typed
pub run_faultless : (s : LedgerState) (r : RunRequest) (call : FunctionCall) → IsSoundLedger s → RunFits r → admitted s r ≡ Ok call → Faultless (modules_of s)
    (run (modules_of s) s.storage call r.budget)
run_faultless s r call sound fits e =
    runs_faultless s.published s.storage call r.budget sound.store sound.typed (admitted_typed s r call (accepted_store s.published sound.store) fits.sender fits.arguments e)

-- and conserves what is scarce
run_conserves : (s : LedgerState) (r : RunRequest) (call : FunctionCall) → IsSoundLedger s → admitted s r ≡ Ok call → AtReturn (Conserves (modules_of s) s.storage)
    (run (modules_of s) s.storage call r.budget)
run_conserves s r call sound e = run-conserves (modules_of s) s.storage call r.budget (able_store s.published sound.store) (sound_fine s sound) (admitted-entry s r call e)

-- what a run returns leaves a sound ledger sound
returned_sound : (s : LedgerState) (storage : Storage) (events : List Event) → IsSoundLedger s → StorageTyped (modules_of s) storage → Conserves (modules_of s) s.storage storage events
    → IsSoundLedger (with_returned s storage events)
returned_sound s storage events sound typed conserves =
    let are = returned-balanced (modules_of s) s.storage storage events s.tallies (able_store s.published sound.store) (sound_balanced s sound) conserves in
    record { store = sound.store; typed = typed; ascending = conserves.fine.ascending; tallied = are.tallied; balanced = are.balanced }

-- and so does one run more
ran_sound : (s : LedgerState) → IsSoundLedger s → IsSoundLedger (with_run s)
ran_sound s sound = record { store = sound.store; typed = sound.typed; ascending = sound.ascending; tallied = sound.tallied; balanced = sound.balanced }

-- the ledger after a reply, if there is one, is sound
abbrev LeavesSound : Option (Reply × LedgerState) → Type 0
LeavesSound o = WhereSome (λ (p : Reply × LedgerState). IsSoundLedger p.1) o

applied_sound : (s : LedgerState) (o : RunOutcome) → IsSoundLedger s → Faultless (modules_of s) o → AtReturn (Conserves (modules_of s) s.storage) o → LeavesSound (applied s o)
applied_sound s (Returned steps storage events) sound typed conserves = returned_sound s storage events sound typed conserves
applied_sound s (Aborted kind number steps) sound typed conserves = ran_sound s sound
applied_sound s (Exhausted stop steps) sound typed conserves = ran_sound s sound
applied_sound s (Faulted fault steps) sound typed conserves = tt

-- a run record leaves a sound ledger sound
pub attempted_sound : (s new : LedgerState) (reply : Reply) (r : RunRequest) → IsSoundLedger s → RunFits r → attempted s r.budget (admitted s r) ≡ Some (reply, new) → IsSoundLedger new
attempted_sound s new reply r sound fits e = subst LeavesSound e (by_case (admitted s r) refl)
  where
    by_case : (a : Result FunctionCall ℕ) → admitted s r ≡ a → LeavesSound (attempted s r.budget a)
    by_case (Ok call) is = applied_sound s (run (modules_of s) s.storage call r.budget) sound (run_faultless s r call sound fits is) (run_conserves s r call sound is)
    by_case (Err reason) is = sound

-- ---- each record

-- a request's parts are in their ranges
abbrev pub RequestFits : Request → Type 0
RequestFits (Publish sender offers) = OffersAreBytes offers
RequestFits (Run r) = RunFits r
RequestFits (Show format) = Unit {0}
RequestFits (Audit format) = Unit {0}
RequestFits BadRun = Unit {0}
RequestFits Bad = Unit {0}

pub answered_sound : IsReadByText → (old new : LedgerState) (request : Request) (reply : Reply) → IsSoundLedger old → RequestFits request → Answers Spells old request reply new
    → IsVetted old request reply new → IsSoundLedger new
answered_sound reads old new (Publish sender offers) (Published n) sound fits a v =
    subst IsSoundLedger (sym v.2) (published_sound old sender offers v.0 sound (published_store reads old sender offers v.0 sound.store fits v.1) v.1)
answered_sound reads old new (Publish sender offers) (Refused phase) sound fits a v = subst IsSoundLedger (sym a) sound
answered_sound reads old new (Run r) reply sound fits a v = attempted_sound old new reply r sound fits a
answered_sound reads old new (Show format) reply sound fits a v = subst IsSoundLedger (sym a.1) sound
answered_sound reads old new (Audit format) reply sound fits a v = subst IsSoundLedger (sym a.1) sound
answered_sound reads old new BadRun reply sound fits a v = subst IsSoundLedger (sym a.1) sound
answered_sound reads old new Bad reply sound fits a v = subst IsSoundLedger (sym a.1) sound
answered_sound _ _ _ _ _ _ _ a _ = absurd a
