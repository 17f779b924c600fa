-- What a run that is asked for comes to.
use Rattle.std.specs.Prelude.{◌≡◌, ℕ, ◌+◌, List, All, Result, Ok, Err, Option, Some, None, ⊤}
use Rattle.mv_move_types.specs.Published.{PublishedModule}
use Rattle.mv_machine.specs.Flat.{FlatEntry, storage_of}
use Rattle.mv_machine.specs.Run.{FunctionCall, RunOutcome, run}
use Rattle.mv_machine.specs.Lines.{Reply as Told}
use Rattle.mv_machine.specs.Ledger.{LedgerState, RunRequest, applied, admitted}
use Rattle.mv_link_rules.specs.Link.{tables_in}
use Rattle.mv_machine.specs.declared.StructTally.{StructTally}
use Rattle.mv_storage.specs.Map.{Layers}
use Rattle.mv_interpreter.specs.Runs.{Agrees, IsCall, call_of}
use Rattle.mv_ledger.specs.declared.executing.Call.{Call}
use Rattle.mv_ledger.specs.declared.executing.Barred.{Barred}
use Rattle.mv_ledger.specs.declared.executing.Barred.TheVariants.{Rejected, Memory}
use Rattle.mv_machine.specs.declared.Outcome.{Outcome}
use Rattle.mv_machine.specs.declared.Tally.{Tally}
use Rattle.mv_ledger_state.specs.View.{IsFineWords, state_of, view_of}

-- the call that is admitted is the machine's, and the reason against one; want of memory stands for neither
abbrev pub IsAdmission : ℕ → Result FunctionCall ℕ → Result Call Barred → Type 0
IsAdmission budget (Ok call) (Ok c) = (call_of c.function c.arguments.items ≡ call) × (c.budget ≡ budget)
IsAdmission budget (Ok call) (Err (Rejected reason)) = ⊥
IsAdmission budget (Err reason) (Ok c) = ⊥
IsAdmission budget (Err reason) (Err (Rejected own)) = own ≡ reason
IsAdmission budget _ (Err Memory) = ⊤

-- the admission of a run to a ledger with these modules and so many runs, whatever else it holds
abbrev pub IsAdmitted : List PublishedModule → ℕ → RunRequest → Result Call Barred → Type 0
IsAdmitted published runs r result =
    (s : LedgerState) → s.published ≡ published → s.runs ≡ runs → IsAdmission r.budget (admitted s r) result

-- the call is of a function of these modules, with arguments of its types
abbrev pub IsCallTo : List PublishedModule → Call → Type 0
IsCallTo published call = IsCall (tables_in published) call.function call.arguments.items

-- each entry has the words of a value of its struct
abbrev pub AreFine : List PublishedModule → List FlatEntry → Type 0
AreFine published stored = All (IsFineWords (tables_in published)) stored

-- the machine's run of a call
abbrev pub run_of : List PublishedModule → List FlatEntry → Call → RunOutcome
run_of published stored call =
    run (tables_in published) (storage_of (tables_in published) stored) (call_of call.function call.arguments.items) call.budget

-- outcome and tally of a call over this storage, and the entries that it has afterwards, are those of the machine's run
abbrev pub IsRunOf : List PublishedModule → Layers → Call → Outcome → List StructTally → List FlatEntry → Type 0
IsRunOf published storage call outcome tally stored =
    Agrees (tables_in published) (run_of published storage.committed call) outcome tally
    (record { committed = storage.committed; current = stored; marks = storage.marks })

-- what a call changed, and what was told of it, is what the machine's run asks for; nothing is asked where memory ran out
abbrev pub IsApplied : List PublishedModule → Call → Option Told → List FlatEntry → List FlatEntry → List Tally → List Tally → Type 0
IsApplied published call None stored new before after = ⊤
IsApplied published call (Some reply) stored new before after =
    (runs : ℕ) → applied (state_of (view_of published stored before runs)) (run_of published stored call)
    ≡ Some (reply, state_of (view_of published new after (runs + 1)))
