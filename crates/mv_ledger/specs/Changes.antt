-- What a reply leaves as it was.
use Rattle.std.specs.Prelude.{◌≡◌, ◌+◌, List, Option, Some, None, ⊤}
use Rattle.mv_machine.specs.Flat.{FlatEntry}
use Rattle.mv_machine.specs.Lines.{Reply, Published, Refused, Rejected, RanToEnd, RanToAbort, RanOut, Told}
use Rattle.mv_machine.specs.declared.Tally.{Tally}
use Rattle.mv_ledger_state.specs.View.{LedgerView}

-- nothing changes but the number of runs
abbrev pub with_run_had : LedgerView → LedgerView
with_run_had v = record v { runs = v.runs + 1 }

-- what a reply leaves as it was: a refusal and a rejection leave everything, a bundle what is stored and the runs, and a run
-- that didn't return all but the number of runs; each leaves what was held where open blocks were begun
abbrev pub Leaves : Reply → LedgerView → LedgerView → Type 0
Leaves (Published n) old new = (new.stored ≡ old.stored) × (new.runs ≡ old.runs) × (new.marks ≡ old.marks)
Leaves (Refused phase) old new = new ≡ old
Leaves (Rejected reason) old new = new ≡ old
Leaves (RanToEnd steps) old new = new.marks ≡ old.marks
Leaves (RanToAbort kind n steps) old new = new ≡ with_run_had old
Leaves (RanOut stop steps) old new = new ≡ with_run_had old
Leaves (Told lines) old new = new ≡ old

-- storage and tallies stay
abbrev pub IsKept : List FlatEntry → List FlatEntry → List Tally → List Tally → Type 0
IsKept old new before after = (new ≡ old) × (after ≡ before)

-- what a run with this reply changes: only one that returned changes anything
abbrev pub RunsTo : Option Reply → List FlatEntry → List FlatEntry → List Tally → List Tally → Type 0
RunsTo None old new before after = IsKept old new before after
RunsTo (Some (RanToEnd steps)) old new before after = ⊤
RunsTo (Some (RanToAbort k n steps)) old new before after = IsKept old new before after
RunsTo (Some (RanOut stop steps)) old new before after = IsKept old new before after
RunsTo (Some (Published n)) old new before after = ⊥
RunsTo (Some (Refused phase)) old new before after = ⊥
RunsTo (Some (Rejected reason)) old new before after = ⊥
RunsTo (Some (Told lines)) old new before after = ⊥
