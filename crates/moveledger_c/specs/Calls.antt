-- What the calls of C come to, by their status.
-- Each says what a call gives, for each status that it may answer.
--   IsNew status held                                       a new ledger
--   IsLoadedAs bytes status why held                        a ledger that is loaded
--   IsApplied records status before after old new had has   records that are answered; without a ledger nothing is done
--   IsOfHeld Is held status text                            a text of the ledger that is held
--   IsReport, IsReported kind payload held status text      a show or an audit
--   IsProved, IsProvedWithin, IsChecked                     a certificate that is made, so by a limited search, and one that is tested
--   answer_of, phase_of error                               what is answered where none is made
--   IsMigratedAs bytes status why text                      a saved ledger in the current form
-- payload_of is the payload that asks for a report: 0 stands for lines, 1 for JSON.
use Rattle.std.specs.Prelude.{◌≡◌, ℕ, zero, suc, ℤ, List, [], ◌∷◌, Option, Some, None, ◌⊎◌}
use Rattle.mv_machine.specs.Lines.{Told}
use Rattle.mv_ledger.specs.Answering.{Replies}
use Rattle.mv_lines.specs.LinesView.{ended}
use Rattle.mv_saved_text.specs.Loading.{FailsLoad, IsLoaded}
use Rattle.mv_ledger_state.specs.View.{LedgerView, empty_view, state_of}
use Rattle.mv_analyser.specs.declared.ProveError.{ProveError}
use Rattle.mv_analyser.specs.declared.ProveError.TheVariants.{Refused, TooComplex, Memory}
use Rattle.moveledger.specs.Checking.{FailsCheck, IsAccepted}
use Rattle.moveledger.specs.Outcome.{Begun, GoesOn, StopsAfter, StopsAt}
use Rattle.moveledger.specs.Proving.{FailsProof, IsAcceptedBack, IsComplexText, IsProvedBy}
use Rattle.moveledger.specs.Saved.{IsMigrated}
use Rattle.moveledger_c.specs.Statuses.{done, refused, load_refused, too_complex, memory, arguments, too_long}

-- an empty ledger is held, or memory ran out and none is
abbrev pub IsNew : ℤ → Option LedgerView → Type 0
IsNew status held = ((status ≡ done) × (held ≡ Some empty_view)) ⊎ ((status ≡ memory) × (held ≡ None))

-- the ledger that bytes save is held, with no open block; or they are none, for this reason; or memory ran out
abbrev pub IsLoadedAs : List ℕ → ℤ → ℕ → Option LedgerView → Type 0
IsLoadedAs bytes status why held = ((status ≡ done) × (why ≡ 0) × (l : LedgerView) × (held ≡ Some l) × (l.marks ≡ []) × IsLoaded bytes (state_of l))
    ⊎ (((status ≡ load_refused) × FailsLoad bytes why × (held ≡ None)) ⊎ ((status ≡ memory) × (why ≡ 0) × (held ≡ None)))

-- Records that are numbered from before + 1 on are answered, and their lines stand behind what the report had; or memory ran out,
-- and the report is a beginning of theirs. With no ledger nothing is done.
abbrev pub IsApplied : List ℕ → ℤ → (before after : ℕ) → (old new : Option LedgerView) → (had has : List ℕ) → Type 0
IsApplied records status before after None new had has = (status ≡ arguments) × (after ≡ before) × (new ≡ None) × (has ≡ had)
IsApplied records status before after (Some l) new had has = (m : LedgerView) × (new ≡ Some m)
    × (((status ≡ done) × GoesOn before (Some records) (Some had) (Some has) l m after)
    ⊎ ((status ≡ memory) × (left : List ℕ) × StopsAfter (StopsAt Begun) before (Some records) (Some left) (Some had) (Some has) l m after))

-- a text of the ledger that is held is given, or memory ran out; with no ledger nothing is
abbrev pub IsOfHeld : (LedgerView → List ℕ → Type 0) → Option LedgerView → ℤ → List ℕ → Type 0
IsOfHeld Is None status text = (status ≡ arguments) × (text ≡ [])
IsOfHeld Is (Some l) status text = ((status ≡ done) × Is l text) ⊎ ((status ≡ memory) × (text ≡ []))

-- the payload of a show or an audit record in this form: 0, in lines, or 1, in JSON
abbrev pub payload_of : ℕ → Option (List ℕ)
payload_of zero = Some []
payload_of (suc zero) = Some (1 ∷ [])
payload_of (suc (suc n)) = None

-- the lines that answer a record of this kind with this payload
abbrev pub IsReport : ℕ → List ℕ → LedgerView → List ℕ → Type 0
IsReport kind payload l text = (lines : List (List ℕ)) × Replies kind payload (Some (Told lines)) l l × (text ≡ ended lines)

-- the report in this form is given; with a form that there is not nothing is
abbrev pub IsReported : ℕ → Option (List ℕ) → Option LedgerView → ℤ → List ℕ → Type 0
IsReported kind None held status text = (status ≡ arguments) × (text ≡ [])
IsReported kind (Some payload) held status text = IsOfHeld (IsReport kind payload) held status text

-- the text of a certificate is given, with which the module passes; or the phase that refuses it; or the search met its limits; or
-- memory ran out
abbrev pub IsProved : List ℕ → ℤ → ℕ → List ℕ → Type 0
IsProved module' status why text = ((status ≡ done) × (why ≡ 0) × IsProvedBy module' text × IsAcceptedBack module' text)
    ⊎ (((status ≡ refused) × (text ≡ []) × FailsProof module' why)
    ⊎ (((status ≡ too_complex) × (why ≡ 0) × (text ≡ []) × IsComplexText module') ⊎ ((status ≡ memory) × (why ≡ 0) × (text ≡ []))))

-- what is answered where no certificate is made, and the phase that refuses, if one does
abbrev pub answer_of : ProveError → ℤ
answer_of (Refused phase) = refused
answer_of TooComplex = too_complex
answer_of Memory = memory

abbrev pub phase_of : ProveError → ℕ
phase_of (Refused phase) = phase
phase_of TooComplex = 0
phase_of Memory = 0

-- the same of a search whose steps are limited; or they are used up
abbrev pub IsProvedWithin : List ℕ → ℤ → ℕ → List ℕ → Type 0
IsProvedWithin module' status why text = IsProved module' status why text ⊎ ((status ≡ too_long) × (why ≡ 0) × (text ≡ []))

-- the module passes with the certificate of the text; or a phase refuses it; or memory ran out
abbrev pub IsChecked : List ℕ → List ℕ → ℤ → ℕ → Type 0
IsChecked module' text status why = ((status ≡ done) × (why ≡ 0) × IsAccepted module' text)
    ⊎ (((status ≡ refused) × FailsCheck module' text why) ⊎ ((status ≡ memory) × (why ≡ 0)))

-- the text of today of the ledger that bytes save is given; or they are none, for this reason; or memory ran out
abbrev pub IsMigratedAs : List ℕ → ℤ → ℕ → List ℕ → Type 0
IsMigratedAs bytes status why text = ((status ≡ done) × (why ≡ 0) × IsMigrated bytes text)
    ⊎ (((status ≡ load_refused) × FailsLoad bytes why × (text ≡ [])) ⊎ ((status ≡ memory) × (why ≡ 0) × (text ≡ [])))
