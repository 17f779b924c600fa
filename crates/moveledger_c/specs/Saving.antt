-- What the calls of C on a save come to, by their status.
--   IsSaveBegun status held                     a save at its beginning
--   IsNextOf status ledger old new bytes        the next bytes of a ledger's text, and what is left then
use Rattle.std.specs.Prelude.{◌≡◌, ℕ, ℤ, ◌≤◌, List, [], ◌++◌, length, Option, Some, None, ◌⊎◌}
use Rattle.mv_machine.specs.Ledger.{LedgerState}
use Rattle.mv_ledger_state.specs.View.{LedgerView, state_of}
use Rattle.mv_saved_text.specs.Flowing.{SavingView, left_in, new_save}
use Rattle.moveledger_c.specs.Statuses.{done, memory, arguments, absent}

-- a save at its beginning is held, or memory ran out and none is
abbrev pub IsSaveBegun : ℤ → Option SavingView → Type 0
IsSaveBegun status held = ((status ≡ done) × (held ≡ Some new_save)) ⊎ ((status ≡ memory) × (held ≡ None))

-- the next bytes of what is left of a ledger are given; or nothing is left; or memory ran out, and the same is left
abbrev pub IsNext : LedgerState → ℤ → (old new : SavingView) → List ℕ → Type 0
IsNext s status old new bytes = ((status ≡ done) × (left_in old s ≡ bytes ++ left_in new s) × (1 ≤ length bytes) × (length bytes ≤ 65536))
    ⊎ (((status ≡ absent) × (left_in old s ≡ []) × (left_in new s ≡ []) × (bytes ≡ []))
    ⊎ ((status ≡ memory) × (left_in new s ≡ left_in old s) × (bytes ≡ [])))

-- the same of a ledger that is held; with no ledger, or no save, nothing is done
abbrev pub IsNextOf : ℤ → Option LedgerView → (old new : Option SavingView) → List ℕ → Type 0
IsNextOf status None old new bytes = (status ≡ arguments) × (new ≡ old) × (bytes ≡ [])
IsNextOf status (Some l) None new bytes = (status ≡ arguments) × (new ≡ None) × (bytes ≡ [])
IsNextOf status (Some l) (Some v) new bytes = (w : SavingView) × (new ≡ Some w) × IsNext (state_of l) status v w bytes
