-- What the calls of C on blocks come to, by their status. With no ledger nothing is done.
--   IsBegun status old new        a block is opened
--   IsTakenBack status old new    the newest block is taken back, and closed
--   IsCommitted status old new    the newest block is closed, and what was changed in it is kept
use Rattle.std.specs.Prelude.{◌≡◌, ℤ, [], ◌∷◌, ◌++◌, Option, Some, None, ◌⊎◌}
use Rattle.mv_ledger_state.specs.View.{LedgerView, HeldView, held_of}
use Rattle.mv_ledger.specs.Marks.{marked}
use Rattle.moveledger.specs.Blocks.{begun}
use Rattle.moveledger_c.specs.Statuses.{done, memory, arguments, no_block}

-- a block is opened; or memory ran out, and the ledger is as it was
abbrev pub IsBegun : ℤ → (old new : Option LedgerView) → Type 0
IsBegun status None new = (status ≡ arguments) × (new ≡ None)
IsBegun status (Some l) new = ((status ≡ done) × (new ≡ Some (begun l))) ⊎ ((status ≡ memory) × (new ≡ Some l))

-- the ledger is what it was where the newest block was opened, which is closed; or no block was open
abbrev pub IsTakenBack : ℤ → (old new : Option LedgerView) → Type 0
IsTakenBack status None new = (status ≡ arguments) × (new ≡ None)
IsTakenBack status (Some l) new = ((status ≡ done) × (m : LedgerView) × (new ≡ Some m) × (l.marks ≡ m.marks ++ held_of m ∷ []))
    ⊎ ((status ≡ no_block) × (l.marks ≡ []) × (new ≡ Some l))

-- the ledger is as it is, with the newest block closed; or no block was open
abbrev pub IsCommitted : ℤ → (old new : Option LedgerView) → Type 0
IsCommitted status None new = (status ≡ arguments) × (new ≡ None)
IsCommitted status (Some l) new = ((status ≡ done) × (m : LedgerView) × (h : HeldView) × (new ≡ Some m) × (l ≡ marked m (m.marks ++ h ∷ [])))
    ⊎ ((status ≡ no_block) × (l.marks ≡ []) × (new ≡ Some l))
