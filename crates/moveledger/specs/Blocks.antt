-- What blocks of a ledger promise of the records that are answered in them.
--   begun v                  the ledger, with a block opened
--   EachReportKeepsMarks     what was held where open blocks were begun stays, whatever records are answered
--   EachStopKeepsMarks       also where reading, writing or memory fails
--   EachBlockComesBack       so a block that is taken back gives the ledger as it was
use Rattle.std.specs.Prelude.{◌≡◌, ℕ, List, [], ◌∷◌, ◌++◌, Option}
use Rattle.mv_ledger_state.specs.View.{LedgerView, held_of}
use Rattle.mv_ledger.specs.Marks.{marked}
use Rattle.moveledger.specs.Records.{Record}
use Rattle.moveledger.specs.Headline.{Reports}
use Rattle.moveledger.specs.Outcome.{Begun, StopsAfter, StopsAt}

-- the ledger, with a block opened
abbrev pub begun : LedgerView → LedgerView
begun v = marked v (v.marks ++ held_of v ∷ [])

-- whatever records are answered, what was held where open blocks were begun stays
abbrev pub EachReportKeepsMarks : Type 0
EachReportKeepsMarks = (n : ℕ) (old new : LedgerView) (records : List Record) (text : List ℕ) → Reports n old records text new → new.marks ≡ old.marks

-- also where the answering stopped, as it does where reading, writing or memory fails
abbrev pub EachStopKeepsMarks : Type 0
EachStopKeepsMarks =
    (before : ℕ) (given gives held holds : Option (List ℕ)) (old new : LedgerView) (n : ℕ)
    → StopsAfter (StopsAt Begun) before given gives held holds old new n → new.marks ≡ old.marks

-- A block is opened, and records are answered in it. Where what is held then at the newest mark is what another ledger holds, and at the
-- older ones what that one holds at its marks, as `rollback` says, it is the ledger in which the block was opened.
abbrev pub EachBlockComesBack : Type 0
EachBlockComesBack =
    (n : ℕ) (old mid new : LedgerView) (records : List Record) (text : List ℕ)
    → Reports n (begun old) records text mid → mid.marks ≡ new.marks ++ held_of new ∷ [] → new ≡ old
