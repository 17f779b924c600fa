-- What is wanted after each record is done after each, before the next one is read.
use Rattle.std.specs.Prelude.{◌≡◌, ◌≢◌, ℕ, zero, suc, ◌+◌, List, ◌++◌, length, Option, Result, Ok, Err, ◌⊎◌}
use Rattle.std.specs.Io.KnownBytes.{Consumes}
use Rattle.mv_ledger_state.specs.View.{LedgerView}
use Rattle.moveledger.specs.Records.{Record, AreWhole}
use Rattle.moveledger.specs.Reading.{IsTaken, IsUnfinished}
use Rattle.moveledger.specs.Outcome.{left_of, ReadsOn}
use Rattle.moveledger.specs.Progress.{Progress}
use Rattle.moveledger.specs.declared.streaming.EngineError.{EngineError}
use Rattle.moveledger.specs.declared.streaming.EngineError.TheVariants as error
use Rattle.moveledger.specs.declared.ending.End.{End}
use Rattle.moveledger.specs.declared.ending.End.TheVariants.{Done, Read, Write, Memory, Words, Refused, LoadRefused, TooComplex, TooLong}

-- these bytes are no whole record, or one at which this error came, which is no failed read
abbrev pub IsUnanswered : EngineError → List ℕ → List ℕ → Type 0
IsUnanswered e took left = IsUnfinished took ⊎ ((e ≢ error.Read) × (r : Record) × IsTaken took left r)

-- Of a reader the bytes that are left, of a writer those that it holds, and what is wanted after a record: its number, the reader, what
-- does it and the writer before, how that ended, and both after it. Then how many records were answered before the input, what there was
-- to read, what the writer held, and the ledger.
module _ {R W A : Type 0} (left : R → Option (List ℕ)) (held_by : W → Option (List ℕ)) (does : ℕ → R → A → W → Result (Unit {0}) EngineError → A → W → Type 0)
    (before : ℕ) (given held : Option (List ℕ)) (ledger : LedgerView) where
  -- It was done after the record of this number, and ended so. This record and those before it were read then, and no byte behind them;
  -- the writer had all their lines.
  pub record IsDoneAt (n : ℕ) (old : A) (end : Result (Unit {0}) EngineError) (new : A) : Type 0 where
    pub reader : R
    pub writer : W
    pub leaves : W
    pub now : LedgerView
    pub answered : Progress before given (left reader) held (held_by writer) ledger now n
    pub done : does n reader old writer end new leaves

  -- what is wanted after some record failed with this error
  abbrev pub IsFailed : EngineError → A → Type 0
  IsFailed e new = (n : ℕ) × (old : A) × IsDoneAt n old (Err e) new

  -- it was done after each of so many records, in their order
  abbrev pub IsDoneFor : ℕ → A → A → Type 0
  IsDoneFor zero old new = new ≡ old
  IsDoneFor (suc n) old new = (mid : A) × IsDoneFor n old mid × IsDoneAt (before + (n + 1)) mid (Ok tt) new

  -- all records were answered, up to this one, and it was done after each that is whole
  abbrev pub IsDoneForAll : Option (List ℕ) → ℕ → A → A → Type 0
  IsDoneForAll gives n old new = (all : ReadsOn before given gives n) × IsDoneFor (length all.records) old new

  -- It was done after each of some whole records, in their order. Then an error came: of the bytes behind them nothing was answered to
  -- the end; or one more record was, and what is wanted after it failed.
  pub record IsDoneUntil (gives : Option (List ℕ)) (e : EngineError) (old new : A) : Type 0 where
    pub whole : List ℕ
    pub took : List ℕ
    pub records : List Record
    pub mid : A
    pub taken : Consumes given gives (whole ++ took)
    pub read : AreWhole whole records
    pub done : IsDoneFor (length records) old mid
    pub last : (IsUnanswered e took (left_of gives) × (new ≡ mid)) ⊎ IsDoneAt (before + (length records + 1)) mid (Err e) new

-- An end after so many records were answered, and all of them are accounted for; or after an error. A failed write may be either: the
-- report was made, and couldn't be written out.
abbrev pub EndsBy : (ℕ → Type 0) → (EngineError → Type 0) → End → Type 0
EndsBy All Until Done = (n : ℕ) × All n
EndsBy All Until Read = Until error.Read
EndsBy All Until Memory = Until error.Memory
EndsBy All Until Write = ((e : EngineError) × Until e) ⊎ ((n : ℕ) × All n)
EndsBy All Until Words = ⊥
EndsBy All Until (Refused phase) = ⊥
EndsBy All Until (LoadRefused number) = ⊥
EndsBy All Until TooComplex = ⊥
EndsBy All Until TooLong = ⊥
