-- What stands where the answering of an input ends: what was read, what was written, and the ledger.
-- In all of these `before` is how many records were answered before the input, and `n` how many are now, by numbers that go on; `given`
-- and `gives` are what of the input was left before and after, `held` and `holds` what the writer had taken, and `old` and `new` the
-- ledger.
--   GoesOn before ..                 all records of the input were answered: the headline, by numbers that go on
--   ReadsOn before given gives n     all of the input was read, up to record n; ReadsAll: the same of a first input
--   StopsAt Within n took left ..    where it stopped behind whole records: at a part of a record, before one was answered, or within
--   Unread n took left old new part  a part of it was read
--   Begun                            it was read and answered, and a prefix of its lines was written
--   BegunByLines                     the same, and whole lines were; or the record asks for JSON
--   BrokenOff, Finished              the same, and not all of its lines were written, or all of them
--   StopsAfter Last before ..        whole records were read and answered, and Last says what became of the bytes after them
--   StopsWith Last ..                the same of a first input. Where that is at most Begun, it is Stops, and where it is at most
--                                    BegunByLines, StopsByLines; where it is Unread, StopsReading, and where BrokenOff, StopsWriting
--   AnswersAll                       the headline holds, and all was read
--   AnswersInput .. result           what `engine` says of its end: the headline, or how far it came by what failed
--   AnswersOn before .. result       the same by numbers that go on, but for a failed write, of which BreaksOff says it
--   Ends end                         what each end says of what was read and written, and of the ledger
-- The others are parts of these.
use Rattle.std.specs.Prelude.{◌≡◌, ℕ, ◌+◌, ◌<◌, List, [], ◌++◌, length, Option, Some, None, ◌⊎◌, flat_map, Result, Err, IfErr, IfOk, OnErr, OnOk}
use Rattle.std.specs.Io.{StartsWith}
use Rattle.std.specs.Io.KnownBytes.{Appends, Consumes}
use Rattle.mv_ledger_state.specs.View.{LedgerView}
use Rattle.moveledger.specs.Records.{Record, AreRecords, AreWhole, most_records}
use Rattle.moveledger.specs.Reading.{IsCutAt, IsTaken, IsUnfinished}
use Rattle.mv_machine.specs.Lines.{numbered}
use Rattle.moveledger.specs.Headline.{Headline, Step, Reports, Tells}
use Rattle.moveledger.specs.Writing.{IsByLines}
use Rattle.moveledger.specs.declared.streaming.EngineError.{EngineError}
use Rattle.moveledger.specs.declared.streaming.EngineError.TheVariants as error
use Rattle.moveledger.specs.declared.ending.End.{End}
use Rattle.moveledger.specs.declared.ending.End.TheVariants.{Done, Read, Write, Memory, Words, Refused, LoadRefused, TooComplex, TooLong}

-- the bytes that are known to be left
abbrev pub left_of : Option (List ℕ) → List ℕ
left_of None = []
left_of (Some xs) = xs

-- Of an input before which so many were answered, all records that it begins with were, up to its end or to the last number. Their
-- report, by numbers that go on, is written.
pub record GoesOn (before : ℕ) (given held holds : Option (List ℕ)) (old new : LedgerView) (n : ℕ) : Type 0 where
  pub input : List ℕ
  pub records : List Record
  pub rest : List ℕ
  pub text : List ℕ
  pub told : Tells given input
  pub read : AreRecords input records rest
  pub all : (rest ≡ []) ⊎ (n ≡ most_records)
  pub answered : n ≡ before + length records
  pub report : Reports (before + 1) old records text new
  pub written : Appends held holds text

-- Where reading ended, after n records were answered. Behind the first ones, which are so many, these bytes were read, and those are
-- left: the input ends there, or the numbers do; or one more record was answered, which is cut and the last.
pub data EndsReading (n wholes : ℕ) (took left : List ℕ) : Type 0 where
  at_the_end : n ≡ wholes → took ≡ [] → left ≡ [] → EndsReading n wholes took left
  at_the_last_number : n ≡ wholes → took ≡ [] → n ≡ most_records → EndsReading n wholes took left
  at_a_cut_record : n ≡ wholes + 1 → IsCutAt took left → EndsReading n wholes took left

-- What was read is as many records as were answered, and no byte behind them: whole ones, and one that is cut if it is the last.
pub record ReadsOn (before : ℕ) (given gives : Option (List ℕ)) (n : ℕ) : Type 0 where
  pub whole : List ℕ
  pub part : List ℕ
  pub records : List Record
  pub taken : Consumes given gives (whole ++ part)
  pub read : AreWhole whole records
  pub end : EndsReading n (before + length records) part (left_of gives)

-- the same of a first input, before which none were answered
abbrev pub ReadsAll : (given gives : Option (List ℕ)) → (n : ℕ) → Type 0
ReadsAll = ReadsOn 0

-- a part of a record was read, and nothing done
abbrev pub Unread : ℕ → List ℕ → List ℕ → LedgerView → LedgerView → List ℕ → Type 0
Unread n took left old new part = IsUnfinished took × (new ≡ old) × (part ≡ [])

-- a record was read, which has this number, and answered, and a prefix of its lines was written
abbrev pub Begun : ℕ → List ℕ → List ℕ → LedgerView → LedgerView → List ℕ → Type 0
Begun n took left old new part = (r : Record) × (lines : List (List ℕ)) × IsTaken took left r × Step old r lines new
    × StartsWith (flat_map (numbered n) lines) part

-- as Begun, and whole lines were written; or the record asks for JSON, and a prefix of its one line was
abbrev pub BegunByLines : ℕ → List ℕ → List ℕ → LedgerView → LedgerView → List ℕ → Type 0
BegunByLines n took left old new part = (r : Record) × (lines : List (List ℕ)) × IsTaken took left r × Step old r lines new
    × IsByLines r n lines part

-- as Begun, and not all of its lines was written
abbrev pub BrokenOff : ℕ → List ℕ → List ℕ → LedgerView → LedgerView → List ℕ → Type 0
BrokenOff n took left old new part = (r : Record) × (lines : List (List ℕ)) × IsTaken took left r × Step old r lines new
    × StartsWith (flat_map (numbered n) lines) part × (length part < length (flat_map (numbered n) lines))

-- a record was read, which has this number, and answered, and all its lines were written
abbrev pub Finished : ℕ → List ℕ → List ℕ → LedgerView → LedgerView → List ℕ → Type 0
Finished n took left old new part = (r : Record) × (lines : List (List ℕ)) × IsTaken took left r × Step old r lines new
    × (part ≡ flat_map (numbered n) lines)

-- Where it stopped behind whole records, at the record of this number: after a part of it was read; after it was read, before anything
-- was done with it; or while it was being answered, of which Within says what was written.
pub data StopsAt (Within : ℕ → List ℕ → List ℕ → LedgerView → LedgerView → List ℕ → Type 0)
    (n : ℕ) (took left : List ℕ) (old new : LedgerView) (part : List ℕ) : Type 0 where
  part_of_a_record : IsUnfinished took → new ≡ old → part ≡ [] → StopsAt Within n took left old new part
  read_and_nothing_done : (r : Record) → IsTaken took left r → new ≡ old → part ≡ [] → StopsAt Within n took left old new part
  being_answered : Within n took left old new part → StopsAt Within n took left old new part

-- What was read is whole records, and some bytes behind them of which there is this to say. All lines of the whole records
-- were written, and what is said of the others. The ledger is as the whole records left it, and then as is said. So many records
-- were answered before these, and n with them.
pub record StopsAfter (Last : ℕ → List ℕ → List ℕ → LedgerView → LedgerView → List ℕ → Type 0)
    (before : ℕ) (given gives held holds : Option (List ℕ)) (old new : LedgerView) (n : ℕ) : Type 0 where
  pub whole : List ℕ
  pub took : List ℕ
  pub records : List Record
  pub text : List ℕ
  pub part : List ℕ
  pub mid : LedgerView
  pub taken : Consumes given gives (whole ++ took)
  pub read : AreWhole whole records
  pub answered : n ≡ before + length records
  pub report : Reports (before + 1) old records text mid
  pub last : Last (n + 1) took (left_of gives) mid new part
  pub written : Appends held holds (text ++ part)

-- the same of a first input
abbrev pub StopsWith : (Last : ℕ → List ℕ → List ℕ → LedgerView → LedgerView → List ℕ → Type 0)
    → (given gives held holds : Option (List ℕ)) → (old new : LedgerView) → Type 0
StopsWith Last given gives held holds old new = (n : ℕ) × StopsAfter Last 0 given gives held holds old new n

-- All lines of some whole records of the input were written, and a prefix of those of at most one more record. The ledger is as
-- these records left it. No byte was read behind the last record of which anything was read.
abbrev pub Stops : (given gives held holds : Option (List ℕ)) → (old new : LedgerView) → Type 0
Stops = StopsWith (StopsAt Begun)

-- The same, but of the last record whole lines were written; or it asks for JSON, and a prefix of its one line was.
abbrev pub StopsByLines : (given gives held holds : Option (List ℕ)) → (old new : LedgerView) → Type 0
StopsByLines = StopsWith (StopsAt BegunByLines)

-- What was read is whole records and a part of one. The ledger is as the whole ones left it, and what was
-- written is exactly their report.
abbrev pub StopsReading : (given gives held holds : Option (List ℕ)) → (old new : LedgerView) → Type 0
StopsReading = StopsWith Unread

-- What was read is whole records and the one that was being answered, and no byte behind it. What was written is the report on the
-- whole ones and a prefix of the lines of that one, without its last byte at least. The ledger is as that one left it.
abbrev pub StopsWriting : (given gives held holds : Option (List ℕ)) → (old new : LedgerView) → Type 0
StopsWriting = StopsWith BrokenOff

-- so many records were read and answered, and all there were
abbrev pub AnswersAll : (given gives held holds : Option (List ℕ)) → (old new : LedgerView) → Type 0
AnswersAll given gives held holds old new = (n : ℕ) × Headline given held holds old new n × ReadsAll given gives n

-- What stands where an input was answered, so many records or up to an error.
pub record AnswersInput (given gives held holds : Option (List ℕ)) (old new : LedgerView) (result : Result ℕ EngineError) : Type 0 where
  -- for every input: the headline
  pub ok : IfOk result (λ n. Headline given held holds old new n)
  -- what was read of it: all there was, up to the end of a cut record
  pub taken : IfOk result (λ n. ReadsAll given gives n)
  -- whatever the error: a prefix of the report, and the ledger as some records left it
  pub err : IfErr result (λ _. Stops given gives held holds old new)
  -- a failed read: exactly the lines of the records that were read whole
  pub read : result ≡ Err error.Read → StopsReading given gives held holds old new
  -- a failed write: a prefix of the lines of the record that was being answered, and not all of them, and nothing read behind it
  pub write : result ≡ Err error.Write → StopsWriting given gives held holds old new
  -- want of memory: whole lines, unless the last record asks for JSON, which is written entry by entry
  pub memory : result ≡ Err error.Memory → StopsByLines given gives held holds old new

-- The same by numbers that go on, but for a failed write.
pub record AnswersOn (before : ℕ) (given gives held holds : Option (List ℕ)) (old new : LedgerView) (n : ℕ) (result : Result (Unit {0}) EngineError) : Type 0 where
  pub ok : OnOk result (GoesOn before given held holds old new n)
  pub taken : OnOk result (ReadsOn before given gives n)
  pub err : OnErr result (StopsAfter (StopsAt Begun) before given gives held holds old new n)
  pub read : result ≡ Err error.Read → StopsAfter Unread before given gives held holds old new n
  pub memory : result ≡ Err error.Memory → StopsAfter (StopsAt BegunByLines) before given gives held holds old new n

-- a prefix of a record's lines was written, and not all of them; or all were, and then what is wanted after them failed
abbrev pub BreaksOff : (Failed : Type 0) → (before : ℕ) → (given gives held holds : Option (List ℕ)) → (old new : LedgerView) → (n : ℕ) → Type 0
BreaksOff Failed before given gives held holds old new n =
    StopsAfter BrokenOff before given gives held holds old new n ⊎ (StopsAfter Finished before given gives held holds old new n × Failed)

-- What an end says of an input that was answered. Where it is a failed write, what the writer holds may be the whole report,
-- of which a part couldn't be written out.
abbrev pub Ends : End → (given gives held holds : Option (List ℕ)) → (old new : LedgerView) → Type 0
Ends Done given gives held holds old new = AnswersAll given gives held holds old new
Ends Read given gives held holds old new = StopsReading given gives held holds old new
Ends Write given gives held holds old new = Stops given gives held holds old new ⊎ AnswersAll given gives held holds old new
Ends Memory given gives held holds old new = StopsByLines given gives held holds old new
Ends Words given gives held holds old new = ⊥
Ends (Refused phase) given gives held holds old new = ⊥
Ends (LoadRefused number) given gives held holds old new = ⊥
Ends TooComplex given gives held holds old new = ⊥
Ends TooLong given gives held holds old new = ⊥
