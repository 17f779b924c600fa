-- What answers a whole record.
--   Writes n lines held holds                 a writer took these lines, each with the record's number; WritesPart: a prefix of them
--   WritesWholeLines n lines held holds       whole lines, so many of the first of them
--   WritesReply n reply held holds            the lines of a reply, or of no reply
--   FailsLines, FailsReply, FailsReport       what was written of lines, a reply or a report where this ended in an error
--   IsAnswered n kind payload old new ..      the record was answered, and all its lines were written
--   IsBrokenOff n kind payload old new ..     the record was answered, and not all its lines were written
--   MayBeAnsweredByLines n kind ..            the same, and whole lines were, or the record asks for JSON; or nothing happened
--   FailsToAnswer e n kind payload old new .. which of these holds where answering the record ended in this error
-- number_at, first_line and line_of serve the contracts of the functions that write.
use Rattle.std.specs.Prelude.{◌≡◌, ◌⊎◌, ℕ, Bool, true, false, List, [], ◌∷◌, ◌++◌, Option, Some, None, Result, Ok, Err, codes, decimal, flat_map}
use Rattle.std.specs.Io.{StartsWith}
use Rattle.std.specs.Io.KnownBytes.{Appends}
use Rattle.mv_move_types.specs.declared.refusal.Refusal.{Refusal}
use Rattle.mv_ledger_state.specs.View.{LedgerView}
use Rattle.mv_machine.specs.Ledger.{Format, AsText, AsJson}
use Rattle.mv_machine.specs.Lines.{Reply, reply_lines, numbered}
use Rattle.mv_lines.specs.LinesView.{LinesView}
use Rattle.mv_ledger.specs.Answering.{told_lines}
use Rattle.moveledger.specs.Records.{Whole}
use Rattle.moveledger.specs.Headline.{Step}
use Rattle.moveledger.specs.Writing.{BreaksOff, IsByLines, IsOfWholeLines}
use Rattle.moveledger.specs.declared.streaming.EngineError.{EngineError}
use Rattle.moveledger.specs.declared.streaming.EngineError.TheVariants.{Read, Write, Memory}

-- what stands before a piece of a line: the record's number and a blank, if the line isn't begun
abbrev pub number_at : ℕ → Bool → List ℕ
number_at n true = []
number_at n false = decimal n ++ codes " "

-- a writer took these lines, each with this number
abbrev pub Writes : ℕ → List (List ℕ) → Option (List ℕ) → Option (List ℕ) → Type 0
Writes n lines held holds = Appends held holds (flat_map (numbered n) lines)

-- a writer took a prefix of them
abbrev pub WritesPart : ℕ → List (List ℕ) → Option (List ℕ) → Option (List ℕ) → Type 0
WritesPart n lines held holds = (part : List ℕ) × StartsWith (flat_map (numbered n) lines) part × Appends held holds part

-- a writer took whole lines, so many of the first of them
abbrev pub WritesWholeLines : ℕ → List (List ℕ) → Option (List ℕ) → Option (List ℕ) → Type 0
WritesWholeLines n lines held holds = (part : List ℕ) × IsOfWholeLines n lines part × Appends held holds part

-- a writer took the lines of what is told, and something is
abbrev pub WritesReply : ℕ → Option Reply → Option (List ℕ) → Option (List ℕ) → Type 0
WritesReply n None held holds = ⊥
WritesReply n (Some reply) held holds = Writes n (reply_lines reply) held holds

-- writing the lines of what is told broke off, and something is told
abbrev pub BreaksOffReply : ℕ → Option Reply → Option (List ℕ) → Option (List ℕ) → Type 0
BreaksOffReply n None held holds = ⊥
BreaksOffReply n (Some reply) held holds = BreaksOff (flat_map (numbered n) (reply_lines reply)) held holds

-- where memory ran out in lines of this format: whole lines of text were written, or a prefix of a line of JSON
abbrev pub WritesSome : Format → ℕ → List (List ℕ) → Option (List ℕ) → Option (List ℕ) → Type 0
WritesSome AsText n lines held holds = WritesWholeLines n lines held holds
WritesSome AsJson n lines held holds = WritesPart n lines held holds

-- Where writing lines of this format ended in this error: it broke off, or memory ran out. No read fails.
abbrev pub FailsLines : EngineError → Format → ℕ → List (List ℕ) → Option (List ℕ) → Option (List ℕ) → Type 0
FailsLines Read format n lines held holds = ⊥
FailsLines Write format n lines held holds = BreaksOff (flat_map (numbered n) lines) held holds
FailsLines Memory format n lines held holds = WritesSome format n lines held holds

-- the same of the line of a reply: memory runs out before anything of it is written
abbrev pub FailsReply : EngineError → ℕ → Option Reply → Option (List ℕ) → Option (List ℕ) → Type 0
FailsReply Read n reply held holds = ⊥
FailsReply Write n reply held holds = BreaksOffReply n reply held holds
FailsReply Memory n reply held holds = holds ≡ held

-- and of a show or an audit, or its refusal
abbrev pub FailsReport : EngineError → ℕ → Result LinesView Refusal → Option (List ℕ) → Option (List ℕ) → Type 0
FailsReport e n (Ok lines) held holds = FailsLines e lines.format n lines.left held holds
FailsReport e n (Err refusal) held holds = FailsReply e n (told_lines (Err refusal)) held holds

-- the record of this number was answered: its lines were written, and the ledger went on to new
abbrev pub IsAnswered : ℕ → ℕ → List ℕ → LedgerView → LedgerView → Option (List ℕ) → Option (List ℕ) → Type 0
IsAnswered n kind payload old new held holds =
    (lines : List (List ℕ)) × (Step old (Whole kind payload) lines new × Writes n lines held holds)

-- the ledger went on to new, and writing the record's lines broke off
abbrev pub IsBrokenOff : ℕ → ℕ → List ℕ → LedgerView → LedgerView → Option (List ℕ) → Option (List ℕ) → Type 0
IsBrokenOff n kind payload old new held holds =
    (lines : List (List ℕ)) × (Step old (Whole kind payload) lines new × BreaksOff (flat_map (numbered n) lines) held holds)

-- the ledger went on to new, and whole lines of the record's were written; or it asks for JSON, and a prefix of its line was
abbrev pub IsBegunByLines : ℕ → ℕ → List ℕ → LedgerView → LedgerView → Option (List ℕ) → Option (List ℕ) → Type 0
IsBegunByLines n kind payload old new held holds =
    (lines : List (List ℕ)) × (part : List ℕ) × Step old (Whole kind payload) lines new
    × IsByLines (Whole kind payload) n lines part × Appends held holds part

-- that; or nothing happened
abbrev pub MayBeAnsweredByLines : ℕ → ℕ → List ℕ → LedgerView → LedgerView → Option (List ℕ) → Option (List ℕ) → Type 0
MayBeAnsweredByLines n kind payload old new held holds =
    ((new ≡ old) × Appends held holds []) ⊎ IsBegunByLines n kind payload old new held holds

-- Where answering the record ended in this error: writing its lines broke off, or memory ran out. No read fails.
abbrev pub FailsToAnswer : EngineError → ℕ → ℕ → List ℕ → LedgerView → LedgerView → Option (List ℕ) → Option (List ℕ) → Type 0
FailsToAnswer Read n kind payload old new held holds = ⊥
FailsToAnswer Write n kind payload old new held holds = IsBrokenOff n kind payload old new held holds
FailsToAnswer Memory n kind payload old new held holds = MayBeAnsweredByLines n kind payload old new held holds

-- the first of some lines
abbrev pub first_line : List (List ℕ) → List ℕ
first_line [] = []
first_line (line ∷ lines) = line

-- the one line of a reply
abbrev pub line_of : Reply → List ℕ
line_of reply = first_line (reply_lines reply)
