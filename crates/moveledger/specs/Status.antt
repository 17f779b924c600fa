-- How the program ends: its fault's line, and its exit status.
--   end_after answered is_written          how the program ends once the engine has, with its report written out or not
--   end_after_proof, .., end_after_words   the same after `prove`, `check`, a save, and words that aren't understood
--   fault_line end                         the line of a fault, if it is one
--   status_of end                          the exit status, from 0 to 3
--   EndsSo end held holds status           the program ended with that status, and standard error took that line or a front of it
-- fault_said is a part of these.
use Rattle.std.specs.Prelude.{◌≡◌, ℕ, List, [], Bool, true, false, Result, Ok, Err, Option, Some, None, codes, unwrap_or}
use Rattle.std.specs.Io.{StartsWith}
use Rattle.std.specs.Io.KnownBytes.{Appends}
use Rattle.moveledger.specs.Printing.{line}
use Rattle.mv_commands.specs.declared.command_line.LineError.{LineError}
use Rattle.mv_commands.specs.declared.command_line.LineError.TheVariants as words
use Rattle.moveledger.specs.declared.streaming.EngineError.{EngineError}
use Rattle.moveledger.specs.declared.streaming.EngineError.TheVariants as error
use Rattle.mv_commands.specs.declared.error.KeepError.{KeepError}
use Rattle.mv_commands.specs.declared.error.KeepError.TheVariants as keep
use Rattle.mv_analyser.specs.declared.LimitError.{LimitError}
use Rattle.mv_analyser.specs.declared.LimitError.TheVariants as limit
use Rattle.mv_analyser.specs.declared.ProveError.TheVariants as proof
use Rattle.mv_move_types.specs.declared.refusal.Refusal.{Refusal}
use Rattle.mv_move_types.specs.declared.refusal.Refusal.TheVariants as refusal
use Rattle.moveledger.specs.declared.ending.End.{End}
use Rattle.moveledger.specs.declared.ending.End.TheVariants.{Done, Read, Write, Memory, Words, Refused, LoadRefused, TooComplex, TooLong}

-- the end after the engine's, whose report was written out to the last byte or wasn't
abbrev pub end_after : {A : Type 0} → Result A EngineError → Bool → End
end_after answered false = Write
end_after (Ok done) true = Done
end_after (Err error.Read) true = Read
end_after (Err error.Write) true = Write
end_after (Err error.Memory) true = Memory

-- the end after a certificate was to be made
abbrev pub end_after_proof : {A : Type 0} → Result A LimitError → End
end_after_proof (Ok text) = Done
end_after_proof (Err (limit.Unproved (proof.Refused phase))) = Refused phase
end_after_proof (Err (limit.Unproved proof.TooComplex)) = TooComplex
end_after_proof (Err (limit.Unproved proof.Memory)) = Memory
end_after_proof (Err limit.TooLong) = TooLong

-- the end after a module was checked
abbrev pub end_after_check : {A : Type 0} → Result A Refusal → End
end_after_check (Ok done) = Done
end_after_check (Err (refusal.Phase phase)) = Refused phase
end_after_check (Err refusal.Memory) = Memory

-- the end after a text was to be kept
abbrev pub end_after_keeping : {A : Type 0} → Result A KeepError → End
end_after_keeping (Ok done) = Done
end_after_keeping (Err (keep.Write number)) = Write
end_after_keeping (Err keep.NoLedger) = Write
end_after_keeping (Err keep.InUse) = Write
end_after_keeping (Err (keep.NoLock number)) = Write
end_after_keeping (Err keep.Name) = Write
end_after_keeping (Err keep.Memory) = Memory

-- the end where a command line isn't understood, or asks for help
abbrev pub end_after_words : LineError → End
end_after_words (words.Words text) = Words
end_after_words words.Memory = Memory

-- the line of a fault
abbrev pub fault_line : End → Option (List ℕ)
fault_line Done = None
fault_line Read = Some (line (codes "fault: read"))
fault_line Write = Some (line (codes "fault: write"))
fault_line Memory = Some (line (codes "fault: memory"))
fault_line Words = None
fault_line (Refused phase) = None
fault_line (LoadRefused number) = None
fault_line TooComplex = None
fault_line TooLong = None

-- what is said of a fault
abbrev pub fault_said : End → List ℕ
fault_said end = unwrap_or (fault_line end) []

-- 0 where it is done, 1 at a fault, 2 where the command line isn't understood, 3 where a module is refused or too complex, a search is
-- too long, or a saved ledger is refused
abbrev pub status_of : End → ℕ
status_of Done = 0
status_of Read = 1
status_of Write = 1
status_of Memory = 1
status_of Words = 2
status_of (Refused phase) = 3
status_of (LoadRefused number) = 3
status_of TooComplex = 3
status_of TooLong = 3

-- The program ends with the status of this end, and standard error took the line of its fault, or the front of it that it takes, and
-- nothing else.
abbrev pub EndsSo : End → Option (List ℕ) → Option (List ℕ) → ℕ → Type 0
EndsSo end held holds status =
    (status ≡ status_of end) × (part : List ℕ) × StartsWith (fault_said end) part × Appends held holds part
