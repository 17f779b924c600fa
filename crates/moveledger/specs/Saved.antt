-- How the commands over saved ledgers end, and what they print.
use Rattle.std.specs.Prelude.{◌≡◌, ℕ, IfSome, List, Option}
use Rattle.std.specs.Io.KnownBytes.{Appends}
use Rattle.mv_machine.specs.Ledger.{LedgerState}
use Rattle.mv_saved_text.specs.SavedText.{Second, IsSavedText}
use Rattle.mv_saved_text.specs.Loading.{FailsLoad, IsLoaded}
use Rattle.moveledger.specs.Printing.{line, load_refused_text}
use Rattle.moveledger.specs.Writing.{BreaksOff}
use Rattle.moveledger.specs.declared.inputs.Bytes.{Bytes}
use Rattle.moveledger.specs.declared.inputs.Bytes.TheVariants.{Whole, Fails}
use Rattle.moveledger.specs.declared.ending.End.{End}
use Rattle.moveledger.specs.declared.ending.End.TheVariants.{Done, Read, Write, Memory, Words, Refused, LoadRefused, TooComplex, TooLong}

-- what was read of known bytes: all of them, or enough to tell for which reason they are not loaded
abbrev pub IsRead : Option (List ℕ) → Bytes → Type 0
IsRead given (Whole v) = IfSome given (λ xs. v.items ≡ xs)
IsRead given (Fails number) = IfSome given (λ xs. FailsLoad xs number)

-- Bytes are not loaded, and the line of the first reason against them is printed; or a write failed, and a beginning of that line is
-- written, and not all of it; or a read failed, or memory ran out, and nothing is written.
abbrev pub IsNotLoaded : List ℕ → Option (List ℕ) → Option (List ℕ) → End → Type 0
IsNotLoaded bytes held holds (LoadRefused number) = FailsLoad bytes number × Appends held holds (line (load_refused_text number))
IsNotLoaded bytes held holds Write = (number : ℕ) × FailsLoad bytes number × BreaksOff (line (load_refused_text number)) held holds
IsNotLoaded bytes held holds Read = holds ≡ held
IsNotLoaded bytes held holds Memory = holds ≡ held
IsNotLoaded bytes held holds Done = ⊥
IsNotLoaded bytes held holds Words = ⊥
IsNotLoaded bytes held holds (Refused phase) = ⊥
IsNotLoaded bytes held holds TooComplex = ⊥
IsNotLoaded bytes held holds TooLong = ⊥

-- the second text is that of today of the ledger as which the first one is loaded
abbrev pub IsMigrated : List ℕ → List ℕ → Type 0
IsMigrated old new = (s : LedgerState) × (IsLoaded old s × IsSavedText Second new s)
