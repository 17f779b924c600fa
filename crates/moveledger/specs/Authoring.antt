-- How the commands of an author end, and what they print.
use Rattle.std.specs.Prelude.{◌≡◌, ℕ, ◌⊎◌, List, Option, Result, Ok, Err, IsSome, codes}
use Rattle.std.specs.Io.KnownBytes.{Appends}
use Rattle.moveledger.specs.declared.ending.End.{End}
use Rattle.moveledger.specs.declared.ending.End.TheVariants.{Done, Read, Write, Memory, Words, Refused, LoadRefused, TooComplex, TooLong}
use Rattle.moveledger.specs.Printing.{line, refused_text}
use Rattle.moveledger.specs.Checking.{FailsCheck, IsAccepted}
use Rattle.moveledger.specs.Proving.{FailsProof, IsComplexText, IsProvedBy}
use Rattle.moveledger.specs.Writing.{BreaksOff}

-- The line is written and the end is this one; or a write failed, and a beginning of it is written, and not all of it; or there was
-- no memory for it, and nothing is written.
abbrev pub Prints : {S A : Type 0} → (S → List ℕ) → Result S A → End → Option (List ℕ) → Option (List ℕ) → End → Type 0
Prints bytes_of (Err none) end held holds result = (result ≡ Memory) × (holds ≡ held)
Prints bytes_of (Ok text) end held holds result =
    ((result ≡ Write) × BreaksOff (bytes_of text) held holds) ⊎ ((result ≡ end) × Appends held holds (bytes_of text))

-- Where a module was checked with the text of a certificate. After a failed write a beginning of the line is written that would have
-- been; after a failed read, and where memory ran out, nothing is.
abbrev pub ChecksTo : List ℕ → List ℕ → Option (List ℕ) → Option (List ℕ) → End → Type 0
ChecksTo bytes text held holds Done = IsAccepted bytes text × Appends held holds (line (codes "accepted"))
ChecksTo bytes text held holds (Refused phase) = FailsCheck bytes text phase × Appends held holds (line (refused_text phase))
ChecksTo bytes text held holds Write = (IsAccepted bytes text × BreaksOff (line (codes "accepted")) held holds)
    ⊎ ((phase : ℕ) × FailsCheck bytes text phase × BreaksOff (line (refused_text phase)) held holds)
ChecksTo bytes text held holds Read = holds ≡ held
ChecksTo bytes text held holds Memory = holds ≡ held
ChecksTo bytes text held holds Words = ⊥
ChecksTo bytes text held holds (LoadRefused number) = ⊥
ChecksTo bytes text held holds TooComplex = ⊥
ChecksTo bytes text held holds TooLong = ⊥

-- Where a certificate was to be made for a module, by a search whose steps are limited, or aren't. At an error it is as in `ChecksTo`.
abbrev pub ProvesTo : Option ℕ → List ℕ → Option (List ℕ) → Option (List ℕ) → End → Type 0
ProvesTo steps bytes held holds Done = (text : List ℕ) × IsProvedBy bytes text × Appends held holds (line text)
ProvesTo steps bytes held holds (Refused phase) = FailsProof bytes phase × Appends held holds (line (refused_text phase))
ProvesTo steps bytes held holds TooComplex = IsComplexText bytes × Appends held holds (line (codes "too complex"))
ProvesTo steps bytes held holds TooLong = IsSome steps × Appends held holds (line (codes "too long"))
ProvesTo steps bytes held holds Write = ((text : List ℕ) × IsProvedBy bytes text × BreaksOff (line text) held holds)
    ⊎ (((phase : ℕ) × FailsProof bytes phase × BreaksOff (line (refused_text phase)) held holds)
    ⊎ ((IsComplexText bytes × BreaksOff (line (codes "too complex")) held holds)
    ⊎ (IsSome steps × BreaksOff (line (codes "too long")) held holds)))
ProvesTo steps bytes held holds Read = holds ≡ held
ProvesTo steps bytes held holds Memory = holds ≡ held
ProvesTo steps bytes held holds Words = ⊥
ProvesTo steps bytes held holds (LoadRefused number) = ⊥
