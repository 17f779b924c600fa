-- What stands next in an input.
--   IsPayload len took left items is_whole   what was read where a payload of so many bytes should stand
--   IsNext took left items next              what was read of what stands next
use Rattle.std.specs.Prelude.{◌≡◌, ◌<◌, Bool, false, true, ℕ, List, [], Option, length}
use Rattle.std.specs.Io.KnownBytes.{IsAtEnd}
use Rattle.moveledger.specs.Records.{IsText}
use Rattle.moveledger.specs.Reading.{IsCutAt}
use Rattle.moveledger.specs.declared.reading.Next.{Next}
use Rattle.moveledger.specs.declared.reading.Next.TheVariants.{End, Cut, Record}

-- These bytes were taken where a payload of so many should stand: all of it, which a list then holds; or fewer, up to the end of the
-- input.
abbrev pub IsPayload : ℕ → List ℕ → Option (List ℕ) → List ℕ → Bool → Type 0
IsPayload len took left items true = (items ≡ took) × (length took ≡ len)
IsPayload len took left items false = (length took < len) × IsAtEnd left

-- These bytes were taken and those are left. A list holds the payload of a record.
abbrev pub IsNext : List ℕ → List ℕ → List ℕ → Next → Type 0
IsNext took left items End = (took ≡ []) × (left ≡ [])
IsNext took left items Cut = IsCutAt took left
IsNext took left items (Record kind) = IsText took kind items
