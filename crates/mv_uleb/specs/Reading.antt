-- Why no number up to a greatest one, of at most so many bytes, stands at the front of bytes.
--   Spells most max bytes number used   the front spells this number, in so many bytes
--   EndsWithin most bytes               the bytes end before the number does
--   IsLongWithin most bytes             a shorter spelling would do
--   IsBeyondWithin most max bytes       the number is above the greatest one (IsAbove), or has too many bytes (IsEndless)
--   Gives most max bytes result         what a reader answers: one of these four
--   EndsEarly, IsLong, IsBeyond max     the three reasons, for numbers of at most ten bytes
use Rattle.std.specs.Prelude.{◌≡◌, ℕ, ◌<◌, ◌≤◌, List, ◌∷◌, ◌++◌, length, take, ◌⊎◌, Result, Ok, Err}
use Rattle.mv_uleb.specs.Uleb.{IsUleb, AreHigh}
use Rattle.mv_uleb.specs.declared.UlebError.{UlebError}
use Rattle.mv_uleb.specs.declared.UlebError.TheVariants.{Ends, Long, Range}

-- the front spells the number
pub record Spells (most max : ℕ) (bytes : List ℕ) (number used : ℕ) : Type 0 where
  pub spelling : IsUleb (take used bytes) number
  pub small : number ≤ max
  pub within : used ≤ length bytes
  pub few : used ≤ most

-- the bytes end before the number does
pub record EndsWithin (most : ℕ) (bytes : List ℕ) : Type 0 where
  pub few : length bytes < most
  pub high : AreHigh bytes

-- the last byte of the spelling at the front is 0 and not its only one, so that a shorter spelling would do
pub record IsLongWithin (most : ℕ) (bytes : List ℕ) : Type 0 where
  pub front : List ℕ
  pub rest : List ℕ
  pub text : bytes ≡ front ++ 0 ∷ rest
  pub high : AreHigh front
  pub more : 0 < length front
  pub few : length front < most

-- none of so many bytes at the front is the last
pub record IsEndless (most : ℕ) (bytes : List ℕ) : Type 0 where
  pub many : most ≤ length bytes
  pub high : AreHigh (take most bytes)

-- the front spells a number above the greatest one
pub record IsAbove (most max : ℕ) (bytes : List ℕ) : Type 0 where
  pub used : ℕ
  pub number : ℕ
  pub spelling : IsUleb (take used bytes) number
  pub few : used ≤ most
  pub above : max < number

-- what stands at the front would be a number above the greatest one
abbrev pub IsBeyondWithin : ℕ → ℕ → List ℕ → Type 0
IsBeyondWithin most max bytes = IsEndless most bytes ⊎ IsAbove most max bytes

-- what the front of bytes gives
abbrev pub Gives : ℕ → ℕ → List ℕ → Result (ℕ × ℕ) UlebError → Type 0
Gives most max bytes (Ok found) = Spells most max bytes found.0 found.1
Gives most max bytes (Err Ends) = EndsWithin most bytes
Gives most max bytes (Err Long) = IsLongWithin most bytes
Gives most max bytes (Err Range) = IsBeyondWithin most max bytes

-- the bytes end before a number of at most ten bytes does
abbrev pub EndsEarly : List ℕ → Type 0
EndsEarly bytes = EndsWithin 10 bytes

-- a number of at most ten bytes stands at the front in a form that is too long
abbrev pub IsLong : List ℕ → Type 0
IsLong bytes = IsLongWithin 10 bytes

-- a number above the greatest one, or of more than ten bytes, stands at the front
abbrev pub IsBeyond : ℕ → List ℕ → Type 0
IsBeyond max bytes = IsBeyondWithin 10 max bytes
