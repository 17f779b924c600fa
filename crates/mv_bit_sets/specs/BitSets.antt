-- Sets of numbers, as words of 64 bits.
--   has words p            the number is in the set
use Rattle.std.specs.Prelude.{◌≡◌, ℕ, ◌+◌, ◌*◌, ◌/◌, ◌%◌, ◌==◌, ◌<◌, ◌≤◌, Bool, true, false, List, slice_index}
use Rattle.std.specs.Int.{bit_at}

abbrev pub has : List ℕ → ℕ → Bool
has words p = bit_at (slice_index words (p / 64)) (p % 64) == 1

-- a number from another on is in one set and not in another
pub record IsOutside (from : ℕ) (words others : List ℕ) (p : ℕ) : Type 0 where
  pub high : from ≤ p
  pub is : has words p ≡ true
  pub is_not : has others p ≡ false

-- each number from another on that is in one set is in another
abbrev pub IsWithin : ℕ → List ℕ → List ℕ → Type 0
IsWithin from words others = (p : ℕ) → from ≤ p → has words p ≡ true → has others p ≡ true

-- a bit of a word stands for a number from another on that is in the set
pub record IsBitFrom (words : List ℕ) (i from bit : ℕ) : Type 0 where
  pub high : from ≤ 64 * i + bit
  pub is : bit_at (slice_index words i) bit ≡ 1

-- a bit is in one word and not in another
pub record IsBitOutside (word others bit : ℕ) : Type 0 where
  pub low : bit < 64
  pub is : bit_at word bit ≡ 1
  pub is_not : bit_at others bit ≡ 0

-- each bit of one word is in another
abbrev pub AreBitsWithin : ℕ → ℕ → Type 0
AreBitsWithin word others = (bit : ℕ) → bit < 64 → bit_at word bit ≡ 1 → bit_at others bit ≡ 1
