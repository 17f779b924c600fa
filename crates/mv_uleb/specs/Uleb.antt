-- ULEB128 numbers: seven bits a byte, the least significant first, in the shortest form.
use Rattle.std.specs.Prelude.{◌≡◌, ℕ, ◌+◌, ◌*◌, ◌<◌, ◌≤◌, List, [], ◌∷◌, zero, suc, ◌/◌, ◌%◌, nat_lt, cond}

-- The bytes are the number's. A byte below 128 is the last, and stands for itself. One from 128 on has the low seven
-- bits, and the bytes after it stand for the rest, which isn't 0: so each number has one form.
abbrev pub IsUleb : List ℕ → ℕ → Type 0
IsUleb [] n = ⊥
IsUleb (b ∷ []) n = (b < 128) × (n ≡ b)
IsUleb (b ∷ c ∷ bytes) n =
    (128 ≤ b) × (b < 256) × (high : ℕ) × (0 < high) × (n + 128 ≡ b + 128 * high) × IsUleb (c ∷ bytes) high

-- the same for a number up to a greatest one
abbrev pub IsUlebUpTo : ℕ → List ℕ → ℕ → Type 0
IsUlebUpTo max bytes n = IsUleb bytes n × (n ≤ max)

-- each byte has its high bit: another one belongs to the number
abbrev pub AreHigh : List ℕ → Type 0
AreHigh [] = Unit {0}
AreHigh (b ∷ bytes) = (128 ≤ b) × AreHigh bytes

-- the form of a number, in at most so many bytes
abbrev pub uleb_in : ℕ → ℕ → List ℕ
uleb_in zero n = n ∷ []
uleb_in (suc k) n = cond (nat_lt n 128) (n ∷ []) ((n % 128 + 128) ∷ uleb_in k (n / 128))

-- The one form of a number below 2 ^ 70. It is the only list of bytes that IsUleb says is the number's: 300 is 0xAC, 0x02. IsUleb reads the
-- form, and this writes it; that they are one is a law (HasForm and HasOneForm, Laws.antt).
unfoldable pub uleb : ℕ → List ℕ
uleb n = uleb_in 9 n
