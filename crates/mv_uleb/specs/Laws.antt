-- Laws of the form that numbers have.
use Rattle.std.specs.Prelude.{◌≡◌, ℕ, ◌<◌, ◌≤◌, ◌^◌, List, ◌++◌, IsTrue, nat_lt, Some, ◌↔◌}
use Rattle.std.specs.List.{list_all}
use Rattle.mv_uleb.specs.Uleb.{IsUleb, uleb}
use Rattle.mv_uleb.specs.Parsing.{number_from}

-- no number's bytes begin another's, and no bytes are two numbers'
abbrev pub HasOneForm : Type 0
HasOneForm = (a b rest rest' : List ℕ) (m n : ℕ) → IsUleb a m → IsUleb b n → a ++ rest ≡ b ++ rest' → (a ≡ b) × (m ≡ n)

-- each number below 2 ^ 70 has a form
abbrev pub HasForm : Type 0
HasForm = (n : ℕ) → n < 2 ^ 70 → IsUleb (uleb n) n

-- a number stands at the front of bytes exactly where its form does
abbrev pub StandsByForm : Type 0
StandsByForm =
    (max n : ℕ) (bytes rest : List ℕ) → max < 2 ^ 64 → IsTrue (list_all (λ b. nat_lt b 256) bytes)
    → (number_from max bytes ≡ Some (n, rest) ↔ ((bytes ≡ uleb n ++ rest) × (n ≤ max)))
