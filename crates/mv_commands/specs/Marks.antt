-- How a saved ledger begins.
use Rattle.std.specs.Prelude.{◌≡◌, ◌⊎◌, ℕ, List, [], ◌∷◌}

-- the four bytes that a saved ledger begins with, whose form has this byte
abbrev pub mark : ℕ → List ℕ
mark form = 0x4D ∷ 0x56 ∷ 0x4C ∷ form ∷ []

-- these bytes are the mark of one of the two forms
abbrev pub IsMark : List ℕ → Type 0
IsMark bytes = (bytes ≡ mark 0x31) ⊎ (bytes ≡ mark 0x32)
