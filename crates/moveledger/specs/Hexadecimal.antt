-- The text of bytes in hexadecimal.
use Rattle.std.specs.Prelude.{◌≡◌, ℕ, ◌/◌, ◌%◌, List, [], ◌∷◌, flat_map}
use Rattle.std.specs.Str.{str_to_ascii_lowercase}
use Rattle.mv_module_text.specs.Laws.{AreBytes}
use Rattle.mv_machine.specs.Lines.{hex_digit}

-- two digits for each byte, in lower case, that of the high four bits first
abbrev pub hexadecimal : List ℕ → List ℕ
hexadecimal bytes = flat_map (λ b. hex_digit (b / 16) ∷ hex_digit (b % 16) ∷ []) bytes

-- the text is the hexadecimal of the bytes, in either case
abbrev pub IsHexadecimal : List ℕ → List ℕ → Type 0
IsHexadecimal text bytes = AreBytes bytes × (str_to_ascii_lowercase text ≡ hexadecimal bytes)
