-- The text of a certificate as it is written, and with a line end after it.
use Rattle.std.proofs.Common.{◌≡◌, ℕ, zero, suc, ◌+◌, ◌-◌, ◌/◌, ◌%◌, ◌<◌, ◌==◌, Bool, true, false, List, [], ◌∷◌, ◌++◌, length, map, take, slice_index, refl, ap, ◌∙◌, arith, cond}
use Rattle.std.specs.Char.{to_ascii_lowercase}
use Rattle.std.proofs.lemmas.Bool.{ne_eqb}
use Rattle.std.proofs.lemmas.List.{length-append}
use Rattle.std.proofs.Math.Seq.{take-append_seam, get_or-append_seam}
use Rattle.mv_machine.specs.Lines.{hex_digit}
use Rattle.mv_module_text.specs.Laws.{AreBytes}
use Rattle.moveledger.specs.Hexadecimal.{hexadecimal, IsHexadecimal}
use Rattle.moveledger.specs.Checking.{before_line_end}

-- no digit is a line end, and each is of lower case
digit-above : (d : ℕ) → 47 < hex_digit d
digit-above d = grind (arith)

lower-digit : (d : ℕ) → to_ascii_lowercase (hex_digit d) ≡ hex_digit d
lower-digit d = grind (arith)

-- hexadecimal in lower case is hexadecimal
lower-hexadecimal : (bytes : List ℕ) → map to_ascii_lowercase (hexadecimal bytes) ≡ hexadecimal bytes
lower-hexadecimal [] = refl
lower-hexadecimal (b ∷ bytes) = rw (lower-digit (b / 16), lower-digit (b % 16), lower-hexadecimal bytes) refl

pub is_hexadecimal : (bytes : List ℕ) → AreBytes bytes → IsHexadecimal (hexadecimal bytes) bytes
is_hexadecimal bytes are = (are, lower-hexadecimal bytes)

-- no place of it has a line end
no-line_end : (bytes : List ℕ) (k : ℕ) → slice_index (hexadecimal bytes) k ≡ 10 → ⊥
no-line_end [] k e = omega arith
no-line_end (b ∷ bytes) zero e = let above = digit-above (b / 16) in omega (arith, above)
no-line_end (b ∷ bytes) (suc zero) e = let above = digit-above (b % 16) in omega (arith, above)
no-line_end (b ∷ bytes) (suc (suc k)) e = no-line_end bytes k e

-- so there is none to be taken off
pub before_line_end-hexadecimal : (bytes : List ℕ) → before_line_end (hexadecimal bytes) ≡ hexadecimal bytes
before_line_end-hexadecimal bytes =
    let text : List ℕ = hexadecimal bytes in
    let none : (slice_index text (length text - 1) == 10) ≡ false = ne_eqb (slice_index text (length text - 1)) 10 (no-line_end bytes (length text - 1)) in
    ap (λ (b : Bool). cond b (take (length text - 1) text) text) none

-- and the one that is put after a text is taken off
pub before_line_end-line : (text : List ℕ) → before_line_end (text ++ 10 ∷ []) ≡ text
before_line_end-line text =
    let long : length (text ++ 10 ∷ []) ≡ length text + 1 = length-append text (10 ∷ []) in
    let last : length (text ++ 10 ∷ []) - 1 ≡ length text = omega (arith, long) in
    let here : slice_index (text ++ 10 ∷ []) (length (text ++ 10 ∷ []) - 1) ≡ 10 = ap (slice_index (text ++ 10 ∷ [])) last ∙ get_or-append_seam text 10 [] 0 in
    let found : (slice_index (text ++ 10 ∷ []) (length (text ++ 10 ∷ []) - 1) == 10) ≡ true = ap (λ (n : ℕ). n == 10) here in
    ap (λ (b : Bool). cond b (take (length (text ++ 10 ∷ []) - 1) (text ++ 10 ∷ [])) (text ++ 10 ∷ [])) found
    ∙ ap (λ (n : ℕ). take n (text ++ 10 ∷ [])) last ∙ take-append_seam text (10 ∷ [])
