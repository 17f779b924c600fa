-- What is decoded is the bytes that a text is the hexadecimal of.
use Rattle.std.proofs.Common.{◌≡◌, ℕ, ◌+◌, ◌-◌, ◌*◌, ◌/◌, ◌%◌, ◌<◌, ◌≤◌, ◌==◌, nat_le, Bool, true, false, ◌&&◌, ◌⊎◌, inl, inr}
use Rattle.std.proofs.Common.{List, [], ◌∷◌, length, map, Option, Some, None, Result, Ok, Err, refl, sym, ap, ◌∙◌, arith, cond}
use Rattle.std.proofs.lemmas.Bool.{and_parts, leb-true, ltb-true}
use Rattle.std.proofs.lemmas.Option.{same_Some}
use Rattle.std.specs.List.{list_all}
use Rattle.std.specs.Result.{result_unwrap_or}
use Rattle.std.specs.Char.{to_ascii_lowercase}
use Rattle.hex.specs.Hex.{decode_of, decode_pairs, digit_or_error, encode_lower, encode_with, hex_digit_value, pair_value, value_at, ◌>>=◌}
use Rattle.hex.specs.declared.error.FromHexError.{FromHexError}
use Rattle.hex.specs.declared.error.FromHexError.TheVariants.{InvalidHexCharacter, InvalidStringLength, OddLength, OutOfMemory}
use Rattle.hex.proofs.HexLemmas.{decode_of-even, decode_pairs-ok}
use Rattle.hex.proofs.Pairs.{cons_byte, decode_pairs-ok_pair}
use Rattle.mv_move_types.specs.declared.refusal.Refusal.TheVariants.{Phase, Memory}
use Rattle.mv_machine.specs.Lines.{hex_digit}
use Rattle.mv_module_text.specs.Fits.{is_byte}
use Rattle.mv_module_text.specs.Laws.{AreBytes}
use Rattle.mv_binary_format.proofs.Back.{all-are_bytes}
use Rattle.moveledger.specs.Hexadecimal.{hexadecimal, IsHexadecimal}
use Rattle.moveledger.specs.Checking.{refusal_of}
use Rattle.mv_lines.proofs.Shows.Digits.{digit}

-- a digit in either case has the value of the digit in lower case
hex_digit_value-lower : (c d : ℕ) → d < 16 → to_ascii_lowercase c ≡ hex_digit d → hex_digit_value c ≡ Some d
hex_digit_value-lower c d lt e = grind (arith)

-- which letter or number a digit is
which : (upper lower number : Bool) (x y z d : ℕ) → cond upper (Some x) (cond lower (Some y) (cond number (Some z) None)) ≡ Some d
    → ((upper ≡ true) × (x ≡ d)) ⊎ (((lower ≡ true) × (y ≡ d)) ⊎ ((number ≡ true) × (z ≡ d)))
which true lower number x y z d e = inl (refl, same_Some x d e)
which false true number x y z d e = inr (inl (refl, same_Some y d e))
which false false true x y z d e = inr (inr (refl, same_Some z d e))
which false false false x y z d e = cc

-- the digit of a letter of upper case, of one of lower case, and of a number
of-upper : (c d : ℕ) → 65 ≤ c → c ≤ 70 → c - 55 ≡ d → (d < 16) × (to_ascii_lowercase c ≡ hex_digit d)
of-upper c d low high e = (omega arith, grind (arith))

of-lower : (c d : ℕ) → 97 ≤ c → c ≤ 102 → c - 87 ≡ d → (d < 16) × (to_ascii_lowercase c ≡ hex_digit d)
of-lower c d low high e = (omega arith, grind (arith))

of-number : (c d : ℕ) → 48 ≤ c → c ≤ 57 → c - 48 ≡ d → (d < 16) × (to_ascii_lowercase c ≡ hex_digit d)
of-number c d low high e = (omega arith, grind (arith))

lower-hex_digit_value : (c d : ℕ) → hex_digit_value c ≡ Some d → (d < 16) × (to_ascii_lowercase c ≡ hex_digit d)
lower-hex_digit_value c d e =
    elim (which (nat_le 65 c && nat_le c 70) (nat_le 97 c && nat_le c 102) (nat_le 48 c && nat_le c 57) (c - 55) (c - 87) (c - 48) d e) [
      | inl h ↦ let p = and_parts (nat_le 65 c) (nat_le c 70) h.0 in of-upper c d (leb-true 65 c p.0) (leb-true c 70 p.1) h.1
      | inr other ↦
          elim other [
            | inl h ↦ let p = and_parts (nat_le 97 c) (nat_le c 102) h.0 in of-lower c d (leb-true 97 c p.0) (leb-true c 102 p.1) h.1
            | inr h ↦ let p = and_parts (nat_le 48 c) (nat_le c 57) h.0 in of-number c d (leb-true 48 c p.0) (leb-true c 57 p.1) h.1
          ]
    ]

-- both steps gave a value
bind-ok : {A B : Type 0} (r : Result A FromHexError) (f : A → Result B FromHexError) (y : B) → (r >>= f) ≡ Ok y → (x : A) × (r ≡ Ok x) × (f x ≡ Ok y)
bind-ok (Ok x) f y h = (x, refl, h)
bind-ok (Err e) f y h = cc h

-- a digit that was read has its value
value-read : (c i : ℕ) (o : Option ℕ) (v : ℕ) → digit_or_error c i o ≡ Ok v → o ≡ Some v
value-read c i (Some w) v h = ap Some (ap (λ (r : Result ℕ FromHexError). result_unwrap_or r 0) h)
value-read c i None v h = cc h

-- pairs of digits that were read are the bytes' digits, in lower case
lower-read : (i : ℕ) (text bytes : List ℕ) → decode_pairs i text ≡ Ok bytes → map to_ascii_lowercase text ≡ hexadecimal bytes
unfolding decode_pairs
lower-read i [] bytes h =
    let e : [] ≡ bytes = ap (λ (r : Result (List ℕ) FromHexError). result_unwrap_or r []) h in
    rw (← e) refl
lower-read i (a ∷ []) bytes h = cc h
lower-read i (a ∷ b ∷ rest) bytes h =
    let whole = bind-ok (pair_value a b i) _ bytes h in
    let first = bind-ok (value_at a i) _ whole.0 whole.1 in
    let second = bind-ok (value_at b (i + 1)) _ whole.0 first.2 in
    let others = bind-ok (decode_pairs (i + 2) rest) _ bytes whole.2 in
    let high = lower-hex_digit_value a first.0 (value-read a i (hex_digit_value a) first.0 first.1) in
    let low = lower-hex_digit_value b second.0 (value-read b (i + 1) (hex_digit_value b) second.0 second.1) in
    let ih = lower-read (i + 2) rest others.0 others.1 in
    let byte : first.0 * 16 + second.0 ≡ whole.0 = ap (λ (r : Result ℕ FromHexError). result_unwrap_or r 0) second.2 in
    let e : whole.0 ∷ others.0 ≡ bytes = ap (λ (r : Result (List ℕ) FromHexError). result_unwrap_or r []) others.2 in
    let over : whole.0 / 16 ≡ first.0 = omega (arith, byte, high.0, low.0) in
    let under : whole.0 % 16 ≡ second.0 = omega (arith, byte, high.0, low.0) in
    rw (← e, over, under, high.1, low.1, ih) refl

-- digits of bytes in either case are read as the bytes
read-lower : (i : ℕ) (text bytes : List ℕ) → AreBytes bytes → map to_ascii_lowercase text ≡ hexadecimal bytes → (decode_pairs i text ≡ Ok bytes) × (length text ≡ 2 * length bytes)
unfolding decode_pairs
read-lower i [] [] are h = (refl, refl)
read-lower i [] (x ∷ xs) are h = absurd (let no : ⊥ = cc in no)
read-lower i (a ∷ []) [] are h = absurd (let no : ⊥ = cc in no)
read-lower i (a ∷ []) (x ∷ xs) are h = absurd (let no : ⊥ = cc in no)
read-lower i (a ∷ b ∷ rest) [] are h = absurd (let no : ⊥ = cc in no)
read-lower i (a ∷ b ∷ rest) (x ∷ xs) are h =
    let parts = and_parts (is_byte x) (list_all is_byte xs) are in
    let fits : x < 256 = ltb-true x 256 parts.0 in
    let high : to_ascii_lowercase a ≡ hex_digit (x / 16) = cc in
    let low : to_ascii_lowercase b ≡ hex_digit (x % 16) = cc in
    let others : map to_ascii_lowercase rest ≡ hexadecimal xs = cc in
    let first : value_at a i ≡ Ok (x / 16) = ap (digit_or_error a i) (hex_digit_value-lower a (x / 16) (omega arith) high) in
    let second : value_at b (i + 1) ≡ Ok (x % 16) = ap (digit_or_error b (i + 1)) (hex_digit_value-lower b (x % 16) (omega arith) low) in
    let pair : pair_value a b i ≡ Ok (x / 16 * 16 + x % 16) = rw (first, second) refl in
    let ih = read-lower (i + 2) rest xs parts.1 others in
    let whole : x / 16 * 16 + x % 16 ≡ x = omega arith in (
      decode_pairs-ok_pair i a b _ rest pair ∙ ap (cons_byte (x / 16 * 16 + x % 16)) ih.0 ∙ ap (λ (v : ℕ). Ok (v ∷ xs)) whole,
      let long = ih.1 in omega (arith, long),
    )

-- what is encoded is the bytes' digits
pub encode_lower-hexadecimal : (bytes : List ℕ) → AreBytes bytes → encode_lower bytes ≡ hexadecimal bytes
unfolding encode_with
encode_lower-hexadecimal [] are = refl
encode_lower-hexadecimal (b ∷ bytes) are =
    let parts = and_parts (is_byte b) (list_all is_byte bytes) are in
    let fits : b < 256 = ltb-true b 256 parts.0 in
    let high = digit (b / 16) (omega arith) in
    let low = digit (b % 16) (omega arith) in
    let others = encode_lower-hexadecimal bytes parts.1 in
    rw (high, low, others) refl

-- what is decoded has a length that is even
even : (odd : Bool) (r : Result (List ℕ) FromHexError) (bytes : List ℕ) → cond odd (Err OddLength) r ≡ Ok bytes → r ≡ Ok bytes
even true r bytes h = cc h
even false r bytes h = h

pub hexadecimal-decoded : (text bytes : List ℕ) → decode_of text ≡ Ok bytes → IsHexadecimal text bytes
hexadecimal-decoded text bytes h =
    let pairs = even (length text % 2 == 1) (decode_pairs 0 text) bytes h in
    (all-are_bytes bytes (λ k. (decode_pairs-ok 0 text bytes pairs).2 k), lower-read 0 text bytes pairs)

pub decode_of-hexadecimal : (text bytes : List ℕ) → IsHexadecimal text bytes → decode_of text ≡ Ok bytes
decode_of-hexadecimal text bytes h =
    let read = read-lower 0 text bytes h.0 h.1 in
    let long = read.1 in
    decode_of-even text (omega (arith, long)) ∙ read.0

-- digits that are refused spell no bytes
pub refused-hexadecimal : (text : List ℕ) (e : FromHexError) → (e ≡ OutOfMemory) ⊎ (decode_of text ≡ Err e) → refusal_of e ≡ Phase 9 → (bytes : List ℕ) → IsHexadecimal text bytes → ⊥
refused-hexadecimal text e (inl memory) is bytes spelled = let no : Memory ≡ Phase 9 = ap refusal_of (sym memory) ∙ is in cc
refused-hexadecimal text e (inr h) is bytes spelled = let no : Ok bytes ≡ Err e = sym (decode_of-hexadecimal text bytes spelled) ∙ h in cc

pub refusals : (e : FromHexError) → (refusal_of e ≡ Phase 9) ⊎ (refusal_of e ≡ Memory)
refusals (InvalidHexCharacter c i) = inl refl
refusals OddLength = inl refl
refusals InvalidStringLength = inl refl
refusals OutOfMemory = inr refl
