-- An address as hexadecimal digits.
use Rattle.mv_lines.proofs.Common.{[], ◌%◌, ◌++◌, ◌/◌, ◌<◌, ◌∙◌, ◌∷◌, ◌≡◌, Bool, Err, List, Ok, Result, ap, arith, flat_map, inl, inr, refl, slice_index, suc, true, zero, ℕ, and_parts, cases_lt}
use Rattle.mv_lines.proofs.Common.{eqb-true, byte_at, bytes_high_first, to_be_bytes, w128, ◌&&◌, ◌==◌, OnOk, if◌then◌else◌, hex_digit, encode_lower, lower_digits}
use Rattle.std.specs.Result.{is_ok}
use Rattle.mv_machine.specs.Lines.{address_text}
use Rattle.hex.specs.Hex.{encode_with}
use Rattle.mv_module_text.proofs.Numbers.{byte_small}

-- the test of one digit, which computes
abbrev is_same : ℕ → Bool
is_same d = slice_index lower_digits d == hex_digit d

-- the test of the first n
abbrev are_same : ℕ → Bool
are_same zero = true
are_same (suc n) = is_same n && are_same n

same_at : (n k : ℕ) → are_same n ≡ true → k < n → is_same k ≡ true
same_at zero k h lt = absurd (omega arith)
same_at (suc n) k h lt =
    let parts = and_parts (is_same n) (are_same n) h in
    elim (cases_lt k n) [
      | inl below ↦ same_at n k parts.1 below
      | inr top ↦
          let e : k ≡ n = omega arith in
          rw e parts.0
    ]

pub digit : (d : ℕ) → d < 16 → slice_index lower_digits d ≡ hex_digit d
digit d lt = eqb-true (slice_index lower_digits d) (hex_digit d) (same_at 16 d refl lt)

digits : (k n : ℕ) → encode_with lower_digits (bytes_high_first k n) ≡ flat_map (λ b. hex_digit (b / 16) ∷ hex_digit (b % 16) ∷ []) (bytes_high_first k n)
unfolding encode_with
digits zero n = refl
digits (suc k) n =
    let b : ℕ = byte_at k n in
    let lt : b < 256 = byte_small k n in
    let high : slice_index lower_digits (b / 16) ≡ hex_digit (b / 16) = digit (b / 16) (omega (arith, lt)) in
    let low : slice_index lower_digits (b % 16) ≡ hex_digit (b % 16) = digit (b % 16) (omega arith) in
    ap (λ h. h ∷ slice_index lower_digits (b % 16) ∷ encode_with lower_digits (bytes_high_first k n)) high
    ∙ ap (λ l. hex_digit (b / 16) ∷ l ∷ encode_with lower_digits (bytes_high_first k n)) low
    ∙ ap (λ t. hex_digit (b / 16) ∷ hex_digit (b % 16) ∷ t) (digits k n)

-- the digits of an address's bytes
pub address_digits : (a : ℕ) → encode_lower (to_be_bytes w128 a) ≡ address_text a
address_digits a = digits 16 a

-- what a list has where something was put after it
pub put_after : {T E : Type 0} (r : Result T E) (old new xs ys : List ℕ) → new ≡ (if is_ok r then old ++ xs else old) → xs ≡ ys → OnOk r (new ≡ old ++ ys)
put_after (Ok v) old new xs ys h e = h ∙ ap (λ l. old ++ l) e
put_after (Err d) old new xs ys h e = tt
