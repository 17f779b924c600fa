-- What is unfinished or cut is no whole record.
use Rattle.std.proofs.Common.{◌≡◌, ◌≢◌, ℕ, ◌<◌, ◌≤◌, List, [], ◌∷◌, ◌++◌, length, take, drop, arith, sym, subst, inl, inr, append-nil, take-append-drop, length-take-le}
use Rattle.mv_uleb.specs.Uleb.{IsUleb, AreHigh}
use Rattle.mv_move_types.specs.Limits.{most_payload_bytes}
use Rattle.moveledger.specs.Records.{NoWhole}
use Rattle.moveledger.specs.Reading.{NoLength, IsLengthBegun, HasNoLength, LengthFails, IsUnfinished, IsCutAt, has_no_end, is_no_number, at_kind, in_length, in_payload, at_end, at_length}
use Rattle.moveledger.proofs.Lengths.{NoLength-bad, NoLength-high, NoLength-ten}
use Rattle.moveledger.proofs.Whole.{NoWhole-length, NoWhole-nil, NoWhole-payload}

pub NoWhole-unfinished : (took : List ℕ) → IsUnfinished took → NoWhole took
NoWhole-unfinished _ at_kind = NoWhole-nil
NoWhole-unfinished _ (in_length kind bytes begun) = NoWhole-length kind bytes (NoLength-high bytes begun.0)
NoWhole-unfinished _ (in_payload kind n len bytes u within less) = NoWhole-payload kind n len bytes u less

NoLength-fails : (bytes left : List ℕ) → LengthFails bytes → NoLength (bytes ++ left)
NoLength-fails _ left (has_no_end bytes high ten) = NoLength-ten bytes left high ten
NoLength-fails _ left (is_no_number high last begun low none) =
    let s : List ℕ = high ++ last ∷ [] in
    NoLength-bad high left last begun.0 low (λ n len le u. none n (take len s) (drop len s) le u (sym (take-append-drop len s)))

pub NoWhole-cut : (took left : List ℕ) → IsCutAt took left → NoWhole (took ++ left)
NoWhole-cut _ _ (at_end took some part) =
    let P : List ℕ → Type 0 = λ l. NoWhole l in
    subst P (sym (append-nil took)) (NoWhole-unfinished took part)
NoWhole-cut _ _ (at_length kind bytes left fails) = NoWhole-length kind (bytes ++ left) (NoLength-fails bytes left fails)

pub some-cut : (took left : List ℕ) → IsCutAt took left → took ≢ []
some-cut _ _ (at_end took some part) = some
some-cut _ _ (at_length kind bytes left fails) = λ e. cc

-- fewer than ten bytes of a length, each of them high
pub length-begun : (i : ℕ) (bytes : List ℕ) → AreHigh (take i bytes) → length bytes ≡ 10 → i < 10 → IsLengthBegun (take i bytes)
length-begun i bytes high ten less =
    let size : length (take i bytes) ≡ i = length-take-le i bytes (omega (arith, ten, less)) in
    (high, omega (arith, size, less))

-- a first byte that isn't high ends a length, which fails where it spells no number
pub length-fails : (took : List ℕ) (b : ℕ) → IsLengthBegun took → b < 128 → ((n len : ℕ) → n ≤ most_payload_bytes → IsUleb (take len (took ++ b ∷ [])) n → ⊥) → LengthFails (took ++ b ∷ [])
length-fails took b begun low none =
    let P : List ℕ → Type 0 = λ l. NoLength l in
    is_no_number took b begun low (subst P (append-nil (took ++ b ∷ [])) (NoLength-bad took [] b begun.0 low none))

-- what is cut in its length, or in its payload
pub cut-length : (kind : ℕ) (took left : List ℕ) → IsLengthBegun took → left ≡ [] → IsCutAt (kind ∷ took) left
cut-length kind took left begun none =
    let P : List ℕ → Type 0 = λ l. IsCutAt (kind ∷ took) l in
    subst P (sym none) (at_end (kind ∷ took) (λ e. cc) (in_length kind took begun))

pub cut-payload : (kind n : ℕ) (len took left : List ℕ) → IsUleb len n → n ≤ most_payload_bytes → length took < n → left ≡ [] → IsCutAt (kind ∷ (len ++ took)) left
cut-payload kind n len took left u within less none =
    let P : List ℕ → Type 0 = λ l. IsCutAt (kind ∷ (len ++ took)) l in
    subst P (sym none) (at_end (kind ∷ (len ++ took)) (λ e. cc) (in_payload kind n len took u within less))

-- where there is no length, the record is cut
pub cut-no_length : (kind : ℕ) (took left : List ℕ) → HasNoLength took left → IsCutAt (kind ∷ took) left
cut-no_length kind took left (inl h) = cut-length kind took left h.0 h.1
cut-no_length kind took left (inr fails) = at_length kind took left fails
