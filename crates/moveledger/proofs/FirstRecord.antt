-- The record at the front of bytes.
use Rattle.std.proofs.Common.{◌≡◌, ℕ, suc, ◌+◌, ◌-◌, ◌≤◌, ◌<◌, List, ◌∷◌, ◌++◌, length, take, drop, arith, sym, ap, subst, ◌∙◌, take-append-drop, length-drop}
use Rattle.std.proofs.Math.Seq.{take-add}
use Rattle.std.specs.Prelude.{Some, None, slice_range}
use Rattle.mv_uleb.specs.Uleb.{IsUleb}
use Rattle.mv_uleb.specs.Parsing.{number_from}
use Rattle.mv_uleb.proofs.Spelled.{spelled-front, number_from-some}
use Rattle.mv_move_types.specs.Limits.{most_payload_bytes}
use Rattle.moveledger.specs.Reading.{NoLength}
use Rattle.moveledger.specs.Records.{IsText, NoWhole}
use Rattle.moveledger.proofs.Whole.{IsText-from, NoWhole-payload}

-- where no number is read, no length stands
pub no-length : (bytes : List ℕ) → number_from most_payload_bytes bytes ≡ None → NoLength bytes
no-length bytes none n len more le u e =
    let P : List ℕ → Type 0 = λ l. number_from most_payload_bytes l ≡ Some (n, more) in
    let found : number_from most_payload_bytes (len ++ more) ≡ Some (n, more) =
    number_from-some most_payload_bytes n (len ++ more) more (spelled-front len more n u) le in
    let same : number_from most_payload_bytes bytes ≡ Some (n, more) = subst P (sym e) found in
    cc

-- a kind, a length and a payload of that many bytes are the record at the front
pub is-first : (bytes rest payload : List ℕ) (kind used n : ℕ) → bytes ≡ kind ∷ rest → IsUleb (take used rest) n → n ≤ most_payload_bytes
    → payload ≡ slice_range rest used (used + n) → length payload + used ≡ used + n → IsText (take (1 + (used + n)) bytes) kind payload
is-first bytes rest payload kind used n e u le p size =
    let count : 1 + (used + n) ≡ suc (used + n) = omega arith in
    let width : (used + n) - used ≡ n = omega arith in
    let took : List ℕ = take n (drop used rest) in
    let is : payload ≡ took = p ∙ ap (λ m. take m (drop used rest)) width in
    let front : take (suc (used + n)) (kind ∷ rest) ≡ kind ∷ (take used rest ++ took) = ap (λ l. kind ∷ l) (take-add used n rest) in
    let whole : take (1 + (used + n)) bytes ≡ kind ∷ (take used rest ++ took) =
    ap (λ l. take (1 + (used + n)) l) e ∙ ap (λ m. take m (kind ∷ rest)) count ∙ front in
    let long : length payload ≡ n = omega (arith, size) in
    let P : List ℕ → Type 0 = λ l. IsText l kind payload in
    subst P (sym whole) (IsText-from kind n (take used rest) took payload u le is (ap length (sym is) ∙ long))

pub none-where-cut : (bytes rest : List ℕ) (kind used n : ℕ) → bytes ≡ kind ∷ rest → IsUleb (take used rest) n → used ≤ length rest → length rest < used + n
    → NoWhole bytes
none-where-cut bytes rest kind used n e u within short =
    let P : List ℕ → Type 0 = λ l. NoWhole l in
    let Q : List ℕ → Type 0 = λ l. NoWhole (kind ∷ l) in
    let left : length (drop used rest) ≡ length rest - used = length-drop used rest in
    subst P (sym e) (subst Q (take-append-drop used rest) (NoWhole-payload kind n (take used rest) (drop used rest) u (omega (arith, left, short, within))))
