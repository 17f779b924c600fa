-- Where the length of a record ends.
use Rattle.std.proofs.Common.{◌≡◌, ℕ, ◌+◌, ◌*◌, ◌≤◌, ◌<◌, List, [], ◌∷◌, ◌++◌, length, take, drop, arith, sym, ap, ◌∙◌, subst, zero, suc, append-nil}
use Rattle.std.proofs.Common.{take-append-drop, take_all, le_refl, length-append}
use Rattle.mv_uleb.specs.Uleb.{IsUleb, AreHigh}
use Rattle.std.specs.Prelude.{Some, None}
use Rattle.mv_uleb.specs.Parsing.{number_from}
use Rattle.mv_uleb.proofs.Spelled.{spelled-front, number_from-some}
use Rattle.mv_move_types.specs.Limits.{most_payload_bytes}
use Rattle.moveledger.specs.Reading.{NoLength}

pub AreHigh-push : (bs : List ℕ) (b : ℕ) → AreHigh bs → 128 ≤ b → AreHigh (bs ++ b ∷ [])
AreHigh-push [] b h ge = (ge, tt)
AreHigh-push (x ∷ bs) b h ge = (h.0, AreHigh-push bs b h.1 ge)

-- a length is longer than the high bytes that it begins with
pub high_longer : (took left len more : List ℕ) (n : ℕ) → AreHigh took → IsUleb len n → took ++ left ≡ len ++ more → length took < length len
high_longer took left [] more n h u e = absurd u
high_longer [] left (d ∷ ds) more n h u e = omega arith
high_longer (t ∷ ts) left (d ∷ []) more n h u e = let same : t ≡ d = cc in absurd (omega (arith, h.0, u.0))
high_longer (t ∷ ts) left (d ∷ c ∷ ds) more n h u e =
    let rest : ts ++ left ≡ (c ∷ ds) ++ more = cc in
    let longer : length ts < length (c ∷ ds) = high_longer ts left (c ∷ ds) more u.2 h.1 u.5 rest in
    omega (arith, longer)

-- the first byte that isn't high is the last of a length
pub last_of_length : (took left len more : List ℕ) (b n : ℕ) → AreHigh took → b < 128 → IsUleb len n → (took ++ b ∷ []) ++ left ≡ len ++ more → len ≡ took ++ b ∷ []
last_of_length took left [] more b n h lt u e = absurd u
last_of_length [] left (d ∷ []) more b n h lt u e = let same : d ≡ b = cc in ap (λ x. x ∷ []) same
last_of_length [] left (d ∷ c ∷ ds) more b n h lt u e = let same : b ≡ d = cc in absurd (omega (arith, u.0))
last_of_length (t ∷ ts) left (d ∷ []) more b n h lt u e = let same : t ≡ d = cc in absurd (omega (arith, h.0, u.0))
last_of_length (t ∷ ts) left (d ∷ c ∷ ds) more b n h lt u e =
    let same : d ≡ t = cc in
    let rest : (ts ++ b ∷ []) ++ left ≡ (c ∷ ds) ++ more = cc in
    let tail : (c ∷ ds) ≡ ts ++ b ∷ [] = last_of_length ts left (c ∷ ds) more b u.2 h.1 lt u.5 rest in
    cc

abbrev bound : ℕ → ℕ
bound zero = 1
bound (suc k) = 128 * bound k

short_length : (k : ℕ) (len : List ℕ) (n : ℕ) → IsUleb len n → n < 128 * bound k → length len ≤ suc k
short_length k [] n u lt = absurd u
short_length k (b ∷ []) n u lt = omega arith
short_length zero (b ∷ c ∷ bs) n u lt = absurd (omega (arith, u.0, u.3, u.4))
short_length (suc k) (b ∷ c ∷ bs) n u lt =
    let small : u.2 < 128 * bound k = omega (arith, u.0, u.4) in
    let tail : length (c ∷ bs) ≤ suc k = short_length k (c ∷ bs) u.2 u.5 small in
    omega (arith, tail)

-- ten high bytes begin no length
pub NoLength-ten : (took left : List ℕ) → AreHigh took → length took ≡ 10 → NoLength (took ++ left)
NoLength-ten took left h ten n len more le u e =
    let longer = high_longer took left len more n h u e in
    let short : length len ≤ 4 = short_length 3 len n u (omega arith) in
    omega (arith, longer, short)

-- nor do high bytes alone
pub NoLength-high : (took : List ℕ) → AreHigh took → NoLength took
NoLength-high took h n len more le u e =
    let whole : took ++ [] ≡ len ++ more = append-nil took ∙ e in
    let longer = high_longer took [] len more n h u whole in
    let sizes : length took ≡ length len + length more = ap length e ∙ length-append len more in
    omega (arith, longer, sizes)

-- what is read at the front of the bytes up to the first that isn't high is read from all of them
pub IsUleb-whole : (took : List ℕ) (b n used : ℕ) → AreHigh took → b < 128 → IsUleb (take used (took ++ b ∷ [])) n → IsUleb (took ++ b ∷ []) n
IsUleb-whole took b n used h lt u =
    let s : List ℕ = took ++ b ∷ [] in
    let P : List ℕ → Type 0 = λ l. IsUleb l n in
    subst P (last_of_length took [] (take used s) (drop used s) b n h lt u (append-nil s ∙ sym (take-append-drop used s))) u

-- where nothing is read from them, no length stands there
pub NoLength-bad : (took left : List ℕ) (b : ℕ) → AreHigh took → b < 128 → ((n len : ℕ) → n ≤ most_payload_bytes → IsUleb (take len (took ++ b ∷ [])) n → ⊥) → NoLength ((took ++ b ∷ []) ++ left)
NoLength-bad took left b h lt none n len more le u e =
    let s : List ℕ = took ++ b ∷ [] in
    let P : List ℕ → Type 0 = λ l. IsUleb l n in
    let same : len ≡ s = last_of_length took left len more b n h lt u e in
    none n (length s) le (subst P (same ∙ sym (take_all (length s) s (le_refl _))) u)

-- where no number up to a greatest one is read, no front spells one
pub none_from : (max : ℕ) (bytes : List ℕ) → number_from max bytes ≡ None → (n len : ℕ) → n ≤ max → IsUleb (take len bytes) n → ⊥
none_from max bytes none n len le u =
    let P : List ℕ → Type 0 = λ l. number_from max l ≡ Some (n, drop len bytes) in
    let found : number_from max (take len bytes ++ drop len bytes) ≡ Some (n, drop len bytes) =
    number_from-some max n (take len bytes ++ drop len bytes) (drop len bytes) (spelled-front (take len bytes) (drop len bytes) n u) le in
    let same : number_from max bytes ≡ Some (n, drop len bytes) = subst P (take-append-drop len bytes) found in
    cc
