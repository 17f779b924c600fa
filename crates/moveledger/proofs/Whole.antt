-- Where no whole record stands.
use Rattle.std.proofs.Common.{◌≡◌, ℕ, ◌+◌, ◌≤◌, ◌<◌, List, [], ◌∷◌, ◌++◌, length, arith, refl, sym, ap, ◌∙◌, append_assoc, length-append, subst}
use Rattle.mv_uleb.specs.Uleb.{IsUleb}
use Rattle.mv_uleb.proofs.Spelled.{one_form}
use Rattle.mv_move_types.specs.Limits.{most_payload_bytes}
use Rattle.moveledger.specs.Records.{IsText, NoWhole}
use Rattle.moveledger.specs.Reading.{NoLength}
use Rattle.moveledger.specs.declared.streaming.EngineError.{EngineError}
use Rattle.moveledger.specs.declared.streaming.EngineError.TheVariants.{Read, Write}

pub NoWhole-nil : NoWhole []
NoWhole-nil kind payload front more t e =
    let bad : [] ≡ kind ∷ ((t.0 ++ payload) ++ more) = e ∙ ap (λ l. l ++ more) t.3 in cc

-- the bytes of a whole record at the front: after its kind its length, its payload and the others
after_kind : (k kind : ℕ) (xs len payload front more : List ℕ) → front ≡ kind ∷ (len ++ payload) → k ∷ xs ≡ front ++ more → xs ≡ len ++ (payload ++ more)
after_kind k kind xs len payload front more e h =
    let joined : k ∷ xs ≡ kind ∷ ((len ++ payload) ++ more) = h ∙ ap (λ l. l ++ more) e in
    let rest : xs ≡ (len ++ payload) ++ more = cc in
    rest ∙ append_assoc len payload more

pub NoWhole-length : (k : ℕ) (xs : List ℕ) → NoLength xs → NoWhole (k ∷ xs)
NoWhole-length k xs none kind payload front more t e =
    none (length payload) t.0 (payload ++ more) t.2 t.1 (after_kind k kind xs t.0 payload front more t.3 e)

pub NoWhole-payload : (k n : ℕ) (len took : List ℕ) → IsUleb len n → length took < n → NoWhole (k ∷ (len ++ took))
NoWhole-payload k n len took u lt kind payload front more t e =
    let h = after_kind k kind (len ++ took) t.0 payload front more t.3 e in
    let one = one_form len t.0 took (payload ++ more) n (length payload) u t.1 h in
    let sizes : length len + length took ≡ length t.0 + (length payload + length more) =
    sym (length-append len took) ∙ ap length h ∙ length-append t.0 (payload ++ more) ∙ ap (λ m. length t.0 + m) (length-append payload more) in
    let same : length len ≡ length t.0 = ap length one.0 in
    omega (arith, sizes, same, one.1)

-- a length and a payload of that many bytes are a record
pub IsText-from : (k n : ℕ) (len took items : List ℕ) → IsUleb len n → n ≤ most_payload_bytes → items ≡ took → length took ≡ n → IsText (k ∷ (len ++ took)) k items
IsText-from k n len took items u le e size =
    let P : List ℕ → Type 0 = λ l. IsText (k ∷ (len ++ took)) k l in
    let Q : ℕ → Type 0 = λ m. IsUleb len m in
    subst P (sym e) (len, subst Q (sym size) u, omega (arith, size), refl)

pub read_not_write : (e : EngineError) → e ≡ Read → e ≡ Write → ⊥
read_not_write e p q = cc
