-- What is read at the front of bytes is read there whatever follows.
use Rattle.std.proofs.Common.{[], ◌++◌, ◌+◌, ◌*◌, ◌-◌, ◌∙◌, ◌∷◌, ◌≡◌, ◌≤◌, List, None, Option, Some, ap, arith, drop, inl, inr, length, length-append}
use Rattle.std.proofs.Common.{nat_le, ne_eqb, option_and_then, refl, subst, suc, sym, take, true, zero, ℕ}
use Rattle.std.specs.Bool.{then_some}
use Rattle.std.proofs.lemmas.Bool.{cases_lt, leb-true, le-leb}
use Rattle.std.proofs.lemmas.Option.{some_pair_parts, none-some}
use Rattle.mv_uleb.specs.Parsing.{number_from, spelled, with_low}
use Rattle.mv_uleb.proofs.Spelled.{spelled-last, spelled-further, with_low-parts, then_some-parts}
use Rattle.mv_move_types.specs.declared.token.Width.{Width}
use Rattle.mv_move_types.specs.Tokens.{width_bytes}
use Rattle.mv_move_types.specs.Numbers.{little_endian}
use Rattle.mv_move_types.specs.Options.{◌>>=◌}
use Rattle.mv_module_text.specs.Parsing.{Read, byte_from, bytes_from, entries_from, number_of_from}
use Rattle.mv_module_text.proofs.Texts.{on_bind}

-- what is read is read whatever follows
abbrev pub Extends : {A : Type 0} → (List ℕ → Read A) → Type 0
Extends {A} from = (bytes rest more : List ℕ) (x : A) → from bytes ≡ Some (x, rest) → from (bytes ++ more) ≡ Some (x, rest ++ more)

-- something, and then something else
pub extends-bind : {A B : Type 0} (from : List ℕ → Read A) (next : A × List ℕ → Read B) → Extends from → ((x : A) → Extends (λ bytes. next (x, bytes)))
    → Extends (λ bytes. from bytes >>= next)
extends-bind from next first then bytes rest more y is =
    on_bind (from bytes) next (y, rest) is (λ r r_is there. ap (λ o. o >>= next) (first bytes r.1 more r.0 r_is) ∙ then r.0 r.1 rest more y there)

-- a number
pub spelled-extends : Extends spelled
spelled-extends [] rest more n is = absurd (none-some (n, rest) is)
spelled-extends (b ∷ bs) rest more n is =
    elim (cases_lt b 128) [
      | inl lt ↦
          let p = some_pair_parts b n bs rest (sym (spelled-last b bs lt) ∙ is) in
          spelled-last b (bs ++ more) lt ∙ ap (λ z. Some (z, bs ++ more)) p.0 ∙ ap (λ z. Some (n, z ++ more)) p.1
      | inr ge ↦
          let step = sym (spelled-further b bs ge) ∙ is in
          let p = with_low-parts b n rest (spelled bs) ge step in
          let ne : p.0 ≡ 0 → ⊥ = λ z. omega arith in
          let same : b - 128 + 128 * p.0 ≡ n = omega arith in
          spelled-further b (bs ++ more) ge ∙ ap (option_and_then (with_low b)) (spelled-extends bs rest more p.0 p.3) ∙ rw (ne_eqb p.0 0 ne, same) refl
    ]

-- a number that is read is the one that is spelled
pub number-kept : (most n : ℕ) (rest : List ℕ) (r : Option (ℕ × List ℕ)) → option_and_then (λ r. then_some (nat_le r.0 most) r) r ≡ Some (n, rest)
    → (r ≡ Some (n, rest)) × (nat_le n most ≡ true)
number-kept most n rest None is = absurd (none-some (n, rest) is)
number-kept most n rest (Some r) is =
    let p = then_some-parts (nat_le r.0 most) r (n, rest) is in
    let same : r.0 ≡ n = ap (λ z. z.0) p.1 in
    (ap (λ z. Some z) p.1, subst (λ k. nat_le k most ≡ true) same p.0)

pub number-extends : (most : ℕ) → Extends (number_from most)
number-extends most bytes rest more n is =
    let p = number-kept most n rest (spelled bytes) is in
    rw (spelled-extends bytes rest more n p.0, p.1) refl

-- a byte
pub byte-extends : Extends byte_from
byte-extends [] rest more b is = absurd (none-some (b, rest) is)
byte-extends (c ∷ bytes) rest more b is =
    let p = some_pair_parts c b bytes rest is in ap (λ z. Some (z, bytes ++ more)) p.0 ∙ ap (λ z. Some (b, z ++ more)) p.1

-- so many bytes
take-within : (n : ℕ) (bytes more : List ℕ) → n ≤ length bytes → take n (bytes ++ more) ≡ take n bytes
take-within zero bytes more le = refl
take-within (suc n) [] more le = absurd (omega (arith, le))
take-within (suc n) (b ∷ bytes) more le = ap (λ z. b ∷ z) (take-within n bytes more (omega (arith, le)))

drop-within : (n : ℕ) (bytes more : List ℕ) → n ≤ length bytes → drop n (bytes ++ more) ≡ drop n bytes ++ more
drop-within zero bytes more le = refl
drop-within (suc n) [] more le = absurd (omega (arith, le))
drop-within (suc n) (b ∷ bytes) more le = drop-within n bytes more (omega (arith, le))

pub bytes-extends : (n : ℕ) → Extends (bytes_from n)
bytes-extends n bytes rest more x is =
    let p = then_some-parts (nat_le n (length bytes)) (take n bytes, drop n bytes) (x, rest) is in
    let front : take n bytes ≡ x = ap (λ z. z.0) p.1 in
    let back : drop n bytes ≡ rest = ap (λ z. z.1) p.1 in
    let le : n ≤ length bytes = leb-true n (length bytes) p.0 in
    let longer : n ≤ length (bytes ++ more) = omega (arith, length-append bytes more) in
    rw (le-leb n (length (bytes ++ more)) longer, take-within n bytes more le, drop-within n bytes more le, front, back) refl

-- what was read, shown as something else
pub extends-shown : {A B : Type 0} (from : List ℕ → Read A) (show : A → B) → Extends from → Extends (λ bytes. from bytes >>= λ r. Some (show r.0, r.1))
extends-shown from show first = extends-bind from (λ r. Some (show r.0, r.1)) first (λ x bytes rest more y is.
    let p = some_pair_parts (show x) y bytes rest is in ap (λ z. Some (z, bytes ++ more)) p.0 ∙ ap (λ z. Some (y, z ++ more)) p.1)

pub number_of-extends : (w : Width) → Extends (number_of_from w)
number_of-extends w = extends-shown (bytes_from (width_bytes w)) little_endian (bytes-extends (width_bytes w))

-- so many entries
pub entries-extends : {A : Type 0} (each : List ℕ → Read A) → Extends each → (n : ℕ) → Extends (entries_from each n)
entries-extends each one zero bytes rest more xs is =
    let p = some_pair_parts [] xs bytes rest is in ap (λ z. Some (z, bytes ++ more)) p.0 ∙ ap (λ z. Some (xs, z ++ more)) p.1
entries-extends each one (suc n) bytes rest more xs is =
    extends-bind each (λ x. entries_from each n x.1 >>= λ xs. Some (x.0 ∷ xs.0, xs.1)) one
    (λ x. extends-shown (entries_from each n) (λ xs. x ∷ xs) (entries-extends each one n)) bytes rest more xs is
