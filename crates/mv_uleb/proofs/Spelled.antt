-- The forms of numbers, and what reading gives of bytes that begin with one.
use Rattle.std.proofs.Common.{◌≡◌, Bool, subst, ℕ, ◌+◌, ◌*◌, ◌<◌, ◌≤◌, ◌^◌, ◌/◌, ◌%◌, List, [], ◌∷◌, ◌++◌, arith, refl, ap, suc, zero, sym, ◌∙◌}
use Rattle.std.proofs.Common.{Option, Some, None, IsTrue, nat_lt, nat_le, lt-ltb, le-ltb, ltb-true, true, false, option_and_then, eq-eqb, ne_eqb, inl}
use Rattle.std.proofs.Common.{inr, ◌-◌}
use Rattle.std.specs.List.{list_all}
use Rattle.std.specs.Bool.{then_some}
use Rattle.std.proofs.lemmas.Bool.{cases_lt, cases_eq, and_parts, leb-true, le-leb, lt-leb}
use Rattle.std.proofs.lemmas.Option.{some_pair_parts, none-some, same_Some}
use Rattle.mv_uleb.specs.Uleb.{IsUleb, uleb, uleb_in}
use Rattle.mv_uleb.specs.Parsing.{spelled, with_low, number_from}

-- No form begins another, and no bytes are two numbers' forms.
pub one_form : (a b x y : List ℕ) (m n : ℕ) → IsUleb a m → IsUleb b n → a ++ x ≡ b ++ y → (a ≡ b) × (m ≡ n)
one_form [] b x y m n p q e = absurd p
one_form (d ∷ a) [] x y m n p q e = absurd q
one_form (d ∷ []) (f ∷ []) x y m n p q e = let h : d ≡ f = cc in (ap (λ z. z ∷ []) h, omega (arith, p.1, q.1))
one_form (d ∷ []) (f ∷ g ∷ b) x y m n p q e = let h : d ≡ f = cc in absurd (omega (arith, p.0, q.0))
one_form (d ∷ c ∷ a) (f ∷ []) x y m n p q e = let h : d ≡ f = cc in absurd (omega (arith, p.0, q.0))
one_form (d ∷ c ∷ a) (f ∷ g ∷ b) x y m n p q e =
    let h : d ≡ f = cc in
    let r : (c ∷ a) ++ x ≡ (g ∷ b) ++ y = cc in
    let s = one_form (c ∷ a) (g ∷ b) x y p.2 q.2 p.5 q.5 r in
    let t : (c ∷ a) ≡ (g ∷ b) = s.0 in
    let v : p.2 ≡ q.2 = s.1 in
    (cc, omega (arith, p.4, q.4))

-- a number has one form
pub form_is : (a b : List ℕ) (n : ℕ) → IsUleb a n → IsUleb b n → a ≡ b
form_is [] b n p q = absurd p
form_is (d ∷ a) [] n p q = absurd q
form_is (d ∷ []) (f ∷ []) n p q = let h : d ≡ f = omega (arith, p.1, q.1) in ap (λ z. z ∷ []) h
form_is (d ∷ []) (f ∷ g ∷ b) n p q = absurd (omega (arith, p.0, p.1, q.0, q.3, q.4))
form_is (d ∷ c ∷ a) (f ∷ []) n p q = absurd (omega (arith, q.0, q.1, p.0, p.3, p.4))
form_is (d ∷ c ∷ a) (f ∷ g ∷ b) n p q =
    let high : p.2 ≡ q.2 = omega (arith, p.0, p.1, q.0, q.1, p.4, q.4) in
    let low : d ≡ f = omega (arith, p.4, q.4) in
    let u : IsUleb (c ∷ a) q.2 = subst (λ z. IsUleb (c ∷ a) z) high p.5 in
    let rest : (c ∷ a) ≡ (g ∷ b) = form_is (c ∷ a) (g ∷ b) q.2 u q.5 in
    cc

-- a byte before a form
pub IsUleb-more : (b n high : ℕ) (t : List ℕ) → 128 ≤ b → b < 256 → 0 < high → n + 128 ≡ b + 128 * high → IsUleb t high → IsUleb (b ∷ t) n
IsUleb-more b n high [] ge lt pos e u = absurd u
IsUleb-more b n high (c ∷ bs) ge lt pos e u = (ge, lt, high, pos, e, u)

-- a last byte at the front
pub spelled-last : (b : ℕ) (bs : List ℕ) → b < 128 → spelled (b ∷ bs) ≡ Some (b, bs)
spelled-last b bs lt = rw (lt-ltb b 128 lt) refl

-- a further byte at the front
pub spelled-further : (b : ℕ) (bs : List ℕ) → 128 ≤ b → spelled (b ∷ bs) ≡ option_and_then (with_low b) (spelled bs)
spelled-further b bs ge = rw (le-ltb b 128 ge) refl

-- the low bits before a number that isn't 0
with_low-some : (b n high : ℕ) (rest : List ℕ) → 0 < high → n + 128 ≡ b + 128 * high → 128 ≤ b → with_low b (high, rest) ≡ Some (n, rest)
with_low-some b n high rest pos e ge =
    let ne : high ≡ 0 → ⊥ = λ h. omega arith in
    let same : b - 128 + 128 * high ≡ n = omega arith in
    rw (ne_eqb high 0 ne, same) refl

-- a form at the front is read
pub spelled-front : (front rest : List ℕ) (n : ℕ) → IsUleb front n → spelled (front ++ rest) ≡ Some (n, rest)
spelled-front [] rest n u = absurd u
spelled-front (b ∷ []) rest n u = spelled-last b rest u.0 ∙ ap (λ v. Some (v, rest)) (sym u.1)
spelled-front (b ∷ c ∷ bs) rest n u =
    spelled-further b (c ∷ bs ++ rest) u.0
    ∙ ap (option_and_then (with_low b)) (spelled-front (c ∷ bs) rest u.2 u.5)
    ∙ with_low-some b n u.2 rest u.3 u.4 u.0

-- no low bits stand before 0
with_low-none : (b : ℕ) (r : ℕ × List ℕ) → r.0 ≡ 0 → with_low b r ≡ None
with_low-none b r e = rw (eq-eqb r.0 0 e) refl

-- the low bits before another number
with_low-is : (b : ℕ) (r : ℕ × List ℕ) → (r.0 ≡ 0 → ⊥) → with_low b r ≡ Some (b - 128 + 128 * r.0, r.1)
with_low-is b r ne = rw (ne_eqb r.0 0 ne) refl

-- the parts of a byte before what was read
pub with_low-parts : (b n : ℕ) (rest : List ℕ) (r : Option (ℕ × List ℕ)) → 128 ≤ b → option_and_then (with_low b) r ≡ Some (n, rest)
    → (high : ℕ) × (0 < high) × (n + 128 ≡ b + 128 * high) × (r ≡ Some (high, rest))
with_low-parts b n rest None ge e = absurd (none-some (n, rest) e)
with_low-parts b n rest (Some r) ge e =
    elim (cases_eq r.0 0) [
      | inl z ↦ absurd (none-some (n, rest) (sym (with_low-none b r z) ∙ e))
      | inr ne ↦
          let parts = some_pair_parts (b - 128 + 128 * r.0) n r.1 rest (sym (with_low-is b r ne) ∙ e) in
          let v : b - 128 + 128 * r.0 ≡ n = parts.0 in
          (r.0, omega arith, omega arith, ap (λ z. Some (r.0, z)) parts.1)
    ]

-- what is read is a form at the front
pub spelled-parts : (bytes : List ℕ) (n : ℕ) (rest : List ℕ) → IsTrue (list_all (λ b. nat_lt b 256) bytes) → spelled bytes ≡ Some (n, rest)
    → (front : List ℕ) × (bytes ≡ front ++ rest) × IsUleb front n
spelled-parts [] n rest ok e = absurd (cc)
spelled-parts (b ∷ bs) n rest ok e =
    let parts = and_parts (nat_lt b 256) (list_all (λ b. nat_lt b 256) bs) ok in
    elim (cases_lt b 128) [
      | inl lt ↦
          let p = some_pair_parts b n bs rest (sym (spelled-last b bs lt) ∙ e) in
          (b ∷ [], ap (λ z. b ∷ z) p.1, (lt, sym p.0))
      | inr ge ↦
          let p = with_low-parts b n rest (spelled bs) ge (sym (spelled-further b bs ge) ∙ e) in
          let q = spelled-parts bs p.0 rest parts.1 p.3 in
          (b ∷ q.0, ap (λ z. b ∷ z) q.1, IsUleb-more b n p.0 q.0 ge (ltb-true b 256 parts.0) p.1 p.2 q.2)
    ]

-- the form of a number that so many bytes have room for
pub IsUleb-uleb_in : (k n : ℕ) → n < 128 ^ (suc k) → IsUleb (uleb_in k n) n
IsUleb-uleb_in zero n lt = (omega arith, refl)
IsUleb-uleb_in (suc k) n lt =
    elim (cases_lt n 128) [
      | inl small ↦ rw (lt-ltb n 128 small) (small, refl)
      | inr large ↦ rw (le-ltb n 128 large)
          (IsUleb-more (n % 128 + 128) n (n / 128) (uleb_in k (n / 128)) (omega arith) (omega arith) (omega arith) (omega arith)
          (IsUleb-uleb_in k (n / 128) (omega arith)))
    ]

-- each number below 2 ^ 70 has its form
pub IsUleb-uleb : (n : ℕ) → n < 2 ^ 70 → IsUleb (uleb n) n
unfolding uleb
IsUleb-uleb n lt = IsUleb-uleb_in 9 n lt

-- what a test lets through
pub then_some-parts : {A : Type 0} (b : Bool) (x y : A) → then_some b x ≡ Some y → (b ≡ true) × (x ≡ y)
then_some-parts true x y e = (refl, same_Some x y e)
then_some-parts false x y e = absurd (none-some y e)

-- a number up to the greatest one that is read
number_from-kept : (max n : ℕ) (rest : List ℕ) (r : Option (ℕ × List ℕ)) → option_and_then (λ r. then_some (nat_le r.0 max) r) r ≡ Some (n, rest)
    → (r ≡ Some (n, rest)) × (n ≤ max)
number_from-kept max n rest None e = absurd (none-some (n, rest) e)
number_from-kept max n rest (Some r) e =
    let p = then_some-parts (nat_le r.0 max) r (n, rest) e in
    let same : r.0 ≡ n = ap (λ z. z.0) p.1 in
    let small : r.0 ≤ max = leb-true r.0 max p.0 in
    (ap (λ z. Some z) p.1, omega arith)

-- what reading gives up to a greatest number
pub number_from-some : (max n : ℕ) (bytes rest : List ℕ) → spelled bytes ≡ Some (n, rest) → n ≤ max → number_from max bytes ≡ Some (n, rest)
number_from-some max n bytes rest e le = rw (e, le-leb n max le) refl

-- it gives nothing above it
pub number_from-above : (max n : ℕ) (bytes rest : List ℕ) → spelled bytes ≡ Some (n, rest) → max < n → number_from max bytes ≡ None
number_from-above max n bytes rest e lt = rw (e, lt-leb n max lt) refl

-- it gives nothing of bytes that no form begins
pub number_from-none : (max : ℕ) (bytes : List ℕ) → spelled bytes ≡ None → number_from max bytes ≡ None
number_from-none max bytes e = rw e refl

-- a number up to the greatest one stands at the front only where its form does
pub number_from-parts : (max n : ℕ) (bytes rest : List ℕ) → max < 2 ^ 64 → IsTrue (list_all (λ b. nat_lt b 256) bytes)
    → number_from max bytes ≡ Some (n, rest) → (bytes ≡ uleb n ++ rest) × (n ≤ max)
number_from-parts max n bytes rest small ok e =
    let kept = number_from-kept max n rest (spelled bytes) e in
    let p = spelled-parts bytes n rest ok kept.0 in
    let le : n ≤ max = kept.1 in
    (p.1 ∙ ap (λ z. z ++ rest) (form_is p.0 (uleb n) n p.2 (IsUleb-uleb n (omega arith))), le)

-- where a number's form stands at the front the number is read
pub number_from-uleb : (max n : ℕ) (rest : List ℕ) → n < 2 ^ 70 → n ≤ max → number_from max (uleb n ++ rest) ≡ Some (n, rest)
number_from-uleb max n rest fits le = number_from-some max n (uleb n ++ rest) rest (spelled-front (uleb n) rest n (IsUleb-uleb n fits)) le
