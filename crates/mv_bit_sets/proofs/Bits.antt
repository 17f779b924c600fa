-- Words and the numbers in them.
use Rattle.std.proofs.Common.{◌≡◌, ◌↔◌, ◌⊎◌, ℕ, zero, suc, ◌+◌, ◌-◌, ◌*◌, ◌^◌, ◌<◌, ◌≤◌, ◌∙◌, ◌==◌, true, List, [], ◌∷◌, ◌++◌, cond, length, refl, sym, ap, ap₂, arith, subst, get_or, inl, inr, leb, take, bit_and, bit_or, w64}
use Rattle.std.specs.Prelude.{◌/◌, ◌%◌, ◌||◌, Contains, slice_set, min}
use Rattle.std.specs.Int.{bit_at, bit_not, trailing_zeros}
use Rattle.std.proofs.lemmas.Nat.Bits.{bit_at_set_same, bit_at_set_other, bit_at_and, bit_at_not, bit_at_ones, bit_at_ones_above, bit_at-lt, bit_at-trailing_zeros, bit_at-zero}
use Rattle.std.proofs.Math.Nat.{mod-eq_of_lt}
use Rattle.std.proofs.Math.Pow.{pow-lt}
use Rattle.std.proofs.lemmas.Bool.{cases_eq, cases_lt, eq-eqb, ne_eqb, eqb-true, lt-leb, le-leb, or_cases, or_left, or_right}
use Rattle.std.proofs.lemmas.List.{take_all, take_more}
use Rattle.std.proofs.lemmas.List.Elements.{Contains-append_left, Contains-push, Contains-push_cases}
use Rattle.mv_bit_sets.specs.BitSets.{has, AreBitsWithin, IsBitFrom, IsBitOutside}

-- a word is put
set-same : (ws : List ℕ) (i w : ℕ) → i < length ws → get_or (slice_set ws i w) i 0 ≡ w
set-same [] i w h = absurd (omega (arith, h))
set-same (x ∷ ws) zero w h = refl
set-same (x ∷ ws) (suc i) w h = set-same ws i w (omega (arith, h))

set-other : (ws : List ℕ) (i j w : ℕ) → (j ≡ i → ⊥) → get_or (slice_set ws i w) j 0 ≡ get_or ws j 0
set-other [] i j w other = refl
set-other (x ∷ ws) zero zero w other = absurd (other refl)
set-other (x ∷ ws) zero (suc j) w other = refl
set-other (x ∷ ws) (suc i) zero w other = refl
set-other (x ∷ ws) (suc i) (suc j) w other = set-other ws i j w (λ e. other (ap suc e))

-- a number is its word and its bit
one-number : (p q : ℕ) → p / 64 ≡ q / 64 → p % 64 ≡ q % 64 → p ≡ q
one-number p q d r = omega (arith, d, r)

-- the words with a number
pub has-put : (ws : List ℕ) (number : ℕ) → number / 64 < length ws → (p : ℕ)
    → has (slice_set ws (number / 64) (bit_or (get_or ws (number / 64) 0) (1 * 2 ^ (number % 64) % 2 ^ 64))) p ≡ (p == number || has ws p)
has-put ws number h p = elim (cases_eq (p / 64) (number / 64)) [
  | inl word ↦
      let here : get_or (slice_set ws (number / 64) (bit_or (get_or ws (number / 64) 0) (1 * 2 ^ (number % 64) % 2 ^ 64))) (p / 64) 0 ≡ bit_or (get_or ws (number / 64) 0) (1 * 2 ^ (number % 64) % 2 ^ 64) =
      ap (λ k. get_or (slice_set ws (number / 64) (bit_or (get_or ws (number / 64) 0) (1 * 2 ^ (number % 64) % 2 ^ 64))) k 0) word ∙ set-same ws (number / 64) _ h in
      elim (cases_eq (p % 64) (number % 64)) [
        | inl bit ↦
            let same : p ≡ number = one-number p number word bit in
            ap (λ w. bit_at w (p % 64) == 1) here
            ∙ ap (λ b. bit_at (bit_or (get_or ws (number / 64) 0) (1 * 2 ^ (number % 64) % 2 ^ 64)) b == 1) bit
            ∙ ap (λ n. n == 1) (bit_at_set_same w64 (get_or ws (number / 64) 0) (number % 64) (omega arith))
            ∙ sym (ap (λ b. b || has ws p) (eq-eqb p number same))
        | inr apart ↦
            let differ : (p ≡ number → ⊥) = λ e. apart (ap (λ n. n % 64) e) in
            ap (λ w. bit_at w (p % 64) == 1) here
            ∙ ap (λ n. n == 1) (bit_at_set_other w64 (get_or ws (number / 64) 0) (number % 64) (omega arith) (p % 64) apart)
            ∙ ap (λ k. bit_at (get_or ws k 0) (p % 64) == 1) (sym word)
            ∙ sym (ap (λ b. b || has ws p) (ne_eqb p number differ))
      ]
  | inr apart ↦
      let differ : (p ≡ number → ⊥) = λ e. apart (ap (λ n. n / 64) e) in
      ap (λ w. bit_at w (p % 64) == 1) (set-other ws (number / 64) (p / 64) _ apart) ∙ sym (ap (λ b. b || has ws p) (ne_eqb p number differ))
]

-- ---- what one word has and another one hasn't

left-bit : (x y : ℕ) → x < 2 → y < 2 → min x (1 - y) ≡ 1 → (x ≡ 1) × (y ≡ 0)
left-bit zero y h g e = absurd (omega (arith, e))
left-bit (suc zero) zero h g e = (refl, refl)
left-bit (suc zero) (suc zero) h g e = absurd (omega (arith, e))
left-bit (suc zero) (suc (suc y)) h g e = absurd (omega (arith, g))
left-bit (suc (suc x)) y h g e = absurd (omega (arith, h))

-- a bit that one word has and another one hasn't
pub outside-bit : (a b i : ℕ) → b < 2 ^ 64 → i < 64 → bit_at (bit_and a (bit_not w64 b)) i ≡ 1 → (bit_at a i ≡ 1) × (bit_at b i ≡ 0)
outside-bit a b i fits low e =
    left-bit (bit_at a i) (bit_at b i) (bit_at-lt a i) (bit_at-lt b i) (sym (bit_at_and a (bit_not w64 b) i ∙ ap (min (bit_at a i)) (bit_at_not w64 b i fits low)) ∙ e)

inside-bit : (x y : ℕ) → x < 2 → y < 2 → min x (1 - y) ≡ 0 → x ≡ 1 → y ≡ 1
inside-bit x zero h g e is = absurd (omega (arith, e, is))
inside-bit x (suc zero) h g e is = refl
inside-bit x (suc (suc y)) h g e is = absurd (omega (arith, g))

pub within-bit : (a b i : ℕ) → b < 2 ^ 64 → i < 64 → bit_and a (bit_not w64 b) ≡ 0 → bit_at a i ≡ 1 → bit_at b i ≡ 1
within-bit a b i fits low e is =
    inside-bit (bit_at a i) (bit_at b i) (bit_at-lt a i) (bit_at-lt b i)
    (sym (bit_at_and a (bit_not w64 b) i ∙ ap (min (bit_at a i)) (bit_at_not w64 b i fits low)) ∙ ap (λ n. bit_at n i) e ∙ bit_at-zero i) is

-- ---- what one set has and another one hasn't

pub first-left : (word others : ℕ) → word < 2 ^ 64 → others < 2 ^ 64 → (bit_and word (bit_not w64 others) ≡ 0 → ⊥) → bit_and word (bit_not w64 others) < 2 ^ 64
    → IsBitOutside word others (trailing_zeros w64 (bit_and word (bit_not w64 others)))
first-left word others fits small some left_fits =
    let left = bit_and word (bit_not w64 others) in
    let t = bit_at-trailing_zeros w64 left (omega (arith, some)) left_fits in
    let b = outside-bit word others (trailing_zeros w64 left) small t.0 t.1 in
    record { low = t.0; is = b.0; is_not = b.1 }

pub bits-within : (word others : ℕ) → others < 2 ^ 64 → bit_and word (bit_not w64 others) ≡ 0 → AreBitsWithin word others
bits-within word others small none bit low is = within-bit word others bit small low none is

-- the numbers of the words before one are in another set
abbrev pub AreWithin : ℕ → List ℕ → List ℕ → ℕ → Type 0
AreWithin from words others i = (p : ℕ) → p / 64 < i → from ≤ p → has words p ≡ true → has others p ≡ true

-- ---- the part of a word from a bit on

-- the mask of the bits from one on
mask-bit : (k i : ℕ) → k < 64 → i < 64 → bit_at (bit_not w64 (1 * 2 ^ k % 2 ^ 64 - 1)) i ≡ cond (leb k i) 1 0
mask-bit k i low here =
    let power : 1 * 2 ^ k % 2 ^ 64 ≡ 2 ^ k = ap (λ n. n % 2 ^ 64) (times-one (2 ^ k)) ∙ mod-eq_of_lt (pow-lt low) in
    let fits : 2 ^ k - 1 < 2 ^ 64 = (let small = pow-lt low in omega (arith, small)) in
    ap (λ n. bit_at (bit_not w64 (n - 1)) i) power ∙ bit_at_not w64 (2 ^ k - 1) i fits here ∙ by_order (cases_lt i k)
  where
    times-one : (n : ℕ) → 1 * n ≡ n
    times-one n = omega arith

    by_order : (i < k) ⊎ (k ≤ i) → 1 - bit_at (2 ^ k - 1) i ≡ cond (leb k i) 1 0
    by_order (inl below) = rw (bit_at_ones k i below, lt-leb k i below) refl
    by_order (inr above) = rw (bit_at_ones_above k i above, le-leb k i above) refl

both-bits : (x y : ℕ) → x < 2 → y < 2 → min x y ≡ 1 → (x ≡ 1) × (y ≡ 1)
both-bits x zero h g e = absurd (omega (arith, e))
both-bits zero (suc y) h g e = absurd (omega (arith, e))
both-bits (suc zero) (suc zero) h g e = (refl, refl)
both-bits (suc zero) (suc (suc y)) h g e = absurd (omega (arith, g))
both-bits (suc (suc x)) (suc y) h g e = absurd (omega (arith, h))

-- the part has the bits of the word from one on
pub part-bit : (words : List ℕ) (from i word bit : ℕ) → word ≡ get_or words i 0 → i ≡ from / 64 → bit < 64
    → (bit_at (bit_and word (bit_not w64 (1 * 2 ^ (from % 64) % 2 ^ 64 - 1))) bit ≡ 1) ↔ IsBitFrom words i from bit
part-bit words from i word bit is at low = (
  λ e.
      let mask = bit_not w64 (1 * 2 ^ (from % 64) % 2 ^ 64 - 1) in
      let b = both-bits (bit_at word bit) (bit_at mask bit) (bit_at-lt word bit) (bit_at-lt mask bit) (sym (bit_at_and word mask bit) ∙ e) in
      let above : from % 64 ≤ bit = elim (cases_lt bit (from % 64)) [
        | inl below ↦ absurd (let no : bit_at mask bit ≡ 0 = mask-bit (from % 64) bit (omega arith) low ∙ ap (λ b. cond b 1 0) (lt-leb (from % 64) bit below) in omega (arith, no, b.1))
        | inr above ↦ above
      ] in
      record { high = omega (arith, above, at); is = ap (λ w. bit_at w bit) (sym is) ∙ b.0 },
  λ b.
      let mask = bit_not w64 (1 * 2 ^ (from % 64) % 2 ^ 64 - 1) in
      let above : from % 64 ≤ bit = (let high = b.high in omega (arith, high, at)) in
      bit_at_and word mask bit ∙ ap₂ min (ap (λ w. bit_at w bit) is ∙ b.is) (mask-bit (from % 64) bit (omega arith) low ∙ ap (λ b. cond b 1 0) (le-leb (from % 64) bit above)),
)

-- ---- the set of some numbers

-- it has the first of them
abbrev pub HasFirst : List ℕ → List ℕ → ℕ → Type 0
HasFirst words numbers i = (p : ℕ) → (has words p ≡ true) ↔ Contains (take i numbers) p

pub has-more : (words more numbers : List ℕ) (i number : ℕ) → HasFirst words numbers i → i < length numbers → number ≡ get_or numbers i 0
    → ((p : ℕ) → has more p ≡ (p == number || has words p)) → HasFirst more numbers (i + 1)
has-more words more numbers i number first low at put p = (
  λ is. rw (take_more numbers i 0 low) (elim (or_cases (p == number) (has words p) (sym (put p) ∙ is)) [
    | inl here ↦ subst (λ q. Contains (take i numbers ++ get_or numbers i 0 ∷ []) q) (sym at ∙ sym (eqb-true p number here)) (Contains-push (take i numbers) (get_or numbers i 0))
    | inr before ↦ Contains-append_left (take i numbers) (get_or numbers i 0 ∷ []) p ((first p).0 before)
  ]),
  λ there. put p ∙ elim (Contains-push_cases (take i numbers) (get_or numbers i 0) p (rw (take_more numbers i 0 low) at there)) [
    | inl before ↦ or_right (p == number) (has words p) ((first p).1 before)
    | inr here ↦ or_left (p == number) (has words p) (eq-eqb p number (sym here ∙ sym at))
  ],
)

pub has-all : (words numbers : List ℕ) (i : ℕ) → HasFirst words numbers i → length numbers ≤ i → (p : ℕ) → (has words p ≡ true) ↔ Contains numbers p
has-all words numbers i first done p = subst (λ l. (has words p ≡ true) ↔ Contains l p) (take_all i numbers done) (first p)
