-- How often a node stands in a list.
use Rattle.mv_bound_rules.proofs.Common.{[], ℕ, ◌++◌, ◌+◌, ◌<◌, ◌==◌, ◌∙◌, ◌∷◌, ◌≡◌, ◌≤◌, Bool, Contains, List, ap, arith, drop, eq-eqb, false, get_or, length, ne_eqb, refl, suc, sym, take, true}
use Rattle.mv_bound_rules.proofs.Common.{zero, eqb-true, take_more, as_number, is_zero, times}
use Rattle.std.proofs.lemmas.List.{take-append-drop}

pub times-append : (j : ℕ) (xs ys : List ℕ) → times j (xs ++ ys) ≡ times j xs + times j ys
times-append j [] ys = omega arith
times-append j (x ∷ xs) ys = omega (arith, times-append j xs ys)

-- one entry more
pub times_push : (j : ℕ) (xs : List ℕ) (x : ℕ) → times j (xs ++ x ∷ []) ≡ times j xs + as_number (x == j)
times_push j xs x = omega (arith, times-append j xs (x ∷ []))

-- one entry more of those that were read
pub times_more : (j : ℕ) (xs : List ℕ) (i x : ℕ) → i < length xs → x ≡ get_or xs i 0 → times j (take (i + 1) xs) ≡ times j (take i xs) + as_number (x == j)
times_more j xs i x low is =
    ap (times j) (take_more xs i 0 low) ∙ times_push j (take i xs) (get_or xs i 0) ∙ ap (λ y. times j (take i xs) + as_number (y == j)) (sym is)

pub times_take : (j : ℕ) (xs : List ℕ) (i : ℕ) → times j (take i xs) ≤ times j xs
times_take j xs i =
    let e : times j (take i xs ++ drop i xs) ≡ times j xs = ap (times j) (take-append-drop i xs) in
    omega (arith, e, times-append j (take i xs) (drop i xs))

one_at_most : (b : Bool) → as_number b ≤ 1
one_at_most true = omega arith
one_at_most false = omega arith

pub is_zero_at_most : (n : ℕ) → is_zero n ≤ 1
is_zero_at_most n = one_at_most (n == 0)

pub times_length : (j : ℕ) (xs : List ℕ) → times j xs ≤ length xs
times_length j [] = omega arith
times_length j (x ∷ xs) = omega (arith, times_length j xs, one_at_most (x == j))

-- the one entry, and the others
pub is_one : (x j : ℕ) → x ≡ j → as_number (x == j) ≡ 1
is_one x j e = ap (λ b. as_number b) (eq-eqb x j e)

pub is_none : (x j : ℕ) → (x ≡ j → ⊥) → as_number (x == j) ≡ 0
is_none x j ne = ap (λ b. as_number b) (ne_eqb x j ne)

pub zero_is_one : (n : ℕ) → n ≡ 0 → is_zero n ≡ 1
zero_is_one n e = is_one n 0 e

pub other_is_none : (n : ℕ) → (n ≡ 0 → ⊥) → is_zero n ≡ 0
other_is_none n ne = is_none n 0 ne

-- an entry stands at least once
pub times_of : (j : ℕ) (xs : List ℕ) → Contains xs j → 0 < times j xs
times_of j [] (k, low, here) = absurd (omega (arith, low))
times_of j (x ∷ xs) (zero, low, here) = let one = is_one x j here in omega (arith, one)
times_of j (x ∷ xs) (suc k, low, here) = let rest = times_of j xs (k, omega (arith, low), here) in omega (arith, rest)

-- what stands at least once is an entry
pub contains_from_times : (j : ℕ) (xs : List ℕ) → 0 < times j xs → Contains xs j
contains_from_times j [] some = absurd (omega (arith, some))
contains_from_times j (x ∷ xs) some = by_first (x == j) refl some (contains_from_times j xs)
  where
    by_first : (b : Bool) → (x == j) ≡ b → 0 < as_number b + times j xs → (0 < times j xs → Contains xs j) → Contains (x ∷ xs) j
    by_first true e h others = (0, omega arith, eqb-true x j e)
    by_first false e h others = let rest = others (omega (arith, h)) in (suc rest.0, (let low : rest.0 < length xs = rest.1 in omega (arith, low)), rest.2)
