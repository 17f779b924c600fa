-- No number stands twice, from the last number to the first.
use Rattle.std.proofs.Common.{◌≡◌, ℕ, zero, suc, ◌+◌, ◌<◌, ◌==◌, Bool, true, false, not, ◌&&◌, ◌||◌, List, [], ◌∷◌, length, get_or, drop, refl, sym, ap, ◌∙◌, arith}
use Rattle.std.specs.List.{list_any}
use Rattle.std.proofs.Math.Seq.{drop-cons}
use Rattle.std.proofs.lemmas.Bool.{and_parts, false_from_ne_true, both_ways}
use Rattle.mv_bound_rules.specs.Definitions.{all_differ}
use Rattle.mv_acquires.specs.Acquires.{has_member}
use Rattle.std.specs.Cmp.{nat_eq_equiv}

any-turned : (x : ℕ) (xs : List ℕ) → list_any (λ z. x == z) xs ≡ has_member xs x
any-turned x [] = refl
any-turned x (z ∷ zs) = rw (nat_eq_equiv.symm x z, any-turned x zs) refl

-- the numbers from one on are it and those after it
from-one : (xs : List ℕ) (i left : ℕ) → left ≡ i + 1 → i < length xs → drop i xs ≡ get_or xs i 0 ∷ drop left xs
from-one xs i left e within = let next : left ≡ suc i = omega (arith, e) in rw next (drop-cons xs i 0 within)

differ-dropped : (xs : List ℕ) (i : ℕ) → all_differ ◌==◌ xs ≡ true → all_differ ◌==◌ (drop i xs) ≡ true
differ-dropped xs zero all = all
differ-dropped [] (suc i) all = refl
differ-dropped (x ∷ xs) (suc i) all = differ-dropped xs i (and_parts (not (list_any (λ z. x == z) xs)) (all_differ ◌==◌ xs) all).1

-- one that stands again after it
pub differ-not : (xs : List ℕ) (i left : ℕ) → left ≡ i + 1 → i < length xs
    → has_member (drop left xs) (get_or xs i 0) ≡ true → all_differ ◌==◌ xs ≡ false
differ-not xs i left e within again = false_from_ne_true (all_differ ◌==◌ xs) (λ all.
    both_ways (all_differ ◌==◌ (drop i xs))
    (ap (all_differ ◌==◌) (from-one xs i left e within) ∙ ap (λ b. not b && all_differ ◌==◌ (drop left xs)) (any-turned (get_or xs i 0) (drop left xs) ∙ again))
    (differ-dropped xs i all))

-- one that doesn't, where those after it differ
pub differ-more : (xs : List ℕ) (i left : ℕ) → left ≡ i + 1 → i < length xs
    → has_member (drop left xs) (get_or xs i 0) ≡ false → all_differ ◌==◌ (drop left xs) ≡ true → all_differ ◌==◌ (drop i xs) ≡ true
differ-more xs i left e within once all =
    ap (all_differ ◌==◌) (from-one xs i left e within) ∙ ap (λ b. not b && all_differ ◌==◌ (drop left xs)) (any-turned (get_or xs i 0) (drop left xs) ∙ once) ∙ all

-- the numbers from one on are those after it, or it
pub members-more : (xs : List ℕ) (i left : ℕ) → left ≡ i + 1 → i < length xs → (y : ℕ) → (has_member (drop left xs) y || get_or xs i 0 == y) ≡ has_member (drop i xs) y
members-more xs i left e within y = either (has_member (drop left xs) y) (get_or xs i 0 == y) ∙ sym (ap (λ l. has_member l y) (from-one xs i left e within))
  where
    either : (a b : Bool) → (a || b) ≡ (b || a)
    either true true = refl
    either true false = refl
    either false true = refl
    either false false = refl
