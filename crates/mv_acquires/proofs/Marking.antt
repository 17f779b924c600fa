-- What is marked, from what was.
use Rattle.std.proofs.Common.{◌≡◌, ℕ, ◌==◌, ◌||◌, Bool, true, false, List, [], ◌∷◌, refl, sym, ap, inl, inr, ◌∙◌, arith}
use Rattle.std.specs.Cmp.{nat_eq_equiv}
use Rattle.std.specs.List.{list_all}
use Rattle.mv_acquires.specs.Acquires.{has_member, same_members}
use Rattle.mv_bit_sets.specs.BitSets.{has, IsWithin}
use Rattle.std.specs.Bool.{Decides}
use Rattle.std.proofs.lemmas.Bool.{false≢true, eqb-true, eq-eqb, and_parts, and_from, or_cases, or_left, or_right}
use Rattle.std.proofs.lemmas.Bool.Decides.{same_from_decides}

all_members : (p : ℕ → Bool) (xs : List ℕ) → ((y : ℕ) → has_member xs y ≡ true → p y ≡ true) → list_all p xs ≡ true
all_members p [] h = refl
all_members p (x ∷ xs) h = and_from (p x) (list_all p xs) (h x (or_left (x == x) (has_member xs x) (eq-eqb x x refl))) (all_members p xs (λ y is. h y (or_right (x == y) (has_member xs y) is)))

member_of_all : (p : ℕ → Bool) (xs : List ℕ) → list_all p xs ≡ true → (y : ℕ) → has_member xs y ≡ true → p y ≡ true
member_of_all p [] all y is = absurd (false≢true is)
member_of_all p (x ∷ xs) all y is = elim (or_cases (x == y) (has_member xs y) is) [
  | inl here ↦ ap p (sym (eqb-true x y here)) ∙ (and_parts (p x) (list_all p xs) all).0
  | inr there ↦ member_of_all p xs (and_parts (p x) (list_all p xs) all).1 y there
]

-- the same marks are the same members
pub same_marks : (marks others xs ys : List ℕ) (r : Bool) → Decides r (IsWithin 0 marks others × IsWithin 0 others marks)
    → ((y : ℕ) → has marks y ≡ has_member xs y) → ((y : ℕ) → has others y ≡ has_member ys y)
    → r ≡ same_members xs ys
same_marks marks others xs ys r decides first second =
    same_from_decides r (same_members xs ys) decides (
      (λ same. let parts = and_parts (list_all (has_member ys) xs) (list_all (has_member xs) ys) same in (
        (λ y low is. second y ∙ member_of_all (has_member ys) xs parts.0 y (sym (first y) ∙ is)),
        (λ y low is. first y ∙ member_of_all (has_member xs) ys parts.1 y (sym (second y) ∙ is)),
      )),
      (λ within. and_from (list_all (has_member ys) xs) (list_all (has_member xs) ys)
          (all_members (has_member ys) xs (λ y is. sym (second y) ∙ within.0 y (omega arith) (first y ∙ is)))
          (all_members (has_member xs) ys (λ y is. sym (first y) ∙ within.1 y (omega arith) (second y ∙ is)))),
    )

-- one more number is marked
pub marked : (marks more : List ℕ) (number : ℕ) → ((y : ℕ) → has more y ≡ (y == number || has marks y)) → (y : ℕ) → has more y ≡ (has marks y || number == y)
marked marks more number put y = put y ∙ turned (y == number) (number == y) (has marks y) (nat_eq_equiv.symm y number)
  where
    turned : (a b c : Bool) → a ≡ b → (a || c) ≡ (c || b)
    turned true b true e = refl
    turned false b true e = refl
    turned true b false e = e
    turned false b false e = e
