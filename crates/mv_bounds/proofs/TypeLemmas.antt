-- Types are one exactly where their numbers are equal.
use Rattle.mv_bounds.proofs.Common.{[], ℕ, ◌&&◌, ◌*◌, ◌+◌, ◌<◌, ◌∙◌, ◌∷◌, ◌≡◌, Bool, List, ap, ap₂, arith, eq-eqb, eqb, false, inl, inr, map, ne_eqb, refl, sym, cases_eq, pointwise}
use Rattle.mv_bounds.proofs.Common.{same_tokens, Token, MutableReference, Plain, Reference, OfLeaf, OfStruct, token_code}
use Rattle.mv_move_types.specs.declared.token.LeafKind.{LeafKind}
use Rattle.mv_move_types.specs.declared.token.LeafKind.TheVariants.{Number}
use Rattle.mv_move_types.specs.declared.token.Width.TheVariants.{U8}
use Rattle.mv_move_types.specs.declared.token.ValueType.{ValueType}
use Rattle.mv_move_types.specs.Tokens.{kind_code, same_value_type, same_token}
use Rattle.mv_bounds.specs.Codes.{value_code}

-- two pairs of numbers of which both are equal or neither
same_test : (a b x y : ℕ) → (a ≡ b → x ≡ y) → (x ≡ y → a ≡ b) → eqb a b ≡ eqb x y
same_test a b x y there back = elim (cases_eq x y) [
  | inl e ↦ eq-eqb a b (back e) ∙ sym (eq-eqb x y e)
  | inr ne ↦ ne_eqb a b (λ e. ne (there e)) ∙ sym (ne_eqb x y ne)
]

-- a leaf's number is small
kind_small : (kind : LeafKind) → kind_code kind < 256
kind_small (Number U8) = omega arith
kind_small kind = omega arith

-- a small number is none of a struct's
leaf_is_no_struct : (k h : ℕ) → k < 256 → eqb k (256 + h) ≡ false
leaf_is_no_struct k h small = ne_eqb k (256 + h) (λ e. omega (arith, e, small))

struct_is_no_leaf : (k h : ℕ) → k < 256 → eqb (256 + h) k ≡ false
struct_is_no_leaf k h small = ne_eqb (256 + h) k (λ e. omega (arith, e, small))

structs_by_number : (h k : ℕ) → eqb (256 + h) (256 + k) ≡ eqb h k
structs_by_number h k = same_test (256 + h) (256 + k) h k (λ e. omega (arith, e)) (ap (λ n. 256 + n))

-- types that are no references
values_by_code : (a b : ValueType) → eqb (value_code a) (value_code b) ≡ same_value_type a b
values_by_code (OfLeaf j) (OfLeaf k) = refl
values_by_code (OfLeaf j) (OfStruct h) = leaf_is_no_struct (kind_code j) h (kind_small j)
values_by_code (OfStruct h) (OfLeaf k) = struct_is_no_leaf (kind_code k) h (kind_small k)
values_by_code (OfStruct h) (OfStruct k) = structs_by_number h k

-- three times a number, and the rest, tell the number and the rest
same_rest : (x y r : ℕ) → eqb (3 * x + r) (3 * y + r) ≡ eqb x y
same_rest x y r = same_test (3 * x + r) (3 * y + r) x y (λ e. omega (arith, e)) (ap (λ n. 3 * n + r))

plain_by_number : (x y : ℕ) → eqb (3 * x) (3 * y) ≡ eqb x y
plain_by_number x y = same_test (3 * x) (3 * y) x y (λ e. omega (arith, e)) (ap (λ n. 3 * n))

first_rest : (x y : ℕ) → eqb (3 * x) (3 * y + 1) ≡ false
first_rest x y = ne_eqb (3 * x) (3 * y + 1) (λ e. omega (arith, e))

second_rest : (x y : ℕ) → eqb (3 * x) (3 * y + 2) ≡ false
second_rest x y = ne_eqb (3 * x) (3 * y + 2) (λ e. omega (arith, e))

third_rest : (x y : ℕ) → eqb (3 * x + 1) (3 * y) ≡ false
third_rest x y = ne_eqb (3 * x + 1) (3 * y) (λ e. omega (arith, e))

fourth_rest : (x y : ℕ) → eqb (3 * x + 1) (3 * y + 2) ≡ false
fourth_rest x y = ne_eqb (3 * x + 1) (3 * y + 2) (λ e. omega (arith, e))

fifth_rest : (x y : ℕ) → eqb (3 * x + 2) (3 * y) ≡ false
fifth_rest x y = ne_eqb (3 * x + 2) (3 * y) (λ e. omega (arith, e))

sixth_rest : (x y : ℕ) → eqb (3 * x + 2) (3 * y + 1) ≡ false
sixth_rest x y = ne_eqb (3 * x + 2) (3 * y + 1) (λ e. omega (arith, e))

-- types are one where their numbers are equal
pub tokens_by_code : (a b : Token) → eqb (token_code a) (token_code b) ≡ same_token a b
tokens_by_code (Plain a) (Plain b) = plain_by_number (value_code a) (value_code b) ∙ values_by_code a b
tokens_by_code (Plain a) (Reference b) = first_rest (value_code a) (value_code b)
tokens_by_code (Plain a) (MutableReference b) = second_rest (value_code a) (value_code b)
tokens_by_code (Reference a) (Plain b) = third_rest (value_code a) (value_code b)
tokens_by_code (Reference a) (Reference b) = same_rest (value_code a) (value_code b) 1 ∙ values_by_code a b
tokens_by_code (Reference a) (MutableReference b) = fourth_rest (value_code a) (value_code b)
tokens_by_code (MutableReference a) (Plain b) = fifth_rest (value_code a) (value_code b)
tokens_by_code (MutableReference a) (Reference b) = sixth_rest (value_code a) (value_code b)
tokens_by_code (MutableReference a) (MutableReference b) = same_rest (value_code a) (value_code b) 2 ∙ values_by_code a b

-- lists of types are one where their numbers are, one by one
pub lists_by_code : (same : ℕ → ℕ → Bool) → ((x y : ℕ) → same x y ≡ eqb x y) → (xs ys : List Token) → pointwise same (map token_code xs) (map token_code ys) ≡ same_tokens xs ys
lists_by_code same each [] [] = refl
lists_by_code same each (x ∷ xs) (y ∷ ys) =
    ap₂ (λ a b. a && b) (each (token_code x) (token_code y) ∙ tokens_by_code x y) (lists_by_code same each xs ys)
lists_by_code same each xs ys = refl
