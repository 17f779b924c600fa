-- Two types are one where the test says so.
use Rattle.mv_bound_rules.proofs.Common.{[], ℕ, ◌∙◌, ◌∷◌, ◌≡◌, List, ap, cond, refl, sym, true, eqb-true, same_token, same_tokens, same_value_type, Signer, Token}
use Rattle.mv_bound_rules.proofs.Common.{MutableReference, Plain, Reference, ValueType, OfLeaf, OfStruct, U64, U8}
use Rattle.std.proofs.Common.{◌==◌, eq-eqb}
use Rattle.std.proofs.lemmas.Bool.{and_parts}
use Rattle.mv_move_types.specs.declared.token.Width.TheVariants.{U16, U32, U128}
use Rattle.mv_move_types.specs.declared.token.LeafKind.{LeafKind}
use Rattle.mv_move_types.specs.declared.token.LeafKind.TheVariants.{Boolean, Number, Address}
use Rattle.mv_move_types.specs.Tokens.{kind_code, same_kind}

-- the kind of a leaf, by its number
abbrev kind_of : ℕ → LeafKind
kind_of n = cond (n == 0) Boolean (cond (n == 1) Address (cond (n == 2) Signer (cond (n == 8) (Number U8) (cond (n == 16) (Number U16) (cond (n == 32) (Number U32) (cond (n == 64) (Number U64) (Number U128)))))))

kind_of-code : (k : LeafKind) → kind_of (kind_code k) ≡ k
kind_of-code (Number U8) = refl
kind_of-code k = refl

pub kinds_equal : (j k : LeafKind) → same_kind j k ≡ true → j ≡ k
kinds_equal j k e = sym (kind_of-code j) ∙ ap kind_of (eqb-true (kind_code j) (kind_code k) e) ∙ kind_of-code k

pub value_types_equal : (a b : ValueType) → same_value_type a b ≡ true → a ≡ b
value_types_equal (OfLeaf j) (OfLeaf k) e = ap (λ x. OfLeaf x) (kinds_equal j k e)
value_types_equal (OfStruct i) (OfStruct j) e = ap (λ x. OfStruct x) (eqb-true i j e)
value_types_equal a b e = cc

value_types_same : (a : ValueType) → same_value_type a a ≡ true
value_types_same (OfLeaf k) = eq-eqb (kind_code k) (kind_code k) refl
value_types_same (OfStruct i) = eq-eqb i i refl

pub tokens_equal : (a b : Token) → same_token a b ≡ true → a ≡ b
tokens_equal (Plain a) (Plain b) e = ap (λ x. Plain x) (value_types_equal a b e)
tokens_equal (Reference a) (Reference b) e = ap (λ x. Reference x) (value_types_equal a b e)
tokens_equal (MutableReference a) (MutableReference b) e = ap (λ x. MutableReference x) (value_types_equal a b e)
tokens_equal a b e = cc

pub token_same : (a : Token) → same_token a a ≡ true
token_same (Plain a) = value_types_same a
token_same (Reference a) = value_types_same a
token_same (MutableReference a) = value_types_same a

pub lists_equal : (xs ys : List Token) → same_tokens xs ys ≡ true → xs ≡ ys
lists_equal [] [] e = refl
lists_equal (x ∷ xs) (y ∷ ys) e =
    let both = and_parts (same_token x y) (same_tokens xs ys) e in
    let head : x ≡ y = tokens_equal x y both.0 in let tail : xs ≡ ys = lists_equal xs ys both.1 in cc
lists_equal xs ys e = cc
