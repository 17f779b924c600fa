-- Operands by their types: what the rules of types say of the stack, and what the stack then is.
use Rattle.mv_soundness.proofs.Typing.Common.{◌≡◌, ℕ, suc, true, List, [], ◌∷◌, length, refl, ap, subst, ◌∙◌, arith, ◌++◌, Some, Ok, Bool, false, take, drop, sym, ap₂, reverse}
use Rattle.mv_soundness.proofs.Typing.Common.{same_Some, IsTrue, Module, for_each, Tag, LeafTag, same_tokens, LeafKind, Token, Plain, OfLeaf, operands}
use Rattle.mv_soundness.proofs.Typing.Common.{tag_named, Value, Leaf, on_bind, token_named, tokens_named, lists_equal, takes_gives, taken, in_range, Roots, HasType}
use Rattle.mv_soundness.proofs.Typing.Common.{HasToken, HaveTokens}
use Rattle.std.proofs.Common.{leb, length-append}
use Rattle.std.proofs.lemmas.List.{length-reverse, reverse-append, reverse-reverse, take-append-drop}
use Rattle.std.proofs.{Math.Seq.take-append_seam, Math.Seq.drop-append_seam, lemmas.Bool.le-leb}
use Rattle.mv_soundness.specs.Typing.HasType.{fields_by_name}
use Rattle.std.specs.Bool.{then_some}
pub use Rattle.mv_type_rules.proofs.Steps.{top_some as top_type-is}

-- ---- tests of types

-- ---- taking the rules of types apart

-- a test that passed
pub on_test : {A P : Type 0} (b : Bool) (x y : A) → then_some b x ≡ Some y → (b ≡ true → x ≡ y → P) → P
on_test true x y e go = go refl (same_Some x y e)
on_test false x y e go = absurd cc

-- names of types, one after the other
pub on_names : {P : Type 0} (m : Module) (t : Token) (ts : List Token) (tags : List Tag) → tokens_named m (t ∷ ts) ≡ Some tags
    → ((tag : Tag) (rest : List Tag) → token_named m t ≡ Some tag → tokens_named m ts ≡ Some rest → tag ∷ rest ≡ tags → P) → P
on_names m t ts tags e go =
    on_bind (token_named m t) _ tags e (λ tag tag_is e1.
    on_bind (tokens_named m ts) (λ rest. Some (tag ∷ rest)) tags e1 (λ rest rest_is e2. go tag rest tag_is rest_is (same_Some (tag ∷ rest) tags e2)))

-- and their tags
pub tags_by : (modules : List Module) (m : Module) → ((t : Token) (tag : Tag) → token_named m t ≡ Some tag → tag_named modules m t ≡ Ok tag) → (ts : List Token) (tags : List Tag)
    → tokens_named m ts ≡ Some tags → for_each (tag_named modules m) ts ≡ Ok tags
tags_by modules m each [] tags e = ap Ok (same_Some [] tags e)
tags_by modules m each (t ∷ ts) tags e = on_names m t ts tags e (λ tag rest tag_is rest_is whole. rw (each t tag tag_is, tags_by modules m each ts rest rest_is) (ap Ok whole))

-- what is taken is on top, the last uppermost
pub taken-is : (wanted stack below : List Token) → taken wanted stack ≡ Some below → stack ≡ reverse wanted ++ below
taken-is wanted stack below e =
    on_test (same_tokens (take (length wanted) stack) (reverse wanted)) (drop (length wanted) stack) below e (λ same rest.
    let front : take (length wanted) stack ≡ reverse wanted = lists_equal (take (length wanted) stack) (reverse wanted) same in
    sym (take-append-drop (length wanted) stack) ∙ ap₂ (λ (x y : List Token). x ++ y) front rest)

-- the same, with what is given
pub takes_gives-is : (wanted given stack after : List Token) → takes_gives wanted given stack ≡ Some after → (below : List Token) × (stack ≡ reverse wanted ++ below) × (after ≡ reverse given ++ below)
takes_gives-is wanted given stack after e =
    on_bind (taken wanted stack) (λ below. Some (reverse given ++ below)) after e (λ below below_is e1.
    (below, taken-is wanted stack below below_is, sym (same_Some (reverse given ++ below) after e1)))

-- ---- values by their types

-- a value of a leaf's type is a leaf
pub record IsLeaf (v : Value) (k : LeafKind) : Type 0 where
  pub number : ℕ
  pub is_leaf : v ≡ Leaf k number
  pub fits : IsTrue (in_range k number)

module _ (modules : List Module) (look : Roots) (home : Module) where
  leaf_by_tag : (v : Value) (k : LeafKind) → HasType (fields_by_name modules) look v (LeafTag k) → IsLeaf v k
  leaf_by_tag (Leaf j n) k h = record { number = n; is_leaf = ap (λ i. Leaf i n) h.0; fits = subst (λ i. IsTrue (in_range i n)) h.0 h.1 }
  leaf_by_tag v k h = absurd h

  -- a value of a leaf's type
  pub leaf : (v : Value) (k : LeafKind) → HasToken modules look home v (Plain (OfLeaf k)) → IsLeaf v k
  leaf v k h = leaf_by_tag v k (subst (λ t. HasType (fields_by_name modules) look v t) (sym (same_Some (LeafTag k) h.tag h.names)) h.typed)

  -- a leaf in its range is of its type
  pub of_leaf : (k : LeafKind) (n : ℕ) → IsTrue (in_range k n) → HasToken modules look home (Leaf k n) (Plain (OfLeaf k))
  of_leaf k n h = record { tag = LeafTag k; names = refl; typed = (refl, h) }

  -- one operand is on top
  pub one_operand : (stack : List Value) (t : Token) (ts : List Token) → HaveTokens modules look home stack (t ∷ ts)
      → (v : Value) × (vs : List Value) × (stack ≡ v ∷ vs) × HasToken modules look home v t × HaveTokens modules look home vs ts
  one_operand [] t ts h = absurd h
  one_operand (v ∷ vs) t ts h = (v, vs, refl, h.0, h.1)

  -- operands above others
  pub apart : (vs : List Value) (as' bs : List Token) → HaveTokens modules look home vs (as' ++ bs)
      → (xs : List Value) × (ys : List Value) × (vs ≡ xs ++ ys) × (length xs ≡ length as') × HaveTokens modules look home xs as' × HaveTokens modules look home ys bs
  apart vs [] bs h = ([], vs, refl, refl, tt, h)
  apart [] (a ∷ as') bs h = absurd h
  apart (v ∷ vs) (a ∷ as') bs h =
      let rest = apart vs as' bs h.1 in
      (v ∷ rest.0, rest.1, ap (λ (x : List Value). v ∷ x) rest.2, ap suc rest.3, (h.0, rest.4), rest.5)

  -- and put together again
  pub joined : (xs ys : List Value) (as' bs : List Token) → HaveTokens modules look home xs as' → HaveTokens modules look home ys bs → HaveTokens modules look home (xs ++ ys) (as' ++ bs)
  joined [] ys [] bs h k = k
  joined (x ∷ xs) ys (a ∷ as') bs h k = (h.0, joined xs ys as' bs h.1 k)
  joined xs ys as' bs h k = absurd h

  -- in the other order
  pub turned : (xs : List Value) (as' : List Token) → HaveTokens modules look home xs as' → HaveTokens modules look home (reverse xs) (reverse as')
  turned [] [] h = tt
  turned (x ∷ xs) (a ∷ as') h =
      let both : HaveTokens modules look home (reverse xs ++ x ∷ []) (reverse as' ++ a ∷ []) = joined (reverse xs) (x ∷ []) (reverse as') (a ∷ []) (turned xs as' h.1) (h.0, tt) in
      subst (λ (vs : List Value). HaveTokens modules look home vs (reverse (a ∷ as'))) (sym (reverse-append (x ∷ []) xs))
      (subst (λ (ts : List Token). HaveTokens modules look home (reverse xs ++ x ∷ []) ts) (sym (reverse-append (a ∷ []) as')) both)
  turned xs as' h = absurd h

  -- the operands of these types, lowest first, and those below
  pub record Taken (stack : List Value) (wanted below : List Token) : Type 0 where
    pub arguments : List Value
    pub rest : List Value
    pub is_taken : operands (length wanted) stack ≡ Ok (arguments, rest)
    pub arguments_typed : HaveTokens modules look home arguments wanted
    pub rest_typed : HaveTokens modules look home rest below

  operands-split : (n : ℕ) (xs ys : List Value) → length xs ≡ n → operands n (xs ++ ys) ≡ Ok (reverse xs, ys)
  operands-split n xs ys e =
      let enough : leb (length xs) (length (xs ++ ys)) ≡ true = le-leb (length xs) (length (xs ++ ys)) (omega (arith, length-append xs ys)) in
      rw (sym e, enough, take-append_seam xs ys, drop-append_seam xs ys) refl

  pub take_operands : (stack : List Value) (wanted below : List Token) → HaveTokens modules look home stack (reverse wanted ++ below) → Taken stack wanted below
  take_operands stack wanted below h =
      let parts = apart stack (reverse wanted) below h in
      let long : length parts.0 ≡ length wanted = parts.3 ∙ length-reverse wanted in
      record {
        arguments = reverse parts.0;
        rest = parts.1;
        is_taken = subst (λ (vs : List Value). operands (length wanted) vs ≡ Ok (reverse parts.0, parts.1)) (sym parts.2) (operands-split (length wanted) parts.0 parts.1 long);
        arguments_typed = subst (λ (ts : List Token). HaveTokens modules look home (reverse parts.0) ts) (reverse-reverse wanted) (turned parts.0 (reverse wanted) parts.4);
        rest_typed = parts.5;
      }
