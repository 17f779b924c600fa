-- The types of a function's parameters as the linker keeps them: arguments are of these where they are of the module's own.
--   same-arguments    whether arguments are of the types
--   same-sender       the sender stands in front for both
use Rattle.mv_ledger.proofs.Common.{[], ◌&&◌, ◌∷◌, ◌≡◌, ◌∙◌, List, Module, Token, ap, ap₂, map, refl, ℕ, are_arguments, with_sender, Value, StructPart, LeafPart, Nothing}
use Rattle.mv_machine.specs.Ledger.{is_argument}
use Rattle.mv_ledger.specs.ParameterTypes.{asked_type}
use Rattle.mv_interface.specs.Interface.{AreTypes, IsType}
use Rattle.mv_interface.specs.declared.interface.LinkedType.{LinkedType}
use Rattle.mv_interface.specs.declared.interface.LinkedType.TheVariants as L
use Rattle.mv_move_types.specs.declared.token.LeafKind.{LeafKind}
use Rattle.mv_move_types.specs.declared.token.LeafKind.TheVariants.{Address, Boolean, Number, Signer}
use Rattle.mv_move_types.specs.declared.token.Token.TheVariants.{Plain, Reference, MutableReference}
use Rattle.mv_move_types.specs.declared.token.ValueType.TheVariants.{OfLeaf, OfStruct}

module _ (modules : List Module) (m : Module) where
  -- a type that is a leaf's is kept as it is, and no other has an argument
  same-type : (t : Token) (x : LinkedType) → IsType modules m t x → (v : Value) → is_argument t v ≡ is_argument (asked_type x) v
  same-type (Plain (OfLeaf k)) (L.Plain (LeafPart kind)) is v = ap (λ t. is_argument t v) is
  same-type (Plain (OfLeaf k)) (L.Plain (StructPart d)) is v = let e = is.1 in absurd cc
  same-type (Plain (OfLeaf k)) (L.Plain Nothing) is v = absurd cc
  same-type (Plain (OfStruct h)) (L.Plain (LeafPart kind)) is v = absurd cc
  same-type (Plain (OfStruct h)) (L.Plain (StructPart d)) is v = refl
  same-type (Plain (OfStruct h)) (L.Plain Nothing) is v = refl
  same-type (Reference t) (L.Reference p) is v = refl
  same-type (MutableReference t) (L.MutableReference p) is v = refl
  same-type (Plain t) (L.Reference p) is v = absurd is
  same-type (Plain t) (L.MutableReference p) is v = absurd is
  same-type (Reference t) (L.Plain p) is v = absurd is
  same-type (Reference t) (L.MutableReference p) is v = absurd is
  same-type (MutableReference t) (L.Plain p) is v = absurd is
  same-type (MutableReference t) (L.Reference p) is v = absurd is

  pub same-arguments : (tokens : List Token) (types : List LinkedType) (vs : List Value) → AreTypes modules m tokens types → are_arguments tokens vs ≡ are_arguments (map asked_type types) vs
  same-arguments [] [] vs are = refl
  same-arguments (t ∷ ts) (x ∷ xs) [] are = refl
  same-arguments (t ∷ ts) (x ∷ xs) (v ∷ vs) are = ap₂ (λ a b. a && b) (same-type t x are.0 v) (same-arguments ts xs vs are.1)
  same-arguments [] (x ∷ xs) vs are = absurd are
  same-arguments (t ∷ ts) [] vs are = absurd are

  -- the sender's place is known by the first type, whatever follows it
  none-after : (sender : ℕ) (kind : LeafKind) (ts us : List Token) (vs : List Value) → with_sender sender (Plain (OfLeaf kind) ∷ ts) vs ≡ with_sender sender (Plain (OfLeaf kind) ∷ us) vs
  none-after sender Boolean ts us vs = refl
  none-after sender Address ts us vs = refl
  none-after sender Signer ts us vs = refl
  none-after sender (Number w) ts us vs = refl

  first-sender : (sender : ℕ) (t : Token) (x : LinkedType) (ts us : List Token) (vs : List Value) → IsType modules m t x → with_sender sender (t ∷ ts) vs ≡ with_sender sender (asked_type x ∷ us) vs
  first-sender sender (Plain (OfLeaf k)) (L.Plain (LeafPart kind)) ts us vs is = ap (λ t. with_sender sender (t ∷ ts) vs) is ∙ none-after sender kind ts us vs
  first-sender sender (Plain (OfLeaf k)) (L.Plain (StructPart d)) ts us vs is = let e = is.1 in absurd cc
  first-sender sender (Plain (OfLeaf k)) (L.Plain Nothing) ts us vs is = absurd cc
  first-sender sender (Plain (OfStruct h)) (L.Plain (LeafPart kind)) ts us vs is = absurd cc
  first-sender sender (Plain (OfStruct h)) (L.Plain (StructPart d)) ts us vs is = refl
  first-sender sender (Plain (OfStruct h)) (L.Plain Nothing) ts us vs is = refl
  first-sender sender (Reference t) (L.Reference p) ts us vs is = refl
  first-sender sender (MutableReference t) (L.MutableReference p) ts us vs is = refl
  first-sender sender (Plain t) (L.Reference p) ts us vs is = absurd is
  first-sender sender (Plain t) (L.MutableReference p) ts us vs is = absurd is
  first-sender sender (Reference t) (L.Plain p) ts us vs is = absurd is
  first-sender sender (Reference t) (L.MutableReference p) ts us vs is = absurd is
  first-sender sender (MutableReference t) (L.Plain p) ts us vs is = absurd is
  first-sender sender (MutableReference t) (L.Reference p) ts us vs is = absurd is

  pub same-sender : (sender : ℕ) (tokens : List Token) (types : List LinkedType) (vs : List Value) → AreTypes modules m tokens types → with_sender sender tokens vs ≡ with_sender sender (map asked_type types) vs
  same-sender sender [] [] vs are = refl
  same-sender sender (t ∷ ts) (x ∷ xs) vs are = first-sender sender t x ts (map asked_type xs) vs are.0
  same-sender sender [] (x ∷ xs) vs are = absurd are
  same-sender sender (t ∷ ts) [] vs are = absurd are
