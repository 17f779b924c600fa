-- What stands at the roots after a local is changed, and what a typed value's tag is.
use Rattle.mv_soundness.proofs.Typing.Common.{◌≡◌, ℕ, zero, suc, true, List, [], ◌∷◌, refl, ap, subst, ◌∙◌, Option, Some, Bool, false, sym, eqb, eqb-true, and_from, eq-eqb, eqb-false}
use Rattle.mv_soundness.proofs.Typing.Common.{same_Some, option_map_or, slice_get, option_and_then, option_map, slice_set, Module, struct_name, Tag, LeafTag, StructTag, ReferenceTag}
use Rattle.mv_soundness.proofs.Typing.Common.{Token, ValueType, OfLeaf, OfStruct, State, root_value, is_reference_tag, with_own_local, have_tags, has_tag, tag_of, plain_tag, Value, Leaf}
use Rattle.mv_soundness.proofs.Typing.Common.{Struct, Ref, Root, Local, Stored, Reference, value_at, on_bind, tokens_named, value_type_named, slice_get-set_other, Roots, HaveTypes, IsOf}
use Rattle.mv_soundness.proofs.Typing.Common.{Table, HasType, PointsTo, HaveTokens, LocalsHaveTokens, LocalHasToken}
use Rattle.mv_soundness.proofs.{Typing.Operands.on_names, Typing.Within.tag_is, Typing.Within.read_within}
use Rattle.mv_machine.specs.State.{place_value}
use Rattle.mv_move_types.specs.Tags.{same_tag}
use Rattle.mv_link_rules.proofs.TagTests.{same_tag-same}
use Rattle.mv_soundness.specs.Typing.HasType.{fields_by_name}

-- ---- tags

module _ (table : Table) where
  -- a typed reference is there
  pub place_of : (s : State) (r : Reference) (t : Tag) → PointsTo table (root_value s) r t → (w : Value) × (place_value s r.place ≡ Some w) × IsOf table w t
  place_of s r t h =
      let found = read_within table h.root.value h.base t r.place.path h.root.is_of h.leads in
      (found.0, subst (λ (x : Option Value). option_and_then (λ v. value_at v r.place.path) x ≡ Some found.0) (sym h.root.is_there) found.1, found.2)

  -- a typed value has its type's tag
  pub typed_tag : (s : State) (v : Value) (t : Tag) → HasType table (root_value s) v t → tag_of s v ≡ Some t
  typed_tag s (Leaf k n) (LeafTag j) h = ap (λ i. Some (LeafTag i)) h.0
  typed_tag s (Struct name fields) (StructTag u) h = ap (λ i. Some (StructTag i)) h.0
  typed_tag s (Ref r) (ReferenceTag m t) h =
      let found = place_of s r t h.1 in
      let tagged : option_and_then plain_tag (place_value s r.place) ≡ Some t = subst (λ (x : Option Value). option_and_then plain_tag x ≡ Some t) (sym found.1) (tag_is table found.0 t found.2) in
      subst (λ (x : Option Tag). option_map (ReferenceTag r.is_mutable) x ≡ Some (ReferenceTag m t)) (sym tagged) (ap (λ (b : Bool). Some (ReferenceTag b t)) h.0)
  typed_tag s v t h = absurd h

  pub typed_has_tag : (s : State) (v : Value) (t : Tag) → HasType table (root_value s) v t → has_tag s v t ≡ true
  typed_has_tag s v t h = subst (λ (x : Option Tag). option_map_or (λ own. same_tag own t) x false ≡ true) (sym (typed_tag s v t h)) (same_tag-same t)

  -- a type that is no reference's
  pub plain_is : (look : Roots) (v : Value) (t : Tag) → is_reference_tag t ≡ false → HasType table look v t → IsOf table v t
  plain_is look v (ReferenceTag m t) e h = absurd cc
  plain_is look v t e h = h

  pub is_plain : (look : Roots) (v : Value) (t : Tag) → IsOf table v t → HasType table look v t
  is_plain look (Ref r) (ReferenceTag m t) h = absurd h
  is_plain look v (ReferenceTag m t) h = absurd h
  is_plain look v t h = h

-- a type that is no reference has no reference's tag
pub named_plain : (m : Module) (t : ValueType) (tag : Tag) → value_type_named m t ≡ Some tag → is_reference_tag tag ≡ false
named_plain m (OfLeaf k) tag e = subst (λ (x : Tag). is_reference_tag x ≡ false) (same_Some (LeafTag k) tag e) refl
named_plain m (OfStruct h) tag e =
    on_bind (struct_name m h) (λ name. Some (StructTag name)) tag e (λ name name_is e1.
    subst (λ (x : Tag). is_reference_tag x ≡ false) (same_Some (StructTag name) tag e1) refl)

-- values of types have their types' tags
pub tokens_have_tags : (modules : List Module) (look : Roots) (home : Module) (vs : List Value) (ts : List Token) (tags : List Tag)
    → HaveTokens modules look home vs ts → tokens_named home ts ≡ Some tags → HaveTypes (fields_by_name modules) look vs tags
tokens_have_tags modules look home [] [] tags h e = subst (λ (x : List Tag). HaveTypes (fields_by_name modules) look [] x) (same_Some [] tags e) tt
tokens_have_tags modules look home (v ∷ vs) (t ∷ ts) tags h e =
    on_names home t ts tags e (λ tag rest tag_is rest_is whole.
    let same : h.0.tag ≡ tag = same_Some h.0.tag tag (sym h.0.names ∙ tag_is) in
    subst (λ (x : List Tag). HaveTypes (fields_by_name modules) look (v ∷ vs) x) whole
    (subst (λ (x : Tag). HasType (fields_by_name modules) look v x) same h.0.typed, tokens_have_tags modules look home vs ts rest h.1 rest_is))
tokens_have_tags modules look home vs ts tags h e = absurd h

pub typed_have_tags : (table : Table) (s : State) (vs : List Value) (ts : List Tag) → HaveTypes table (root_value s) vs ts → have_tags s vs ts ≡ true
typed_have_tags table s [] [] h = refl
typed_have_tags table s (v ∷ vs) (t ∷ ts) h = and_from _ _ (typed_has_tag table s v t h.0) (typed_have_tags table s vs ts h.1)
typed_have_tags table s vs ts h = absurd h

-- ---- locals

module _ (modules : List Module) (look : Roots) (home : Module) where
  -- a local of a declared type is there
  pub local_at : (vs : List (Option Value)) (ts : List Token) (l : ℕ) (t : Token) → LocalsHaveTokens modules look home vs ts → slice_get ts l ≡ Some t →
      (v : Option Value) × (slice_get vs l ≡ Some v) × LocalHasToken modules look home v t
  local_at [] [] l t h e = absurd cc
  local_at (v ∷ vs) (u ∷ ts) zero t h e = (v, refl, subst (λ (x : Token). LocalHasToken modules look home v x) (same_Some u t e) h.0)
  local_at (v ∷ vs) (u ∷ ts) (suc l) t h e = local_at vs ts l t h.1 e
  local_at vs ts l t h e = absurd h

  pub local_set : (vs : List (Option Value)) (ts : List Token) (l : ℕ) (t : Token) (new : Option Value) → LocalsHaveTokens modules look home vs ts
      → slice_get ts l ≡ Some t → LocalHasToken modules look home new t → LocalsHaveTokens modules look home (slice_set vs l new) ts
  local_set [] [] l t new h e k = h
  local_set (v ∷ vs) (u ∷ ts) zero t new h e k = (subst (λ (x : Token). LocalHasToken modules look home new x) (sym (same_Some u t e)) k, h.1)
  local_set (v ∷ vs) (u ∷ ts) (suc l) t new h e k = (h.0, local_set vs ts l t new h.1 e k)
  local_set vs ts l t new h e k = absurd h

-- the other roots hold what they held
pub other_roots : (s : State) (l : ℕ) (new : Option Value) (root : Root) → (root ≡ Local s.top.number l → ⊥) → root_value (with_own_local s l new) root ≡ root_value s root
other_roots s l new (Stored key) far = refl
other_roots s l new (Local m k) far = by_case (eqb s.top.number m) (eqb l k) refl refl
  where
    by_case : (a b : Bool) → eqb s.top.number m ≡ a → eqb l k ≡ b → root_value (with_own_local s l new) (Local m k) ≡ root_value s (Local m k)
    by_case false b e g = rw e refl
    by_case true false e g = rw (e, slice_get-set_other s.top.locals l k new (eqb-false l k g)) refl
    by_case true true e g =
        let same_frame : s.top.number ≡ m = eqb-true s.top.number m e in
        let same_local : l ≡ k = eqb-true l k g in
        absurd (far (subst (λ (n : ℕ). Local m k ≡ Local n l) (sym same_frame) (ap (Local m) (sym same_local))))

-- the local's own root
pub own_root : (s : State) (l : ℕ) (old : Option Value) → slice_get s.top.locals l ≡ Some old → root_value s (Local s.top.number l) ≡ old
own_root s l old e = rw (eq-eqb s.top.number s.top.number refl, e) refl
