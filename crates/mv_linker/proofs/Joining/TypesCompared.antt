-- Types of two modules are one by names exactly where they are one by definitions.
--   part-compared, type-compared   one type of each
--   types-compared                 lists of them
use Rattle.mv_linker.proofs.Common.{[], ℕ, ◌&&◌, ◌==◌, ◌>>=◌, ◌∙◌, ◌∷◌, ◌≡◌, AreStructsAt, Bool, Definition, IsPart, IsStructAt, Leaf, LeafTag, List, Module, None, Nothing, OfLeaf, OfStruct, Option}
use Rattle.mv_linker.proofs.Common.{Part, ReferenceTag, Some, Struct, StructName, StructTag, Tag, Token, ValueType, and_from, and_parts, ap, ap₂, both_there, eq-eqb, eqb-true, false, module_place}
use Rattle.mv_linker.proofs.Common.{find_index, is_some, is_struct, option_map_or, refl, same_Some, same_struct, same_tag, same_types, slice_get, slice_get_past, struct_name, sym}
use Rattle.mv_linker.proofs.Common.{token_named, true, value_type_named, both_ways, AreTypes, IsType, LinkedType, MutableReference, Plain, Reference}
use Rattle.mv_move_types.specs.declared.token.LeafKind.{LeafKind}
use Rattle.mv_interface.specs.Shapes.{is_of_value}
use Rattle.mv_interface.specs.TypesByDefinition.{are_types, is_part, is_type, same_definition}
use Rattle.mv_interface.specs.declared.interface.LinkedType.TheVariants.{Plain as Value, Reference as ReferenceTo, MutableReference as MutableReferenceTo}
use Rattle.mv_linker.proofs.Lemmas.{past_from}
use Rattle.mv_bound_rules.proofs.NameLemmas.{same_struct-is, same_struct-same}
use Rattle.mv_linker.proofs.Kept.HandleDefinitions.{name-found}

-- two tests that pass together are one
one-test : (a b : Bool) → (a ≡ true → b ≡ true) → (b ≡ true → a ≡ true) → a ≡ b
one-test true b f g = sym (f refl)
one-test false true f g = g refl
one-test false false f g = refl

-- the value of a type that is no reference
value_of : ValueType → Token → ValueType
value_of default (Plain t) = t
value_of default _ = default

-- ---- structs by their definitions

-- structs that are defined at one place have one name
one-name : (modules : List Module) (m n : Module) (h k : ℕ) (d e : Definition) (r : IsStructAt modules m h d) (s : IsStructAt modules n k e) → d.place ≡ e.place → d.index ≡ e.index → r.name ≡ s.name
one-name modules m n h k d e r s places indices =
    let homes : r.home ≡ s.home = same_Some r.home s.home (sym r.there ∙ ap (slice_get modules) places ∙ s.there) in
    same_Some r.name s.name
    (sym (name-found modules d.place d.index r.home r.name r.there r.index)
    ∙ name-found modules d.place d.index r.home s.name r.there
    (ap (λ (x : Module). find_index (is_struct x s.name) x.structs) homes ∙ s.index ∙ ap (λ i. Some i) (sym indices)))

-- and structs of one name are defined at one place
one-place : (modules : List Module) (m n : Module) (h k : ℕ) (d e : Definition) (r : IsStructAt modules m h d) (s : IsStructAt modules n k e) → r.name ≡ s.name → (d.place ≡ e.place) × (d.index ≡ e.index)
one-place modules m n h k d e r s names =
    let at : Some d.place ≡ Some e.place = sym r.place ∙ ap (λ (x : StructName). module_place modules x.home) names ∙ s.place in
    let places : d.place ≡ e.place = same_Some d.place e.place at in
    let homes : r.home ≡ s.home = same_Some r.home s.home (sym r.there ∙ ap (slice_get modules) places ∙ s.there) in
    let indices : d.index ≡ e.index =
    same_Some d.index e.index
    (sym r.index ∙ ap (λ (x : StructName). find_index (is_struct r.home x) r.home.structs) names ∙ ap (λ (x : Module). find_index (is_struct x s.name) x.structs) homes ∙ s.index) in
    (places, indices)

-- so the tests of both are one
struct-compared : (modules : List Module) (m n : Module) (h k : ℕ) (d e : Definition) (r : IsStructAt modules m h d) (s : IsStructAt modules n k e) → same_definition d e ≡ same_struct r.name s.name
struct-compared modules m n h k d e r s =
    one-test (same_definition d e) (same_struct r.name s.name)
    (λ same.
    let parts = and_parts (d.place == e.place) (d.index == e.index) same in
    let names = one-name modules m n h k d e r s (eqb-true d.place e.place parts.0) (eqb-true d.index e.index parts.1) in
    ap (same_struct r.name) (sym names) ∙ same_struct-same r.name)
    (λ same.
    let places = one-place modules m n h k d e r s (same_struct-is r.name s.name same) in
    and_from (d.place == e.place) (d.index == e.index) (eq-eqb d.place e.place places.0) (eq-eqb d.index e.index places.1))

-- ---- types that are no references

-- what the test says of what isn't there
none-there : (o : Option Tag) → both_there same_tag o None ≡ false
none-there None = refl
none-there (Some a) = refl

-- the name of a struct, against a leaf
struct-leaf : (o : Option StructName) (kind : LeafKind) → both_there same_tag (o >>= λ name. Some (StructTag name)) (Some (LeafTag kind)) ≡ false
struct-leaf None kind = refl
struct-leaf (Some name) kind = refl

-- no name, where there is none
no-name : (o : Option StructName) → is_some o ≡ false → o ≡ None
no-name None e = refl
no-name (Some name) e = absurd (both_ways true e refl)

-- a type of no value has no name
unnamed-value : (n : Module) (u : ValueType) → is_of_value n (Plain u) ≡ false → value_type_named n u ≡ None
unnamed-value n (OfLeaf kind) e = absurd (both_ways true e refl)
unnamed-value n (OfStruct h) e = ap (λ o. o >>= λ name. Some (StructTag name)) (no-name (struct_name n h) e)

module _ (modules : List Module) (m n : Module) (structs : List Definition) (are : AreStructsAt modules m structs) where
  -- a handle with no place is none
  unnamed : (h : ℕ) → slice_get structs h ≡ None → struct_name m h ≡ None
  unnamed h none = rw (slice_get_past m.struct_handles h (past_from structs m.struct_handles h (sym are.len) none)) refl

  -- a struct of a handle, against one that is kept
  handle-compared : (h : ℕ) (o : Option Definition) → slice_get structs h ≡ o → (k : ℕ) (e : Definition) (s : IsStructAt modules n k e)
      → option_map_or (λ d. same_definition d e) o false ≡ both_there same_tag (struct_name m h >>= λ name. Some (StructTag name)) (Some (StructTag s.name))
  handle-compared h None at k e s = ap (λ o. both_there same_tag (o >>= λ name. Some (StructTag name)) (Some (StructTag s.name))) (sym (unnamed h at))
  handle-compared h (Some d) at k e s =
      let r = are.each h d at in
      struct-compared modules m n h k d e r s ∙ ap (λ o. both_there same_tag (o >>= λ name. Some (StructTag name)) (Some (StructTag s.name))) (sym r.named)

  -- a type that is no reference
  part-compared : (t u : ValueType) (p : Part) → IsPart modules n (Plain u) p → is_part structs t p ≡ both_there same_tag (value_type_named m t) (value_type_named n u)
  unfolding value_of
  part-compared (OfLeaf a) u (Leaf b) is = ap (λ v. both_there same_tag (Some (LeafTag a)) (value_type_named n v)) (sym (ap (value_of u) is))
  part-compared (OfStruct h) u (Leaf b) is = sym (ap (λ v. both_there same_tag (value_type_named m (OfStruct h)) (value_type_named n v)) (ap (value_of u) is) ∙ struct-leaf (struct_name m h) b)
  part-compared (OfLeaf a) u (Struct e) (k, is, s) =
      let named : value_type_named n u ≡ Some (StructTag s.name) = ap (value_type_named n) (ap (value_of u) is) ∙ ap (λ o. o >>= λ name. Some (StructTag name)) s.named in
      sym (ap (both_there same_tag (Some (LeafTag a))) named)
  part-compared (OfStruct h) u (Struct e) (k, is, s) =
      let named : value_type_named n u ≡ Some (StructTag s.name) = ap (value_type_named n) (ap (value_of u) is) ∙ ap (λ o. o >>= λ name. Some (StructTag name)) s.named in
      handle-compared h (slice_get structs h) refl k e s ∙ sym (ap (both_there same_tag (value_type_named m (OfStruct h))) named)
  part-compared (OfLeaf a) u Nothing is = sym (ap (both_there same_tag (Some (LeafTag a))) (unnamed-value n u is))
  part-compared (OfStruct h) u Nothing is =
      sym (ap (both_there same_tag (value_type_named m (OfStruct h))) (unnamed-value n u is) ∙ none-there (value_type_named m (OfStruct h)))

-- ---- references

-- references of one kind
references : (i : Bool) (x y : Option Tag) → both_there same_tag (x >>= λ tag. Some (ReferenceTag i tag)) (y >>= λ tag. Some (ReferenceTag i tag)) ≡ both_there same_tag x y
references i None y = refl
references i (Some a) None = refl
references true (Some a) (Some b) = refl
references false (Some a) (Some b) = refl

-- of two kinds
apart : (i j : Bool) (x y : Option Tag) → (i ≡ true → j ≡ true → ⊥) → (i ≡ false → j ≡ false → ⊥) → false ≡ both_there same_tag (x >>= λ tag. Some (ReferenceTag i tag)) (y >>= λ tag. Some (ReferenceTag j tag))
apart i j None y f g = refl
apart i j (Some a) None f g = refl
apart true false (Some a) (Some b) f g = refl
apart false true (Some a) (Some b) f g = refl
apart true true (Some a) (Some b) f g = absurd (f refl refl)
apart false false (Some a) (Some b) f g = absurd (g refl refl)

-- a reference against a type that is none
value-first : (m : Module) (t : ValueType) (j : Bool) (y : Option Tag) → false ≡ both_there same_tag (value_type_named m t) (y >>= λ tag. Some (ReferenceTag j tag))
value-first m (OfLeaf a) j None = refl
value-first m (OfLeaf a) j (Some b) = refl
value-first m (OfStruct h) j y = by_name (struct_name m h) y
  where
    by_name : (o : Option StructName) (y : Option Tag) → false ≡ both_there same_tag (o >>= λ name. Some (StructTag name)) (y >>= λ tag. Some (ReferenceTag j tag))
    by_name None y = refl
    by_name (Some name) None = refl
    by_name (Some name) (Some b) = refl

value-second : (n : Module) (u : ValueType) (i : Bool) (x : Option Tag) → false ≡ both_there same_tag (x >>= λ tag. Some (ReferenceTag i tag)) (value_type_named n u)
value-second n u i None = refl
value-second n (OfLeaf b) i (Some a) = refl
value-second n (OfStruct h) i (Some a) = by_name (struct_name n h)
  where
    by_name : (o : Option StructName) → false ≡ both_there same_tag (Some (ReferenceTag i a)) (o >>= λ name. Some (StructTag name))
    by_name None = refl
    by_name (Some name) = refl

module _ (modules : List Module) (m n : Module) (structs : List Definition) (are : AreStructsAt modules m structs) where
  -- one type
  type-compared : (t u : Token) (k : LinkedType) → IsType modules n u k → is_type structs t k ≡ both_there same_tag (token_named m t) (token_named n u)
  type-compared (Plain t) (Plain u) (Value p) is = part-compared modules m n structs are t u p is
  type-compared (Reference t) (Plain u) (Value p) is = value-second n u false (value_type_named m t)
  type-compared (MutableReference t) (Plain u) (Value p) is = value-second n u true (value_type_named m t)
  type-compared (Plain t) (Reference u) (ReferenceTo p) is = value-first m t false (value_type_named n u)
  type-compared (Reference t) (Reference u) (ReferenceTo p) is = part-compared modules m n structs are t u p is ∙ sym (references false (value_type_named m t) (value_type_named n u))
  type-compared (MutableReference t) (Reference u) (ReferenceTo p) is = apart true false (value_type_named m t) (value_type_named n u) (λ i j. both_ways false refl j) (λ i j. both_ways true i refl)
  type-compared (Plain t) (MutableReference u) (MutableReferenceTo p) is = value-first m t true (value_type_named n u)
  type-compared (Reference t) (MutableReference u) (MutableReferenceTo p) is = apart false true (value_type_named m t) (value_type_named n u) (λ i j. both_ways false refl i) (λ i j. both_ways true j refl)
  type-compared (MutableReference t) (MutableReference u) (MutableReferenceTo p) is = part-compared modules m n structs are t u p is ∙ sym (references true (value_type_named m t) (value_type_named n u))
  type-compared t (Plain u) (ReferenceTo p) is = absurd is
  type-compared t (Plain u) (MutableReferenceTo p) is = absurd is
  type-compared t (Reference u) (Value p) is = absurd is
  type-compared t (Reference u) (MutableReferenceTo p) is = absurd is
  type-compared t (MutableReference u) (Value p) is = absurd is
  type-compared t (MutableReference u) (ReferenceTo p) is = absurd is

  -- lists of types
  pub types-compared : (ts us : List Token) (ks : List LinkedType) → AreTypes modules n us ks → are_types structs ts ks ≡ same_types m ts n us
  types-compared [] [] [] is = refl
  types-compared [] (u ∷ us) (k ∷ ks) is = refl
  types-compared (t ∷ ts) [] [] is = refl
  types-compared (t ∷ ts) (u ∷ us) (k ∷ ks) is = ap₂ (λ a b. a && b) (type-compared t u k is.0) (types-compared ts us ks is.1)
  types-compared ts [] (k ∷ ks) is = absurd is
  types-compared ts (u ∷ us) [] is = absurd is
