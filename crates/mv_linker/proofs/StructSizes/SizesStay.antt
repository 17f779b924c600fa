-- Sizes of structs stay where modules are added, or replaced by such as keep their structs.
use Rattle.mv_linker.proofs.Common.{[], ℕ, ◌&&◌, ◌+◌, ◌>>=◌, ◌∙◌, ◌∷◌, ◌≡◌, Abilities, Field, IsSized, LeafTag, List, Module, ModuleName, MutableReference, None, OfLeaf, OfStruct}
use Rattle.mv_linker.proofs.Common.{Option, Plain, Reference, ReferenceTag, Size, Some, StructDefinition, StructName, StructTag, Tag, Token, ap, ap₂, both_ways, bytes_eq, declared}
use Rattle.mv_linker.proofs.Common.{declared_in, definition_of, false, find_index, first_so, inl, inr, is_struct, leaves_of, leaves_within, leb, list_all, module_named, module_place}
use Rattle.mv_linker.proofs.Common.{name_of_struct, on_bind, option_map_or, own_name, refl, same_abilities, same_fields, same_Some, same_tag, second_so, slice_get, struct_is_small}
use Rattle.mv_linker.proofs.Common.{struct_name, structs_are_there, suc, sum_of_fields, sym, token_named, true, value_type_named, zero, ◌⊎◌, IsTrue, structs_stay}
use Rattle.std.proofs.lemmas.Option.{option_and_then_some, some_pair_parts}
use Rattle.mv_linker.proofs.Lemmas.{all_from, all_at, module_place-is, passing, same_bind, struct_parts}
use Rattle.mv_linker.proofs.Joining.Upgraded.{Replaces, both-there, parts-stay, stays-at, struct-stays}
use Rattle.mv_link_rules.proofs.TagTests.{same_tag-is}
use Rattle.mv_linker.proofs.Joining.Resolving.{struct-of-all}
use Rattle.mv_interface.proofs.OwnDefinitions.{OwnsStructs}

-- an old module stands among the new ones, or one of its name that keeps its structs
abbrev pub Keeps : List Module → List Module → Type 0
Keeps old new = (name : ModuleName) (m : Module) → module_named old name ≡ Some m
    → (n : Module) × (module_named new name ≡ Some n) × ((n ≡ m) ⊎ (IsTrue (structs_stay m m.structs n n.structs) × (own_name n ≡ Some name) × OwnsStructs m × OwnsStructs n))

-- the leaves of a type by name
abbrev leaves_of_tag : (StructName → Option ℕ) → Tag → Option ℕ
leaves_of_tag struct (LeafTag kind) = Some 1
leaves_of_tag struct (StructTag name) = struct name
leaves_of_tag struct (ReferenceTag is_mutable to) = None

leaves_by_tag : (struct : StructName → Option ℕ) (m : Module) (t : Token) (tag : Tag) → token_named m t ≡ Some tag → leaves_of struct m t ≡ leaves_of_tag struct tag
leaves_by_tag struct m (Plain (OfLeaf kind)) tag e = ap (leaves_of_tag struct) (same_Some (LeafTag kind) tag e)
leaves_by_tag struct m (Plain (OfStruct h)) tag e = on_bind (struct_name m h) _ tag e (λ name is g. rw is (ap (leaves_of_tag struct) (same_Some (StructTag name) tag g)))
leaves_by_tag struct m (Reference t) tag e = on_bind (value_type_named m t) _ tag e (λ to is g. ap (leaves_of_tag struct) (same_Some (ReferenceTag false to) tag g))
leaves_by_tag struct m (MutableReference t) tag e = on_bind (value_type_named m t) _ tag e (λ to is g. ap (leaves_of_tag struct) (same_Some (ReferenceTag true to) tag g))

one_tag : (struct : StructName → Option ℕ) (a b : Tag) → same_tag a b ≡ true → leaves_of_tag struct a ≡ leaves_of_tag struct b
one_tag struct a b h = ap (leaves_of_tag struct) (same_tag-is a b h)

-- fields of the same types have the same leaves, if the structs that they name do
fields_stay : (before after : StructName → Option ℕ) (m n : Module) → ((t : Token) → leaves_of after m t ≡ leaves_of before m t) → (fs gs : List Field) → same_fields m fs n gs ≡ true
    → sum_of_fields (leaves_of after n) gs ≡ sum_of_fields (leaves_of before m) fs
fields_stay before after m n same [] [] h = refl
fields_stay before after m n same [] (g ∷ gs) h = absurd (both_ways false refl h)
fields_stay before after m n same (f ∷ fs) [] h = absurd (both_ways false refl h)
fields_stay before after m n same (f ∷ fs) (g ∷ gs) h =
    let names = option_map_or (λ a. option_map_or (bytes_eq a) (slice_get n.identifiers g.name) false) (slice_get m.identifiers f.name) false in
    let types = option_map_or (λ a. option_map_or (same_tag a) (token_named n g.token) false) (token_named m f.token) false in
    let both = both-there same_tag (token_named m f.token) (token_named n g.token) (second_so names types (first_so (names && types) (same_fields m fs n gs) h)) in
    let one : leaves_of after n g.token ≡ leaves_of before m f.token =
    leaves_by_tag after n g.token both.1 both.3 ∙ sym (one_tag after both.0 both.1 both.4) ∙ sym (leaves_by_tag after m f.token both.0 both.2) ∙ same f.token in
    ap₂ (λ x y. x >>= λ a. y >>= λ b. Some (a + b)) one (fields_stay before after m n same fs gs (second_so (names && types) (same_fields m fs n gs) h))

-- the definition of a name, by its parts
record IsDefinition (modules : List Module) (name : StructName) (m : Module) (fields : List Field) : Type 0 where
  pub home : module_named modules name.home ≡ Some m
  pub index : ℕ
  pub found : find_index (is_struct m name) m.structs ≡ Some index
  pub definition : StructDefinition
  pub at : slice_get m.structs index ≡ Some definition
  pub same : definition.fields ≡ fields

definition_from : (modules : List Module) (name : StructName) (m : Module) (fields : List Field) → definition_of modules name ≡ Some (m, fields) → IsDefinition modules name m fields
definition_from modules name m fields e =
    on_bind (module_named modules name.home) _ (m, fields) e (λ x is e1. on_bind (find_index (is_struct x name) x.structs) _ (m, fields) e1 (λ i is2 e2. on_bind (slice_get x.structs i) _ (m, fields) e2 (λ d is3 e3.
    let pair = some_pair_parts x m d.fields fields e3 in
    record {
      home = is ∙ ap Some pair.0;
      index = i;
      found = ap (λ y. find_index (is_struct y name) y.structs) (sym pair.0) ∙ is2;
      definition = d;
      at = ap (λ (y : Module). slice_get y.structs i) (sym pair.0) ∙ is3;
      same = pair.1;
    })))

pub definition_made : (modules : List Module) (name : StructName) (m : Module) (i : ℕ) (d : StructDefinition) → module_named modules name.home ≡ Some m
    → find_index (is_struct m name) m.structs ≡ Some i → slice_get m.structs i ≡ Some d → definition_of modules name ≡ Some (m, d.fields)
definition_made modules name m i d e f g = rw (e, f, g) refl

-- a struct handle of a store that is linked names a definition of the store
abbrev Defines : List Module → StructName → Type 0
Defines modules name = (m : Module) × (fields : List Field) × (definition_of modules name ≡ Some (m, fields))

declared_there : (store : List Module) (name : StructName) (abilities : Abilities) → declared store name ≡ Some abilities → Defines store name
declared_there store name abilities e =
    option_and_then_some (declared_in name) (module_named store name.home) abilities e (λ m home e1. option_and_then_some _ (find_index (is_struct m name) m.structs) abilities e1
    (λ i found e2. option_and_then_some _ (slice_get m.structs i) abilities e2 (λ d at e3. (m, d.fields, definition_made store name m i d home found at))))

pub handle_defined : (store : List Module) (m : Module) (h : ℕ) (name : StructName) → structs_are_there store m 0 m.struct_handles ≡ true → struct_name m h ≡ Some name → Defines store name
handle_defined store m h name all e = struct_parts m h name e (λ handle here home_is name_is.
    let there = rw e at (struct-of-all store m h handle here all) in
    let a = passing (same_abilities handle.abilities) (declared store name) there in
    declared_there store name a.0 a.1)

module _ (old result : List Module) (keeps : Keeps old result) (linked : list_all (λ m. structs_are_there old m 0 m.struct_handles) old ≡ true) where
  module_at : (name : ModuleName) (m : Module) → module_named old name ≡ Some m → (k : ℕ) × (slice_get old k ≡ Some m) × (own_name m ≡ Some name)
  module_at name m e =
      option_and_then_some (slice_get old) (module_place old name) m e
      (λ k place at.
      let r = module_place-is old name k place in
      let same : r.0 ≡ m = same_Some r.0 m (sym r.1 ∙ at) in
      (k, at, ap own_name (sym same) ∙ r.2))

  abbrev Same : ℕ → Type 0
  Same k = (name : StructName) → Defines old name → leaves_within k result name ≡ leaves_within k old name

  -- a type that an old module names
  token_stays : (k : ℕ) → Same k → (p : ℕ) (m : Module) → slice_get old p ≡ Some m → (t : Token) → leaves_of (leaves_within k result) m t ≡ leaves_of (leaves_within k old) m t
  token_stays k same p m at (Plain (OfLeaf kind)) = refl
  token_stays k same p m at (Reference t) = refl
  token_stays k same p m at (MutableReference t) = refl
  token_stays k same p m at (Plain (OfStruct h)) = same_bind (struct_name m h) (leaves_within k result) (leaves_within k old) (λ name e.
      same name (handle_defined old m h name (all_at (λ m. structs_are_there old m 0 m.struct_handles) old p m linked at) e))

  sums_stay : (before after : StructName → Option ℕ) (m : Module) → ((t : Token) → leaves_of after m t ≡ leaves_of before m t) → (fs : List Field)
      → sum_of_fields (leaves_of after m) fs ≡ sum_of_fields (leaves_of before m) fs
  sums_stay before after m same [] = refl
  sums_stay before after m same (f ∷ fs) = ap₂ (λ x y. x >>= λ a. y >>= λ b. Some (a + b)) (same f.token) (sums_stay before after m same fs)

  next_same : (k : ℕ) → Same k → Same (suc k)
  next_same k same name (m, fields, e) =
      let d = definition_from old name m fields e in
      let at = module_at name.home m d.home in
      let kept = keeps name.home m d.home in
      let n = kept.0 in
      let tokens = token_stays k same at.0 m at.1 in
      let old_sum : leaves_within (suc k) old name ≡ sum_of_fields (leaves_of (leaves_within k old) m) fields = ap (λ o. o >>= λ d. sum_of_fields (leaves_of (leaves_within k old) d.0) d.1) e in
      elim kept.2 [
        | inl one ↦
            let defined : definition_of result name ≡ Some (m, fields) =
            definition_made result name m d.index d.definition (kept.1 ∙ ap (λ x. Some x) one) d.found d.at ∙ ap (λ fs. Some (m, fs)) d.same in
            ap (λ o. o >>= λ d. sum_of_fields (leaves_of (leaves_within k result) d.0) d.1) defined
            ∙ sums_stay (leaves_within k old) (leaves_within k result) m tokens fields ∙ sym old_sum
        | inr replaced ↦
            let r : Replaces m n = record { owns = replaced.2; new_owns = replaced.3; named = at.2 ∙ sym replaced.1; stays = replaced.0 } in
            let s = stays-at m n m.structs n.structs d.index d.definition replaced.0 d.at in
            let defined : definition_of result name ≡ Some (n, s.0.fields) = definition_made result name n d.index s.0 kept.1 (struct-stays m n r name d.index d.found) s.1 in
            ap (λ o. o >>= λ d. sum_of_fields (leaves_of (leaves_within k result) d.0) d.1) defined
            ∙ fields_stay (leaves_within k old) (leaves_within k result) m n tokens d.definition.fields s.0.fields (parts-stay m n r d.definition s.0 s.2).2
            ∙ ap (λ fs. sum_of_fields (leaves_of (leaves_within k old) m) fs) d.same ∙ sym old_sum
      ]

  pub leaves-stay : (k : ℕ) (name : StructName) (m : Module) (fields : List Field) → definition_of old name ≡ Some (m, fields) → leaves_within k result name ≡ leaves_within k old name
  leaves-stay zero name m fields e = refl
  leaves-stay (suc k) name m fields e = next_same k (λ x g. leaves-stay k x g.0 g.1 g.2) name (m, fields, e)

  pub size-stays : (name : StructName) (m : Module) (fields : List Field) (s : Size) → definition_of old name ≡ Some (m, fields) → IsSized old name s → IsSized result name s
  size-stays name m fields s e sized = λ k. leaves-stay k name m fields e ∙ sized k

  -- the structs of an old module stay small
  pub small-stays : (p : ℕ) (m : Module) → slice_get old p ≡ Some m → list_all (struct_is_small old m) m.structs ≡ true → list_all (struct_is_small result m) m.structs ≡ true
  small-stays p m at small = all_from (struct_is_small result m) m.structs (λ j d e.
      let was = all_at (struct_is_small old m) m.structs j d small e in
      let n = passing (λ n. leb n 256) (name_of_struct m d >>= leaves_within 8 old) was in
      on_bind (name_of_struct m d) (leaves_within 8 old) n.0 n.1 (λ name named leaves.
      let there = handle_defined old m d.handle name (all_at (λ m. structs_are_there old m 0 m.struct_handles) old p m linked at) named in
      rw (named, leaves-stay 8 name there.0 there.1 there.2, leaves) n.2))
