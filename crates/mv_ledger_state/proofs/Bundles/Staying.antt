-- What is stored stays as it was where a bundle is published: its words are fine, and stand for the same values.
use Rattle.mv_ledger_state.proofs.Common.{[], ◌+◌, ◌∙◌, ◌∷◌, ◌≡◌, ◌⊎◌, Bool, List, None, Option, Some, ap, ap₂, arith, false, inl, inr, option_map, refl, subst, suc, sym, true, zero, ℕ}
use Rattle.mv_ledger_state.proofs.Common.{and_from, All-head, All-tail, All-weaker, same_Some, first_so, second_so, option_map_or, ◌&&◌, All, option_and_then, slice_get, unwrap_or, bytes_eq}
use Rattle.mv_ledger_state.proofs.Common.{same_abilities, Module, StructDefinition, name_at, name_of_struct, struct_abilities, struct_name, declared, declared_in, definition_of, is_struct, module_named}
use Rattle.mv_ledger_state.proofs.Common.{module_place, StructName, same_struct, ◌>>=◌, find_index, PublishedModule, LeafTag, ReferenceTag, StructTag, Tag, same_tag, same_kind, Field, Key}
use Rattle.mv_ledger_state.proofs.Common.{StructHandle, Abilities, Boolean, Token, MutableReference, Plain, Reference, ValueType, OfLeaf, OfStruct, on_bind, address_fits, FlatEntry, fields_from}
use Rattle.mv_ledger_state.proofs.Common.{storage_of, struct_from, value_from, value_under, Storage, abilities_at, are_of_types, is_fine_entry, is_fine_storage, is_of_struct, is_of_type, leaf_fits, Leaf}
use Rattle.mv_ledger_state.proofs.Common.{More, NoMore, Ref, Struct, Value, Values, all_at, then_found, same_struct-is, same_tag-is, IsStore, tables_in, struct_is_there, structs_are_there, same_field}
use Rattle.mv_ledger_state.proofs.Common.{same_fields, own_of_store, IsOwn, IsFineWords, IsAcceptedBy}
use Rattle.mv_bound_rules.specs.TypesByName.{token_named, value_type_named}
use Rattle.mv_ledger_state.proofs.Bundles.Heirs.{Inherits, inherited, stayed, name-stays, Stayed}
use Rattle.mv_bound_rules.proofs.Found.{passing, found_passes}
use Rattle.mv_linker.proofs.Joining.Resolving.{structs_there_at}
use Rattle.std.proofs.lemmas.Option.{option_and_then_some}

-- ---- types by their names

-- fields of one type each
abbrev AreAlike : Module → List Field → Module → List Field → Type 0
AreAlike m [] n [] = Unit {0}
AreAlike m (f ∷ fs) n (g ∷ gs) = (token_named m f.token ≡ token_named n g.token) × AreAlike m fs n gs
AreAlike _ _ _ _ = ⊥

alike-self : (m : Module) (fs : List Field) → AreAlike m fs m fs
alike-self m [] = tt
alike-self m (f ∷ fs) = (refl, alike-self m fs)

alike-fields : (m : Module) (fs : List Field) (n : Module) (gs : List Field) → same_fields m fs n gs ≡ true → AreAlike m fs n gs
alike-fields m [] n [] h = tt
alike-fields m (f ∷ fs) n (g ∷ gs) h =
    let names = option_map_or (λ a. option_map_or (bytes_eq a) (slice_get n.identifiers g.name) false) (slice_get m.identifiers f.name) false in
    let types = option_map_or (λ a. option_map_or (same_tag a) (token_named n g.token) false) (token_named m f.token) false in
    let t = passing (λ a. option_map_or (same_tag a) (token_named n g.token) false) (token_named m f.token) (second_so names types (first_so (same_field m f n g) (same_fields m fs n gs) h)) in
    let u = passing (same_tag t.0) (token_named n g.token) t.2 in
    (t.1 ∙ ap (λ (x : Tag). Some x) (same_tag-is t.0 u.0 u.2) ∙ sym u.1, alike-fields m fs n gs (second_so (same_field m f n g) (same_fields m fs n gs) h))
alike-fields m _ n _ h = absurd cc

-- the value of a type by names that begins with these leaves
abbrev by_tag : (StructName → List ℕ → Option (Value × List ℕ)) → Option Tag → List ℕ → Option (Value × List ℕ)
by_tag struct (Some (LeafTag k)) (n ∷ words) = Some (Leaf k n, words)
by_tag struct (Some (LeafTag k)) [] = None
by_tag struct (Some (StructTag name)) words = struct name words
by_tag struct (Some (ReferenceTag b t)) words = None
by_tag struct None words = None

value-by-tag : (struct : StructName → List ℕ → Option (Value × List ℕ)) (m : Module) (t : Token) (words : List ℕ) → value_from struct m t words ≡ by_tag struct (token_named m t) words
value-by-tag struct m (Plain (OfStruct h)) words =
    elim (struct_name m h) as (λ o. (o >>= λ name. struct name words) ≡ by_tag struct (o >>= λ name. Some (StructTag name)) words) [ None ↦ refl | Some name ↦ refl ]
value-by-tag struct m (Reference t) words =
    elim (value_type_named m t) as (λ o. None ≡ by_tag struct (o >>= λ tag. Some (ReferenceTag false tag)) words) [ None ↦ refl | Some tag ↦ refl ]
value-by-tag struct m (MutableReference t) words =
    elim (value_type_named m t) as (λ o. None ≡ by_tag struct (o >>= λ tag. Some (ReferenceTag true tag)) words) [ None ↦ refl | Some tag ↦ refl ]
value-by-tag _ _ _ _ = refl

-- whether a value is of a type by names
abbrev fits_tag : List Module → Option Tag → Value → Bool
fits_tag modules (Some (LeafTag k)) (Leaf j n) = same_kind j k && leaf_fits k n
fits_tag modules (Some (StructTag own)) (Struct name fields) = same_struct own name && option_map_or (λ d. are_of_types modules d.0 d.1 fields) (definition_of modules name) false
fits_tag modules _ _ = false

reference-none : (modules : List Module) (m : Module) (t : ValueType) (v : Value) → (is_of_type modules m (Reference t) v ≡ false) × (is_of_type modules m (MutableReference t) v ≡ false)
reference-none modules m t (Leaf j n) = (refl, refl)
reference-none modules m t (Struct name fields) = (refl, refl)
reference-none modules m t (Ref r) = (refl, refl)

type-by-tag : (modules : List Module) (m : Module) (t : Token) (v : Value) → is_of_type modules m t v ≡ fits_tag modules (token_named m t) v
type-by-tag modules m (Plain (OfLeaf k)) (Leaf j n) = refl
type-by-tag modules m (Plain (OfLeaf k)) (Struct name fields) = refl
type-by-tag modules m (Plain (OfLeaf k)) (Ref r) = refl
type-by-tag modules m (Plain (OfStruct h)) (Leaf j n) =
    elim (struct_name m h) as (λ o. false ≡ fits_tag modules (o >>= λ name. Some (StructTag name)) (Leaf j n)) [ None ↦ refl | Some own ↦ refl ]
type-by-tag modules m (Plain (OfStruct h)) (Struct name fields) =
    let fit = option_map_or (λ (d : Module × List Field). are_of_types modules d.0 d.1 fields) (definition_of modules name) false in
    elim (struct_name m h) as (λ o. (option_map_or (λ own. same_struct own name) o false && fit) ≡ fits_tag modules (o >>= λ name. Some (StructTag name)) (Struct name fields)) [
      | None ↦ refl
      | Some own ↦ refl
    ]
type-by-tag modules m (Plain (OfStruct h)) (Ref r) =
    elim (struct_name m h) as (λ o. false ≡ fits_tag modules (o >>= λ name. Some (StructTag name)) (Ref r)) [ None ↦ refl | Some own ↦ refl ]
type-by-tag modules m (Reference t) v =
    (reference-none modules m t v).0 ∙ elim (value_type_named m t) as (λ o. false ≡ fits_tag modules (o >>= λ tag. Some (ReferenceTag false tag)) v) [ None ↦ refl | Some tag ↦ refl ]
type-by-tag modules m (MutableReference t) v =
    (reference-none modules m t v).1 ∙ elim (value_type_named m t) as (λ o. false ≡ fits_tag modules (o >>= λ tag. Some (ReferenceTag true tag)) v) [ None ↦ refl | Some tag ↦ refl ]

-- ---- structs that are there

-- a struct that is declared is defined
defined-there : (modules : List Module) (name : StructName) (a : Abilities) → declared modules name ≡ Some a → (d : Module × List Field) × (definition_of modules name ≡ Some d)
defined-there modules name a e =
    option_and_then_some (declared_in name) (module_named modules name.home) a e (λ m m_is e1.
    option_and_then_some (λ i. option_and_then (λ (d : StructDefinition). option_map (λ (h : StructHandle). h.abilities) (slice_get m.struct_handles d.handle)) (slice_get m.structs i))
    (find_index (is_struct m name) m.structs) a e1 (λ i i_is e2.
    option_and_then_some (λ (d : StructDefinition). option_map (λ (h : StructHandle). h.abilities) (slice_get m.struct_handles d.handle)) (slice_get m.structs i) a e2 (λ d d_is e3.
    let made : Module × List Field = (m, d.fields) in (
      made,
      then_found (module_named modules name.home) _ m (Some made) m_is
          (then_found (find_index (is_struct m name) m.structs) _ i (Some made) i_is (then_found (slice_get m.structs i) _ d (Some made) d_is refl)),
    ))))

-- a struct that a type of a module names is defined
named-there : (modules : List Module) (m : Module) (t : Token) (name : StructName) → structs_are_there modules m 0 m.struct_handles ≡ true → token_named m t ≡ Some (StructTag name)
    → (d : Module × List Field) × (definition_of modules name ≡ Some d)
named-there modules m (Plain (OfLeaf k)) name all e = absurd cc
named-there modules m (Plain (OfStruct h)) name all e = on_bind (struct_name m h) _ (StructTag name) e (λ own is e'.
    let same : own ≡ name = cc in
    on_bind (slice_get m.struct_handles h) _ own is (λ handle handle_is e1.
    let at : 0 + h ≡ h = omega arith in
    let here : struct_is_there modules m h handle ≡ true = subst (λ (n : ℕ). struct_is_there modules m n handle ≡ true) at (structs_there_at modules m 0 m.struct_handles h handle all handle_is) in
    let n = passing (λ n. option_map_or (same_abilities handle.abilities) (declared modules n) false) (struct_name m h) here in
    let a = passing (same_abilities handle.abilities) (declared modules n.0) n.2 in
    let name_is : n.0 ≡ name = same_Some n.0 own (sym n.1 ∙ is) ∙ same in
    defined-there modules name a.0 (ap (declared modules) (sym name_is) ∙ a.1)))
named-there modules m (Reference t) name all e = on_bind (value_type_named m t) _ (StructTag name) e (λ tag is e'. absurd cc)
named-there modules m (MutableReference t) name all e = on_bind (value_type_named m t) _ (StructTag name) e (λ tag is e'. absurd cc)

-- what goes on alike from a part goes on to the same
goes-alike : {A B : Type 0} (o : Option A) (f g : A → Option B) → ((x : A) → f x ≡ g x) → (o >>= f) ≡ (o >>= g)
goes-alike None f g alike = refl
goes-alike (Some x) f g alike = alike x

module _ (old new : List PublishedModule) (old_store : IsStore old) (new_store : IsStore new) (inherits : Inherits (tables_in old) (tables_in new)) where
  -- a struct's definition and what it becomes
  record BecomesIn (name : StructName) (d : Module × List Field) : Type 0 where
    place : ℕ
    at : slice_get (tables_in old) place ≡ Some d.0
    new_one : Module × List Field
    is_new : definition_of (tables_in new) name ≡ Some new_one
    alike : AreAlike d.0 d.1 new_one.0 new_one.1

  becomes : (name : StructName) (d : Module × List Field) → definition_of (tables_in old) name ≡ Some d → BecomesIn name d
  becomes name d e =
      on_bind (module_named (tables_in old) name.home) _ d e (λ m m_is e1.
      on_bind (find_index (is_struct m name) m.structs) _ d e1 (λ i i_is e2.
      on_bind (slice_get m.structs i) _ d e2 (λ x x_is e3.
      option_and_then_some (slice_get (tables_in old)) (module_place (tables_in old) name.home) m m_is (λ place place_is at.
      let made : Module × List Field = (m, x.fields) in
      let same : made ≡ d = same_Some made d e3 in
      let t = passing (λ own. same_struct own name) (name_of_struct m x) (found_passes (is_struct m name) m.structs i x i_is x_is) in
      let named : name_of_struct m x ≡ Some name = t.1 ∙ ap (λ (n : StructName). Some n) (same_struct-is t.0 name t.2) in
      let n = inherits place m at in
      let s : Stayed m x name n.0 i = stayed old new old_store new_store inherits place i m n.0 x name at n.1 n.2 x_is named in
      let own : IsOwn (tables_in new) n.0 i s.definition = own_of_store new place n.0 new_store n.1 i s.definition s.is_there in
      let one : own.name ≡ name = same_Some own.name name (sym own.named ∙ s.is_named) in
      let after : Module × List Field = (n.0, s.definition.fields) in
      subst (BecomesIn name) same (record {
        place = place;
        at = at;
        new_one = after;
        is_new = subst (λ (y : StructName). definition_of (tables_in new) y ≡ Some after) one own.definition;
        alike = alike_so m x n.0 s.definition s.fields;
      })))))
    where
      alike_so : (m : Module) (x : StructDefinition) (n : Module) (y : StructDefinition) → ((n ≡ m) × (y ≡ x)) ⊎ (same_fields m x.fields n y.fields ≡ true) → AreAlike m x.fields n y.fields
      alike_so m x n y (inl (p, q)) = subst (λ (k : Module). AreAlike m x.fields k y.fields) (sym p) (subst (λ (z : StructDefinition). AreAlike m x.fields m z.fields) (sym q) (alike-self m x.fields))
      alike_so m x n y (inr h) = alike-fields m x.fields n y.fields h

  -- the structs of a module's handles are there
  all-there : (place : ℕ) (m : Module) → slice_get (tables_in old) place ≡ Some m → structs_are_there (tables_in old) m 0 m.struct_handles ≡ true
  all-there place m at = all_at (λ m. structs_are_there (tables_in old) m 0 m.struct_handles) (tables_in old) place m old_store.links.structs at

  -- ---- values of words

  -- a struct value is read from its words as before
  abbrev ReadsAlike : ℕ → Type 0
  ReadsAlike depth = (name : StructName) (d : Module × List Field) → definition_of (tables_in old) name ≡ Some d → (words : List ℕ)
      → struct_from depth (tables_in new) name words ≡ struct_from depth (tables_in old) name words

  tag-alike : (depth : ℕ) → ReadsAlike depth → (m : Module) → structs_are_there (tables_in old) m 0 m.struct_handles ≡ true → (t : Token) (tag : Option Tag) → token_named m t ≡ tag → (words : List ℕ)
      → by_tag (struct_from depth (tables_in new)) tag words ≡ by_tag (struct_from depth (tables_in old)) tag words
  tag-alike depth reads m all t (Some (StructTag name)) is words = let d = named-there (tables_in old) m t name all is in reads name d.0 d.1 words
  tag-alike _ _ _ _ _ _ _ _ = refl

  fields-alike : (depth : ℕ) → ReadsAlike depth → (m : Module) → structs_are_there (tables_in old) m 0 m.struct_handles ≡ true → (n : Module) (fs gs : List Field) → AreAlike m fs n gs
      → (words : List ℕ) → fields_from (value_from (struct_from depth (tables_in new)) n) gs words ≡ fields_from (value_from (struct_from depth (tables_in old)) m) fs words
  fields-alike depth reads m all n [] [] alike words = refl
  fields-alike depth reads m all n (f ∷ fs) (g ∷ gs) alike words =
      let first : value_from (struct_from depth (tables_in new)) n g.token words ≡ value_from (struct_from depth (tables_in old)) m f.token words =
      value-by-tag (struct_from depth (tables_in new)) n g.token words
      ∙ ap (λ (o : Option Tag). by_tag (struct_from depth (tables_in new)) o words) (sym alike.0)
      ∙ tag-alike depth reads m all f.token (token_named m f.token) refl words
      ∙ sym (value-by-tag (struct_from depth (tables_in old)) m f.token words) in
      ap (λ o. o >>= rest_new) first ∙ goes-alike (value_from (struct_from depth (tables_in old)) m f.token words) rest_new rest_old
      (λ x. ap (λ o. o >>= λ rest. Some (More x.0 rest.0, rest.1)) (fields-alike depth reads m all n fs gs alike.1 x.1))
    where
      rest_new : Value × List ℕ → Option (Values × List ℕ)
      rest_new first = fields_from (value_from (struct_from depth (tables_in new)) n) gs first.1 >>= λ rest. Some (More first.0 rest.0, rest.1)

      rest_old : Value × List ℕ → Option (Values × List ℕ)
      rest_old first = fields_from (value_from (struct_from depth (tables_in old)) m) fs first.1 >>= λ rest. Some (More first.0 rest.0, rest.1)
  fields-alike _ _ _ _ _ _ _ alike _ = absurd alike

  struct-alike : (depth : ℕ) → ReadsAlike depth
  struct-alike zero name d e words = refl
  struct-alike (suc depth) name d e words =
      let b : BecomesIn name d = becomes name d e in
      ap (λ o. o >>= from_new) b.is_new
      ∙ ap (λ o. o >>= λ fields. Some (Struct name fields.0, fields.1)) (fields-alike depth (struct-alike depth) d.0 (all-there b.place d.0 b.at) b.new_one.0 d.1 b.new_one.1 b.alike words)
      ∙ ap (λ o. o >>= from_old) (sym e)
    where
      from_new : Module × List Field → Option (Value × List ℕ)
      from_new x = fields_from (value_from (struct_from depth (tables_in new)) x.0) x.1 words >>= λ fields. Some (Struct name fields.0, fields.1)

      from_old : Module × List Field → Option (Value × List ℕ)
      from_old x = fields_from (value_from (struct_from depth (tables_in old)) x.0) x.1 words >>= λ fields. Some (Struct name fields.0, fields.1)

  -- ---- types of values

  mutual
    tag-stays : (v : Value) (tag : Option Tag) → fits_tag (tables_in old) tag v ≡ true → fits_tag (tables_in new) tag v ≡ true
    tag-stays v None h = h
    tag-stays v (Some (LeafTag k)) h = h
    tag-stays v (Some (ReferenceTag b t)) h = h
    tag-stays (Struct name fields) (Some (StructTag own)) h =
        let was = option_map_or (λ d. are_of_types (tables_in old) d.0 d.1 fields) (definition_of (tables_in old) name) false in
        let t = passing (λ d. are_of_types (tables_in old) d.0 d.1 fields) (definition_of (tables_in old) name) (second_so (same_struct own name) was h) in
        let b : BecomesIn name t.0 = becomes name t.0 t.1 in
        and_from (same_struct own name) (option_map_or (λ d. are_of_types (tables_in new) d.0 d.1 fields) (definition_of (tables_in new) name) false) (first_so (same_struct own name) was h)
        (ap (λ (o : Option (Module × List Field)). option_map_or (λ d. are_of_types (tables_in new) d.0 d.1 fields) o false) b.is_new ∙ are-stay fields t.0.0 t.0.1 b.new_one.0 b.new_one.1 b.alike t.2)
    tag-stays _ (Some (StructTag own)) h = h

    are-stay : (vs : Values) (m : Module) (fs : List Field) (n : Module) (gs : List Field) → AreAlike m fs n gs → are_of_types (tables_in old) m fs vs ≡ true
        → are_of_types (tables_in new) n gs vs ≡ true
    are-stay NoMore m [] n [] alike h = refl
    are-stay (More v vs) m (f ∷ fs) n (g ∷ gs) alike h =
        and_from (is_of_type (tables_in new) n g.token v) (are_of_types (tables_in new) n gs vs)
        (type-by-tag (tables_in new) n g.token v ∙ ap (λ (o : Option Tag). fits_tag (tables_in new) o v) (sym alike.0)
        ∙ tag-stays v (token_named m f.token) (sym (type-by-tag (tables_in old) m f.token v) ∙ first_so (is_of_type (tables_in old) m f.token v) (are_of_types (tables_in old) m fs vs) h))
        (are-stay vs m fs n gs alike.1 (second_so (is_of_type (tables_in old) m f.token v) (are_of_types (tables_in old) m fs vs) h))
    are-stay _ _ [] _ (g ∷ gs) alike _ = absurd alike
    are-stay _ _ (f ∷ fs) _ [] alike _ = absurd alike
    are-stay _ m _ n _ alike h = absurd cc

  struct-stays : (own : StructName) (v : Value) → is_of_struct (tables_in old) own v ≡ true → is_of_struct (tables_in new) own v ≡ true
  struct-stays own (Struct name fields) h = tag-stays (Struct name fields) (Some (StructTag own)) h
  struct-stays _ _ h = h

  -- ---- entries

  -- the parts of a fine entry's test
  abbrev struct_part : List Module → Key → Value → Bool
  struct_part modules k v = option_map_or (λ name. is_of_struct modules name v) (name_at modules k.place k.index) false

  abbrev key_part : List Module → Key → Bool
  key_part modules k = option_map_or (λ (a : Abilities). a.key) (abilities_at modules k.place k.index) false

  abbrev front_part : List Module → Key → Value → Bool
  front_part modules k v = address_fits k.address && struct_part modules k v

  -- the struct that a fine entry's value is of
  named-part : (k : Key) (v : Value) → is_fine_entry (tables_in old) (record { key = k; value = v }) ≡ true
      → (name : StructName) × (name_at (tables_in old) k.place k.index ≡ Some name) × (is_of_struct (tables_in old) name v ≡ true)
  named-part k v h =
      passing (λ name. is_of_struct (tables_in old) name v) (name_at (tables_in old) k.place k.index)
      (second_so (address_fits k.address) (struct_part (tables_in old) k v) (first_so (front_part (tables_in old) k v) (key_part (tables_in old) k) h))

  abilities-stay : (place index : ℕ) (name : StructName) → name_at (tables_in old) place index ≡ Some name → abilities_at (tables_in old) place index ≡ abilities_at (tables_in new) place index
  abilities-stay place index name e =
      on_bind (slice_get (tables_in old) place) _ name e (λ m m_at e1.
      on_bind (slice_get m.structs index) _ name e1 (λ d d_at named.
      let n = inherits place m m_at in
      let s : Stayed m d name n.0 index = stayed old new old_store new_store inherits place index m n.0 d name m_at n.1 n.2 d_at named in
      let was : abilities_at (tables_in old) place index ≡ struct_abilities m d = rw (m_at, d_at) refl in
      let is : abilities_at (tables_in new) place index ≡ struct_abilities n.0 s.definition = rw (n.1, s.is_there) refl in
      was ∙ s.abilities ∙ sym is))

  entry-stays : (k : Key) (v : Value) → is_fine_entry (tables_in old) (record { key = k; value = v }) ≡ true → is_fine_entry (tables_in new) (record { key = k; value = v }) ≡ true
  entry-stays k v h =
      let front = first_so (front_part (tables_in old) k v) (key_part (tables_in old) k) h in
      let name = named-part k v h in
      let named : struct_part (tables_in new) k v ≡ true =
      ap (λ (o : Option StructName). option_map_or (λ name. is_of_struct (tables_in new) name v) o false) (name-stays old new old_store new_store inherits k.place k.index name.0 name.1)
      ∙ struct-stays name.0 v name.2 in
      let able : key_part (tables_in new) k ≡ true =
      ap (λ (o : Option Abilities). option_map_or (λ (a : Abilities). a.key) o false) (sym (abilities-stay k.place k.index name.0 name.1))
      ∙ second_so (front_part (tables_in old) k v) (key_part (tables_in old) k) h in
      and_from (front_part (tables_in new) k v) (key_part (tables_in new) k)
      (and_from (address_fits k.address) (struct_part (tables_in new) k v) (first_so (address_fits k.address) (struct_part (tables_in old) k v) front) named) able

  -- what is stored is fine after the bundle too
  pub storage-stays : (es : Storage) → is_fine_storage (tables_in old) es ≡ true → is_fine_storage (tables_in new) es ≡ true
  storage-stays [] h = refl
  storage-stays (e ∷ es) h =
      and_from (is_fine_entry (tables_in new) e) (is_fine_storage (tables_in new) es)
      (entry-stays e.key e.value (first_so (is_fine_entry (tables_in old) e) (is_fine_storage (tables_in old) es) h))
      (storage-stays es (second_so (is_fine_entry (tables_in old) e) (is_fine_storage (tables_in old) es) h))

  words-stay : (e : FlatEntry) → IsFineWords (tables_in old) e → IsFineWords (tables_in new) e
  words-stay e h = (h.0, (h.1.0, entry-stays e.key h.0 h.1.1))

  value-stays : (e : FlatEntry) → IsFineWords (tables_in old) e → value_under (tables_in new) e.key e.words ≡ value_under (tables_in old) e.key e.words
  value-stays e h =
      let name = named-part e.key h.0 h.1.1 in
      let d = defined name.0 h.0 name.2 in
      ap (λ (o : Option StructName). under (tables_in new) o) (name-stays old new old_store new_store inherits e.key.place e.key.index name.0 name.1)
      ∙ ap (λ (o : Option (Value × List ℕ)). unwrap_or (o >>= λ v. Some v.0) (Leaf Boolean 0)) (struct-alike 8 name.0 d.0 d.1 e.words)
      ∙ ap (λ (o : Option StructName). under (tables_in old) o) (sym name.1)
    where
      under : List Module → Option StructName → Value
      under modules o = unwrap_or (o >>= λ name. struct_from 8 modules name e.words >>= λ v. Some v.0) (Leaf Boolean 0)

      defined : (own : StructName) (v : Value) → is_of_struct (tables_in old) own v ≡ true → (d : Module × List Field) × (definition_of (tables_in old) own ≡ Some d)
      defined own (Struct name fields) h =
          let is = option_map_or (λ d. are_of_types (tables_in old) d.0 d.1 fields) (definition_of (tables_in old) name) false in
          let same : own ≡ name = same_struct-is own name (first_so (same_struct own name) is h) in
          let t = passing (λ d. are_of_types (tables_in old) d.0 d.1 fields) (definition_of (tables_in old) name) (second_so (same_struct own name) is h) in
          (t.0, ap (definition_of (tables_in old)) same ∙ t.1)
      defined own _ h = absurd cc

  pub fine-stays : (stored : List FlatEntry) → All (IsFineWords (tables_in old)) stored → All (IsFineWords (tables_in new)) stored
  fine-stays stored fine = All-weaker (IsFineWords (tables_in old)) (IsFineWords (tables_in new)) words-stay stored fine

  pub values-stay : (stored : List FlatEntry) → All (IsFineWords (tables_in old)) stored → storage_of (tables_in new) stored ≡ storage_of (tables_in old) stored
  values-stay [] fine = refl
  values-stay (e ∷ es) fine =
      ap₂ (λ (v : Value) (s : Storage). (record { key = e.key; value = v }) ∷ s) (value-stays e (All-head (IsFineWords (tables_in old)) e es fine))
      (values-stay es (All-tail (IsFineWords (tables_in old)) e es fine))

-- ---- a bundle that was accepted

accepted-inherits : (count : ℕ) (old new : List PublishedModule) (payload : List ℕ) → IsAcceptedBy count old payload new → Inherits (tables_in old) (tables_in new)
accepted-inherits count old new payload accepted =
    let b = accepted (record { published = old; storage = []; tallies = []; runs = 0 }) refl in
    subst (λ (l : List PublishedModule). Inherits (tables_in old) (tables_in l)) (sym b.1.2) (inherited old b.0 b.1.0.published.1.compatible)

pub stored-stays : (count : ℕ) (old new : List PublishedModule) (payload : List ℕ) (stored : List FlatEntry) → IsStore old → IsStore new → IsAcceptedBy count old payload new
    → All (IsFineWords (tables_in old)) stored → storage_of (tables_in new) stored ≡ storage_of (tables_in old) stored
stored-stays count old new payload stored old_store new_store accepted fine = values-stay old new old_store new_store (accepted-inherits count old new payload accepted) stored fine

pub stays-fine : (count : ℕ) (old new : List PublishedModule) (payload : List ℕ) (stored : List FlatEntry) → IsStore old → IsStore new → IsAcceptedBy count old payload new
    → All (IsFineWords (tables_in old)) stored → All (IsFineWords (tables_in new)) stored
stays-fine count old new payload stored old_store new_store accepted = fine-stays old new old_store new_store (accepted-inherits count old new payload accepted) stored
