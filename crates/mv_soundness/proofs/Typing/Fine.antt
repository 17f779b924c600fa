-- A storage that the ledger calls fine is typed, and a typed one is fine.
use Rattle.mv_soundness.proofs.Typing.Common.{◌≡◌, ℕ, true, List, [], ◌∷◌, refl, ap, subst, ◌∙◌, Option, Some, false, sym, map, and_from, same_Some, option_and_then_some, first_so}
use Rattle.mv_soundness.proofs.Typing.Common.{second_so, list_all, option_map_or, IsTrue, ◌&&◌, slice_get, Module, struct_name, StructDefinition, name_at, module_place, module_named}
use Rattle.mv_soundness.proofs.Typing.Common.{definition_of, StructName, Tag, LeafTag, StructTag, same_kind, Field, Abilities, LeafKind, Signer, Token, Plain, ReferenceTo}
use Rattle.mv_soundness.proofs.Typing.Common.{MutableReferenceTo, OfLeaf, OfStruct, Storage, Entry, abilities_at, Value, Leaf, Struct, Ref, Values, NoMore, More, below, struct_in}
use Rattle.mv_soundness.proofs.Typing.Common.{field_in, on_bind, address_fits, all_at, then_found, same_struct-same, token_named, tokens_named, StoreAccepted, ModuleAccepted, in_range}
use Rattle.mv_soundness.proofs.Typing.Common.{IsOf, AreOf, EntryTyped, StorageTyped, may_be_field}
use Rattle.mv_soundness.proofs.{Typing.Operands.on_names, Typing.Tests.same_kind-same, Typing.Names.tokens_there, Typing.OwnDefinitions.field_tokens}
use Rattle.mv_soundness.proofs.{Typing.Callees.on_found}
use Rattle.mv_move_types.specs.{Options.find_index, Names.same_struct, Named.is_struct}
use Rattle.mv_machine.specs.Typed.{leaf_fits, is_of_type, are_of_types, is_of_struct, is_fine_entry, is_fine_storage}
use Rattle.mv_bound_rules.proofs.NameLemmas.{same_struct-is}
use Rattle.mv_soundness.specs.Typing.HasType.{fields_by_name}
use Rattle.mv_bound_rules.proofs.Tokens.{kinds_equal}

-- what the phases say of a struct's definition: its fields' types have names, and none is a reference or a signer
pub record Defined (modules : List Module) (m : Module) (fields : List Field) : Type 0 where
  pub tags : List Tag
  pub are_tags : tokens_named m (map (λ (f : Field). f.token) fields) ≡ Some tags
  pub may_be : list_all (λ (f : Field). may_be_field f.token) fields ≡ true

pub definition_defined : (modules : List Module) → StoreAccepted modules → (name : StructName) (d : Module × List Field) → definition_of modules name ≡ Some d → Defined modules d.0 d.1
definition_defined modules store name d e =
    on_bind (module_named modules name.home) _ d e (λ m m_is e1.
    option_and_then_some (slice_get modules) (module_place modules name.home) m m_is (λ place place_is m_at.
    on_bind (find_index (is_struct m name) m.structs) _ d e1 (λ i i_is e2.
    on_bind (slice_get m.structs i) _ d e2 (λ s s_at e3.
    let a : ModuleAccepted m = store.each place m m_at in
    let fine = all_at (struct_in m) m.structs i s a.bounds.structs s_at in
    let tags = tokens_there m a.bounds (map (λ (f : Field). f.token) s.fields) (field_tokens m s.fields (second_so (below s.handle m.struct_handles) (list_all (field_in m) s.fields) fine)) in
    let here : Defined modules m s.fields = record {
      tags = tags.0;
      are_tags = tags.1;
      may_be = all_at (λ (d : StructDefinition). list_all (λ f. may_be_field f.token) d.fields) m.structs i s a.signed.fields s_at;
    } in
    subst (λ (x : Module × List Field). Defined modules x.0 x.1) (same_Some (m, s.fields) d e3) here))))

pub leaf_ranges : (k : LeafKind) (n : ℕ) → leaf_fits k n ≡ true → IsTrue (in_range k n)
leaf_ranges Signer n h = absurd cc
leaf_ranges k n h = h

module _ (modules : List Module) (store : StoreAccepted modules) where
  -- the table's entry of a defined struct
  by_name : (name : StructName) (d : Module × List Field) → definition_of modules name ≡ Some d → (tags : List Tag)
      → tokens_named d.0 (map (λ (f : Field). f.token) d.1) ≡ Some tags → fields_by_name modules name ≡ Some tags
  unfolding fields_by_name
  by_name name d e tags named = then_found (definition_of modules name) _ d (Some tags) e named

  found_definition : (name : StructName) (fields : Values) → option_map_or (λ (d : Module × List Field). are_of_types modules d.0 d.1 fields) (definition_of modules name) false ≡ true →
      (d : Module × List Field) × (x : Defined modules d.0 d.1) × (definition_of modules name ≡ Some d) × (are_of_types modules d.0 d.1 fields ≡ true)
  found_definition name fields h =
      on_found (λ (d : Module × List Field). are_of_types modules d.0 d.1 fields) (definition_of modules name) h (λ d d_is typed.
      (d, definition_defined modules store name d d_is, d_is, typed))

  mutual
    of_type : (m : Module) (t : Token) (v : Value) (tag : Tag) → is_of_type modules m t v ≡ true → token_named m t ≡ Some tag → IsOf (fields_by_name modules) v tag
    of_type m (Plain (OfLeaf k)) (Leaf j n) tag h e =
        subst (λ (x : Tag). IsOf (fields_by_name modules) (Leaf j n) x) (same_Some (LeafTag k) tag e)
        (kinds_equal j k (first_so (same_kind j k) (leaf_fits k n) h), subst (λ (x : LeafKind). IsTrue (in_range x n)) (sym (kinds_equal j k (first_so (same_kind j k) (leaf_fits k n) h))) (leaf_ranges k n (second_so (same_kind j k) (leaf_fits k n) h)))
    of_type m (Plain (OfStruct i)) (Struct name fields) tag h e =
        let same : option_map_or (λ own. same_struct own name) (struct_name m i) false ≡ true =
        first_so (option_map_or (λ own. same_struct own name) (struct_name m i) false)
        (option_map_or (λ (d : Module × List Field). are_of_types modules d.0 d.1 fields) (definition_of modules name) false) h in
        let typed : option_map_or (λ (d : Module × List Field). are_of_types modules d.0 d.1 fields) (definition_of modules name) false ≡ true =
        second_so (option_map_or (λ own. same_struct own name) (struct_name m i) false)
        (option_map_or (λ (d : Module × List Field). are_of_types modules d.0 d.1 fields) (definition_of modules name) false) h in
        let parts = found_definition name fields typed in
        let all : AreOf (fields_by_name modules) fields parts.1.tags = of_types parts.0.0 parts.0.1 fields parts.1.tags parts.3 parts.1.are_tags in
        on_found (λ own. same_struct own name) (struct_name m i) same (λ own own_is is_name.
        on_bind (struct_name m i) (λ n. Some (StructTag n)) tag e (λ n n_is e1.
        let tag_is : StructTag name ≡ tag = ap StructTag (sym (same_struct-is own name is_name) ∙ same_Some own n (sym own_is ∙ n_is)) ∙ same_Some (StructTag n) tag e1 in
        subst (λ (x : Tag). IsOf (fields_by_name modules) (Struct name fields) x) tag_is (refl, parts.1.tags, by_name name parts.0 parts.2 parts.1.tags parts.1.are_tags, all)))
    of_type m (ReferenceTo t) (Ref r) tag h e = absurd cc
    of_type m (MutableReferenceTo t) (Ref r) tag h e = absurd cc
    of_type m t v tag h e = absurd cc

    of_types : (m : Module) (fs : List Field) (vs : Values) (tags : List Tag) → are_of_types modules m fs vs ≡ true
        → tokens_named m (map (λ (f : Field). f.token) fs) ≡ Some tags → AreOf (fields_by_name modules) vs tags
    of_types m [] NoMore tags h e = subst (AreOf (fields_by_name modules) NoMore) (same_Some [] tags e) tt
    of_types m (f ∷ fs) (More v vs) tags h e =
        on_names m f.token (map (λ (f : Field). f.token) fs) tags e (λ tag rest tag_is rest_is whole.
        subst (AreOf (fields_by_name modules) (More v vs)) whole (
          of_type m f.token v tag (first_so (is_of_type modules m f.token v) (are_of_types modules m fs vs) h) tag_is,
          of_types m fs vs rest (second_so (is_of_type modules m f.token v) (are_of_types modules m fs vs) h) rest_is,
        ))
    of_types m fs vs tags h e = absurd cc

  fine_entry : (e : Entry) → is_fine_entry modules e ≡ true → EntryTyped modules e
  fine_entry e h =
      let of_struct = option_map_or (λ name. is_of_struct modules name e.value) (name_at modules e.key.place e.key.index) false in
      let has_key = option_map_or (λ (a : Abilities). a.key) (abilities_at modules e.key.place e.key.index) false in
      let front : (address_fits e.key.address && of_struct) ≡ true = first_so (address_fits e.key.address && of_struct) has_key h in
      on_found (λ name. is_of_struct modules name e.value) (name_at modules e.key.place e.key.index) (second_so (address_fits e.key.address) of_struct front) (λ name name_is typed. record {
        name = name;
        fits = first_so (address_fits e.key.address) of_struct front;
        is_named = name_is;
        has_key = second_so (address_fits e.key.address && of_struct) has_key h;
        typed = of_own name e.value typed;
      })
    where
      of_own : (name : StructName) (v : Value) → is_of_struct modules name v ≡ true → IsOf (fields_by_name modules) v (StructTag name)
      of_own name (Struct own fields) h =
          let parts = found_definition own fields (second_so (same_struct name own)
          (option_map_or (λ (d : Module × List Field). are_of_types modules d.0 d.1 fields) (definition_of modules own) false) h) in (
            sym (same_struct-is name own (first_so (same_struct name own) (option_map_or (λ (d : Module × List Field). are_of_types modules d.0 d.1 fields) (definition_of modules own) false) h)),
            parts.1.tags,
            by_name own parts.0 parts.2 parts.1.tags parts.1.are_tags,
            of_types parts.0.0 parts.0.1 fields parts.1.tags parts.3 parts.1.are_tags,
          )
      of_own name v h = absurd cc

  -- a storage that the ledger calls fine is typed
  pub fine_storage : (es : Storage) → IsTrue (is_fine_storage modules es) → StorageTyped modules es
  fine_storage [] h = tt
  fine_storage (e ∷ es) h =
      (fine_entry e (first_so (is_fine_entry modules e) (list_all (is_fine_entry modules) es) h), fine_storage es (second_so (is_fine_entry modules e) (list_all (is_fine_entry modules) es) h))

  -- ---- and back

  defined_by_name : (name : StructName) (tags : List Tag) → fields_by_name modules name ≡ Some tags
      → (d : Module × List Field) × (definition_of modules name ≡ Some d) × (tokens_named d.0 (map (λ (f : Field). f.token) d.1) ≡ Some tags)
  unfolding fields_by_name
  defined_by_name name tags e = on_bind (definition_of modules name) _ tags e (λ d d_is e1. (d, d_is, e1))

  leaf_fits_back : (k : LeafKind) (n : ℕ) → may_be_field (Plain (OfLeaf k)) ≡ true → IsTrue (in_range k n) → leaf_fits k n ≡ true
  leaf_fits_back Signer n m h = absurd cc
  leaf_fits_back k n m h = h

  -- a struct's fields are tested by its definition
  tested_by : (name : StructName) (fields : Values) (d : Module × List Field) → definition_of modules name ≡ Some d → are_of_types modules d.0 d.1 fields ≡ true →
      option_map_or (λ (d : Module × List Field). are_of_types modules d.0 d.1 fields) (definition_of modules name) false ≡ true
  tested_by name fields d e h = subst (λ (x : Option (Module × List Field)). option_map_or (λ (d : Module × List Field). are_of_types modules d.0 d.1 fields) x false ≡ true) (sym e) h

  mutual
    to_type : (m : Module) (t : Token) (v : Value) (tag : Tag) → may_be_field t ≡ true → token_named m t ≡ Some tag → IsOf (fields_by_name modules) v tag → is_of_type modules m t v ≡ true
    to_type m (Plain (OfLeaf k)) (Leaf j n) tag b e h =
        let is : IsOf (fields_by_name modules) (Leaf j n) (LeafTag k) = subst (λ (x : Tag). IsOf (fields_by_name modules) (Leaf j n) x) (sym (same_Some (LeafTag k) tag e)) h in
        and_from (same_kind j k) (leaf_fits k n) (subst (λ (x : LeafKind). same_kind x k ≡ true) (sym is.0) (same_kind-same k))
        (leaf_fits_back k n b (subst (λ (x : LeafKind). IsTrue (in_range x n)) is.0 is.1))
    to_type m (Plain (OfStruct i)) (Struct name fields) tag b e h =
        on_bind (struct_name m i) (λ n. Some (StructTag n)) tag e (λ own own_is e1.
        let is : IsOf (fields_by_name modules) (Struct name fields) (StructTag own) =
        subst (λ (x : Tag). IsOf (fields_by_name modules) (Struct name fields) x) (sym (same_Some (StructTag own) tag e1)) h in
        let d = defined_by_name name is.1 is.2 in
        let all : are_of_types modules d.0.0 d.0.1 fields ≡ true = to_types d.0.0 d.0.1 fields is.1 (definition_defined modules store name d.0 d.1).may_be d.2 is.3 in
        and_from _ _ (subst (λ (x : Option StructName). option_map_or (λ own. same_struct own name) x false ≡ true)
        (sym own_is) (subst (λ (x : StructName). same_struct own x ≡ true) (sym is.0) (same_struct-same own)))
        (tested_by name fields d.0 d.1 all))
    to_type m (Plain (OfLeaf k)) (Struct name fields) tag b e h = absurd (subst (λ (x : Tag). IsOf (fields_by_name modules) (Struct name fields) x) (sym (same_Some (LeafTag k) tag e)) h)
    to_type m (Plain t) (Ref r) tag b e h = absurd h
    to_type m (Plain (OfStruct i)) (Leaf j n) tag b e h =
        on_bind (struct_name m i) (λ n. Some (StructTag n)) tag e (λ own own_is e1.
        absurd (subst (λ (x : Tag). IsOf (fields_by_name modules) (Leaf j n) x) (sym (same_Some (StructTag own) tag e1)) h))
    to_type m t v tag b e h = absurd cc

    to_types : (m : Module) (fs : List Field) (vs : Values) (tags : List Tag) → list_all (λ (f : Field). may_be_field f.token) fs ≡ true
        → tokens_named m (map (λ (f : Field). f.token) fs) ≡ Some tags → AreOf (fields_by_name modules) vs tags → are_of_types modules m fs vs ≡ true
    to_types m [] NoMore tags b e h = refl
    to_types m [] (More v vs) tags b e h = absurd (subst (AreOf (fields_by_name modules) (More v vs)) (sym (same_Some [] tags e)) h)
    to_types m (f ∷ fs) NoMore tags b e h =
        on_names m f.token (map (λ (f : Field). f.token) fs) tags e (λ tag rest tag_is rest_is whole.
        absurd (subst (AreOf (fields_by_name modules) NoMore) (sym whole) h))
    to_types m (f ∷ fs) (More v vs) tags b e h =
        on_names m f.token (map (λ (f : Field). f.token) fs) tags e (λ tag rest tag_is rest_is whole.
        let here : AreOf (fields_by_name modules) (More v vs) (tag ∷ rest) = subst (AreOf (fields_by_name modules) (More v vs)) (sym whole) h in
        and_from (is_of_type modules m f.token v) (are_of_types modules m fs vs)
        (to_type m f.token v tag (first_so (may_be_field f.token) (list_all (λ (f : Field). may_be_field f.token) fs) b) tag_is here.0)
        (to_types m fs vs rest (second_so (may_be_field f.token) (list_all (λ (f : Field). may_be_field f.token) fs) b) rest_is here.1))

  typed_entry : (e : Entry) → EntryTyped modules e → is_fine_entry modules e ≡ true
  typed_entry e t =
      and_from _ _ (and_from _ _ t.fits (subst (λ (x : Option StructName). option_map_or (λ name. is_of_struct modules name e.value) x false ≡ true)
      (sym t.is_named) (is_own t.name e.value t.typed))) t.has_key
    where
      is_own : (name : StructName) (v : Value) → IsOf (fields_by_name modules) v (StructTag name) → is_of_struct modules name v ≡ true
      is_own name (Struct own fields) h =
          let d = defined_by_name own h.1 h.2 in
          and_from _ _ (subst (λ (x : StructName). same_struct name x ≡ true) (sym h.0) (same_struct-same name))
          (tested_by own fields d.0 d.1 (to_types d.0.0 d.0.1 fields h.1 (definition_defined modules store own d.0 d.1).may_be d.2 h.3))
      is_own name v h = absurd h

  -- a typed storage is one that the ledger calls fine
  pub typed_is_fine : (es : Storage) → StorageTyped modules es → IsTrue (is_fine_storage modules es)
  typed_is_fine [] h = refl
  typed_is_fine (e ∷ es) h = and_from _ _ (typed_entry e h.0) (typed_is_fine es h.1)
