-- A typed storage is read back from its words, which are then typed words.
use Rattle.mv_soundness.proofs.Typing.Common.{◌≡◌, ℕ, List, map, ap, sym, ◌∙◌, subst, ◌+◌, [], ◌∷◌, ◌++◌, refl, ap₂, Option, Some, zero, suc, same_Some, Module, struct_name}
use Rattle.mv_soundness.proofs.Typing.Common.{definition_of, StructName, ◌>>=◌, Tag, LeafTag, StructTag, Field, LeafKind, Token, Plain, OfLeaf, OfStruct, Storage, Value, Values}
use Rattle.mv_soundness.proofs.Typing.Common.{NoMore, More, Leaf, Struct, Ref, on_bind, tokens_named, token_named, AreOf, IsOf, StorageTyped}
use Rattle.mv_move_types.specs.Leaves.{leaves_within, sum_of_fields, leaves_of}
use Rattle.mv_soundness.proofs.{Typing.Operands.on_names, Words.Leaves.Sized}
use Rattle.mv_machine.specs.State.{Entry}
use Rattle.mv_machine.specs.Flat.{flat, storage_of, flat_fields, flat_storage, value_from, fields_from, struct_from, value_under}
use Rattle.mv_soundness.specs.{Typing.HasType.fields_by_name, Typing.StateTyped.EntryTyped, Words.flat_entry, Words.AreTypedWords}
use Rattle.std.proofs.Common.{append_assoc, append-nil}

module _ (modules : List Module) where
  -- a first value and those after it
  joined : (depth : ℕ) (v : Value) (vs : Values) (m : Module) (f : Field) (fs : List Field) (rest : List ℕ)
      → value_from (struct_from depth modules) m f.token (flat v ++ (flat_fields vs ++ rest)) ≡ Some (v, flat_fields vs ++ rest)
      → fields_from (value_from (struct_from depth modules) m) fs (flat_fields vs ++ rest) ≡ Some (vs, rest)
      → fields_from (value_from (struct_from depth modules) m) (f ∷ fs) (flat_fields (More v vs) ++ rest) ≡ Some (More v vs, rest)
  joined depth v vs m f fs rest a b = rw (append_assoc (flat v) (flat_fields vs) rest, a, b) refl

  -- a struct of these fields
  struct_decoded : (depth : ℕ) (own : StructName) (fields : Values) (name : StructName) (rest : List ℕ) (d : Module × List Field)
      → definition_of modules name ≡ Some d → own ≡ name
      → fields_from (value_from (struct_from depth modules) d.0) d.1 (flat_fields fields ++ rest) ≡ Some (fields, rest)
      → struct_from (suc depth) modules name (flat_fields fields ++ rest) ≡ Some (Struct own fields, rest)
  struct_decoded depth own fields name rest d d_is same inner = rw (d_is, inner, same) refl

  mutual
    unfolding fields_by_name

    -- a field's value is the one that its leaves begin with
    value_decoded : (depth : ℕ) (v : Value) (m : Module) (t : Token) (tag : Tag) (n : ℕ) (rest : List ℕ) → token_named m t ≡ Some tag
        → IsOf (fields_by_name modules) v tag → leaves_of (leaves_within depth modules) m t ≡ Some n
        → value_from (struct_from depth modules) m t (flat v ++ rest) ≡ Some (v, rest)
    value_decoded depth (Ref r) m (Plain t) tag n rest e h l = absurd h
    value_decoded depth (Leaf j i) m (Plain (OfLeaf k)) tag n rest e h l =
        let typed : IsOf (fields_by_name modules) (Leaf j i) (LeafTag k) = subst (IsOf (fields_by_name modules) (Leaf j i)) (sym (same_Some (LeafTag k) tag e)) h in
        ap (λ (x : LeafKind). Some (Leaf x i, rest)) (sym typed.0)
    value_decoded depth (Struct own fields) m (Plain (OfLeaf k)) tag n rest e h l =
        absurd (subst (IsOf (fields_by_name modules) (Struct own fields)) (sym (same_Some (LeafTag k) tag e)) h)
    value_decoded depth (Leaf j i) m (Plain (OfStruct s)) tag n rest e h l =
        on_bind (struct_name m s) (λ name. Some (StructTag name)) tag e (λ name name_is e1.
        absurd (subst (IsOf (fields_by_name modules) (Leaf j i)) (sym (same_Some (StructTag name) tag e1)) h))
    value_decoded zero (Struct own fields) m (Plain (OfStruct s)) tag n rest e h l =
        on_bind (struct_name m s) (leaves_within zero modules) n l (λ name name_is l1. absurd cc)
    value_decoded (suc depth) (Struct own fields) m (Plain (OfStruct s)) tag n rest e h l =
        on_bind (struct_name m s) (λ name. Some (StructTag name)) tag e (λ name name_is e1.
        let typed : IsOf (fields_by_name modules) (Struct own fields) (StructTag name) = subst (IsOf (fields_by_name modules) (Struct own fields)) (sym (same_Some (StructTag name) tag e1)) h in
        let leaves : leaves_within (suc depth) modules name ≡ Some n = subst (λ (x : Option StructName). (x >>= leaves_within (suc depth) modules) ≡ Some n) name_is l in
        on_bind (definition_of modules name) (λ d. sum_of_fields (leaves_of (leaves_within depth modules) d.0) d.1) n leaves (λ d d_is l1.
        let found : definition_of modules own ≡ Some d = subst (λ (x : StructName). definition_of modules x ≡ Some d) (sym typed.0) d_is in
        let named : tokens_named d.0 (map (λ f. f.token) d.1) ≡ Some typed.1 =
        subst (λ (x : Option (Module × List Field)). (x >>= λ d. tokens_named d.0 (map (λ f. f.token) d.1)) ≡ Some typed.1) found typed.2 in
        rw name_is (struct_decoded depth own fields name rest d d_is typed.0 (fields_decoded depth fields d.0 d.1 typed.1 n rest typed.3 named l1))))
    value_decoded depth v m t tag n rest e h l = absurd cc

    -- so are the values of fields
    fields_decoded : (depth : ℕ) (vs : Values) (m : Module) (fs : List Field) (ts : List Tag) (n : ℕ) (rest : List ℕ)
        → AreOf (fields_by_name modules) vs ts → tokens_named m (map (λ f. f.token) fs) ≡ Some ts
        → sum_of_fields (leaves_of (leaves_within depth modules) m) fs ≡ Some n
        → fields_from (value_from (struct_from depth modules) m) fs (flat_fields vs ++ rest) ≡ Some (vs, rest)
    fields_decoded depth NoMore m [] ts n rest h e l = refl
    fields_decoded depth NoMore m (f ∷ fs) [] n rest h e l =
        on_bind (token_named m f.token) _ [] e (λ tag tag_is e1. on_bind (tokens_named m (map (λ f. f.token) fs)) (λ tags. Some (tag ∷ tags)) [] e1 (λ tags tags_is e2. absurd cc))
    fields_decoded depth (More v vs) m [] (t ∷ ts) n rest h e l = absurd cc
    fields_decoded depth (More v vs) m (f ∷ fs) (t ∷ ts) n rest h e l =
        on_names m f.token (map (λ f. f.token) fs) (t ∷ ts) e (λ tag tags tag_is tags_is both.
        on_bind (leaves_of (leaves_within depth modules) m f.token) _ n l (λ i i_is l1.
        on_bind (sum_of_fields (leaves_of (leaves_within depth modules) m) fs) (λ rest. Some (i + rest)) n l1 (λ j j_is l2.
        let first : tag ≡ t = cc in
        let others : tags ≡ ts = cc in
        let named : token_named m f.token ≡ Some t = tag_is ∙ ap (λ (x : Tag). Some x) first in
        let a = value_decoded depth v m f.token t i (flat_fields vs ++ rest) named h.0 i_is in
        let b = fields_decoded depth vs m fs ts j rest h.1 (tags_is ∙ ap (λ (x : List Tag). Some x) others) j_is in
        joined depth v vs m f fs rest a b)))
    fields_decoded depth vs m fs ts n rest h e l = absurd h

module _ (modules : List Module) (sized : Sized modules) where
  -- a stored value is the one that is read under its key
  entry_decoded : (e : Entry) → EntryTyped modules e → value_under modules e.key (flat e.value) ≡ e.value
  unfolding fields_by_name
  entry_decoded e typed = read e.value typed.typed
    where
      read : (v : Value) → IsOf (fields_by_name modules) v (StructTag typed.name) → value_under modules e.key (flat v) ≡ v
      read (Struct own fields) h =
          on_bind (definition_of modules own) _ h.1 h.2 (λ d d_is e1.
          let found : definition_of modules typed.name ≡ Some d = subst (λ (x : StructName). definition_of modules x ≡ Some d) h.0 d_is in
          let size = sized typed.name d found in
          on_bind (definition_of modules typed.name) (λ d. sum_of_fields (leaves_of (leaves_within 7 modules) d.0) d.1) size.0 size.1 (λ c c_is leaves.
          let same : d ≡ c = same_Some d c (sym found ∙ c_is) in
          let named : tokens_named c.0 (map (λ f. f.token) c.1) ≡ Some h.1 = subst (λ (x : Module × List Field). tokens_named x.0 (map (λ f. f.token) x.1) ≡ Some h.1) same e1 in
          let inner = fields_decoded modules 7 fields c.0 c.1 h.1 size.0 [] h.3 named leaves in
          let whole : struct_from 8 modules typed.name (flat_fields fields ++ []) ≡ Some (Struct own fields, []) = struct_decoded modules 7 own fields typed.name [] c c_is h.0 inner in
          rw (typed.is_named, ← append-nil (flat_fields fields), whole) refl))
      read v h = absurd h

  -- so is each
  pub storage_decoded : (es : Storage) → StorageTyped modules es → storage_of modules (map flat_entry es) ≡ es
  storage_decoded [] h = refl
  storage_decoded (e ∷ es) h = ap₂ (λ (v : Value) (rest : Storage). record { key = e.key; value = v } ∷ rest) (entry_decoded e h.0) (storage_decoded es h.1)

  -- the words of a typed storage are those of the storage that is read from them
  pub typed_words : (storage : Storage) → StorageTyped modules storage → AreTypedWords modules (map flat_entry storage)
  typed_words storage typed =
      let back : storage ≡ storage_of modules (map flat_entry storage) = sym (storage_decoded storage typed) in
      record { typed = subst (StorageTyped modules) back typed; whole = ap flat_storage (sym back) }
