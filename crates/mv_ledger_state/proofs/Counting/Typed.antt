-- Values of their types are kept, over a store whose abilities hold.
use Rattle.mv_ledger_state.proofs.Common.{[], ◌∙◌, ◌∷◌, ◌≡◌, Bool, List, Some, ap, false, subst, sym, true, same_Some, first_so, second_so, list_all, option_map_or, ◌&&◌, ◌||◌, slice_get, leaf_abilities}
use Rattle.mv_ledger_state.proofs.Common.{Module, name_at, name_of_struct, struct_abilities, struct_name, declared, definition_of, is_struct, module_named, module_place, StructName, same_struct}
use Rattle.mv_ledger_state.proofs.Common.{find_index, same_kind, Field, Abilities, Token, MutableReferenceTo, Plain, ReferenceTo, OfLeaf, OfStruct, AbilitiesHold, field_is_able, implies, struct_is_able}
use Rattle.mv_ledger_state.proofs.Common.{token_abilities, on_bind, address_fits, Storage, abilities_at, are_of_types, is_fine_entry, is_fine_storage, is_of_struct, is_of_type, leaf_fits, abilities_of}
use Rattle.mv_ledger_state.proofs.Common.{Leaf, More, NoMore, Struct, Value, Values, all_at, same_struct-is, kinds_equal, IsAbleStore, Allows, AreKept, IsKept, StorageIsKept}
use Rattle.mv_ledger_state.proofs.Counting.Counts.{declared-abilities}
use Rattle.mv_ledger_state.proofs.Counting.Packs.{HandlesDeclared, each-declared, each-get, implied}
use Rattle.mv_ledger_state.proofs.Counting.Declared.{definition-declared}
use Rattle.mv_bound_rules.proofs.Found.{passing, found_passes}
use Rattle.std.proofs.lemmas.Option.{option_and_then_some}

-- a struct's definition, as far as abilities go
record Defines (modules : List Module) (name : StructName) (m : Module) (fields : List Field) : Type 0 where
  abilities : Abilities
  is_declared : declared modules name ≡ Some abilities
  declares : HandlesDeclared modules m
  able : list_all (field_is_able m abilities) fields ≡ true

module _ (modules : List Module) (store : IsAbleStore modules) where
  definition-defines : (name : StructName) (found : Module × List Field) → definition_of modules name ≡ Some found → Defines modules name found.0 found.1
  definition-defines name found e =
      on_bind (module_named modules name.home) _ found e (λ m m_is e1.
      on_bind (find_index (is_struct m name) m.structs) _ found e1 (λ i i_is e2.
      on_bind (slice_get m.structs i) _ found e2 (λ d d_is e3.
      option_and_then_some (slice_get modules) (module_place modules name.home) m m_is (λ place place_is at.
      let named = passing (λ own. same_struct own name) (name_of_struct m d) (found_passes (is_struct m name) m.structs i d i_is d_is) in
      let name_is : name_of_struct m d ≡ Some name = named.1 ∙ ap (λ (n : StructName). Some n) (same_struct-is named.0 name named.2) in
      let able : struct_is_able m d ≡ true = all_at (struct_is_able m) m.structs i d (each-get AbilitiesHold modules place m store.able at) d_is in
      let had = passing (λ a. list_all (field_is_able m a) d.fields) (struct_abilities m d) able in
      let declares : HandlesDeclared modules m = each-get (HandlesDeclared modules) modules place m (each-declared modules modules store.structs) at in
      let here : Defines modules name m d.fields = record {
        abilities = had.0;
        is_declared = definition-declared modules m d name had.0 declares name_is had.1;
        declares = declares;
        able = had.2;
      } in
      subst (λ (x : Module × List Field). Defines modules name x.0 x.1) (same_Some (m, d.fields) found e3) here))))

  -- whether the fields of a struct value are of its definition's types
  abbrev fields_fit : StructName → Values → Bool
  fields_fit name fields = option_map_or (λ (d : Module × List Field). are_of_types modules d.0 d.1 fields) (definition_of modules name) false

  -- a value of a type has the abilities that its type has
  typed-abilities : (m : Module) (t : Token) (v : Value) (a : Abilities) → HandlesDeclared modules m → is_of_type modules m t v ≡ true → token_abilities m t ≡ Some a → a ≡ abilities_of modules v
  typed-abilities m (Plain (OfLeaf k)) (Leaf j n) a declares h e = sym (same_Some (leaf_abilities k) a e) ∙ sym (ap leaf_abilities (kinds_equal j k (first_so (same_kind j k) (leaf_fits k n) h)))
  typed-abilities m (Plain (OfStruct i)) (Struct name fields) a declares h e =
      let named = passing (λ own. same_struct own name) (struct_name m i) (first_so (option_map_or (λ own. same_struct own name) (struct_name m i) false) (fields_fit name fields) h) in
      on_bind (slice_get m.struct_handles i) _ a e (λ handle handle_is e1.
      let here : declared modules name ≡ Some a = ap (declared modules) (sym (same_struct-is named.0 name named.2)) ∙ declares i handle named.0 handle_is named.1 ∙ e1 in
      sym (declared-abilities modules name fields a here))
  typed-abilities m (ReferenceTo t) (Leaf j n) a declares h e = absurd cc
  typed-abilities m (MutableReferenceTo t) (Leaf j n) a declares h e = absurd cc
  typed-abilities m _ _ a declares h e = absurd cc

  typed-allows : (m : Module) (outer : Abilities) (f : Field) (v : Value) → HandlesDeclared modules m → field_is_able m outer f ≡ true → is_of_type modules m f.token v ≡ true
      → Allows outer (abilities_of modules v)
  typed-allows m outer f v declares able typed =
      let had = passing (λ a. implies outer.copy a.copy && implies outer.drop a.drop && implies (outer.store || outer.key) a.store) (token_abilities m f.token) able in
      let front : (implies outer.copy (had.0).copy && implies outer.drop (had.0).drop) ≡ true = first_so (implies outer.copy (had.0).copy && implies outer.drop (had.0).drop)
      (implies (outer.store || outer.key) (had.0).store) had.2 in
      subst (Allows outer) (typed-abilities m f.token v had.0 declares typed had.1) (record {
        copy = implied outer.copy (had.0).copy (first_so (implies outer.copy (had.0).copy) (implies outer.drop (had.0).drop) front);
        drop = implied outer.drop (had.0).drop (second_so (implies outer.copy (had.0).copy) (implies outer.drop (had.0).drop) front);
      })

  struct-typed : (m : Module) (t : Token) (name : StructName) (fields : Values) → is_of_type modules m t (Struct name fields) ≡ true → fields_fit name fields ≡ true
  struct-typed m (Plain (OfStruct i)) name fields h = second_so (option_map_or (λ own. same_struct own name) (struct_name m i) false) (fields_fit name fields) h
  struct-typed m _ name fields h = absurd cc

  mutual
    typed-kept : (m : Module) (t : Token) (v : Value) → is_of_type modules m t v ≡ true → IsKept modules v
    typed-kept m t (Struct name fields) h =
        let found = passing (λ (d : Module × List Field). are_of_types modules d.0 d.1 fields) (definition_of modules name) (struct-typed m t name fields h) in
        let defines = definition-defines name found.0 found.1 in
        (defines.abilities, defines.is_declared, typed-fields (found.0).0 defines.abilities (found.0).1 fields defines.declares defines.able found.2)
    typed-kept _ _ _ _ = tt

    typed-fields : (m : Module) (outer : Abilities) (fs : List Field) (vs : Values) → HandlesDeclared modules m → list_all (field_is_able m outer) fs ≡ true → are_of_types modules m fs vs ≡ true
        → AreKept modules outer vs
    typed-fields m outer fs NoMore declares able typed = tt
    typed-fields m outer [] (More v vs) declares able typed = absurd cc
    typed-fields m outer (f ∷ fs) (More v vs) declares able typed = (
      typed-allows m outer f v declares (first_so (field_is_able m outer f) (list_all (field_is_able m outer) fs) able)
          (first_so (is_of_type modules m f.token v) (are_of_types modules m fs vs) typed),
      typed-kept m f.token v (first_so (is_of_type modules m f.token v) (are_of_types modules m fs vs) typed),
      typed-fields m outer fs vs declares (second_so (field_is_able m outer f) (list_all (field_is_able m outer) fs) able)
          (second_so (is_of_type modules m f.token v) (are_of_types modules m fs vs) typed),
    )

  of_struct-kept : (own : StructName) (v : Value) → is_of_struct modules own v ≡ true → IsKept modules v
  of_struct-kept own (Struct name fields) h =
      let found = passing (λ (d : Module × List Field). are_of_types modules d.0 d.1 fields) (definition_of modules name) (second_so (same_struct own name) (fields_fit name fields) h) in
      let defines = definition-defines name found.0 found.1 in
      (defines.abilities, defines.is_declared, typed-fields (found.0).0 defines.abilities (found.0).1 fields defines.declares defines.able found.2)
  of_struct-kept _ _ _ = tt

  -- so a storage whose values are of their keys' structs
  pub fine-kept : (es : Storage) → is_fine_storage modules es ≡ true → StorageIsKept modules es
  fine-kept [] h = tt
  fine-kept (e ∷ es) h =
      let here : is_fine_entry modules e ≡ true = first_so (is_fine_entry modules e) (list_all (is_fine_entry modules) es) h in
      let of_struct = option_map_or (λ name. is_of_struct modules name e.value) (name_at modules e.key.place e.key.index) false in
      let has_key = option_map_or (λ (a : Abilities). a.key) (abilities_at modules e.key.place e.key.index) false in
      let typed : of_struct ≡ true = second_so (address_fits e.key.address) of_struct (first_so (address_fits e.key.address && of_struct) has_key here) in
      let named = passing (λ name. is_of_struct modules name e.value) (name_at modules e.key.place e.key.index) typed in
      (of_struct-kept named.0 e.value named.2, fine-kept es (second_so (is_fine_entry modules e) (list_all (is_fine_entry modules) es) h))
