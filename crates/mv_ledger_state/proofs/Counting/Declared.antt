-- Structs that are declared: the definitions behind them, which stay when a bundle is published, and those that are not.
use Rattle.mv_ledger_state.proofs.Common.{[], ◌∙◌, ◌∷◌, ◌≡◌, List, None, Some, ap, arith, cond, option_map, refl, sym, true, ℕ, option_and_then, slice_get, Module, StructDefinition, name_of_struct}
use Rattle.mv_ledger_state.proofs.Common.{struct_abilities, declared, declared_in, is_struct, module_named, module_place, StructName, same_struct, find_index, PublishedModule, StructHandle, Abilities}
use Rattle.mv_ledger_state.proofs.Common.{on_bind, map-is, count, count_in, count_in_fields, Storage, More, NoMore, Struct, Value, Values, then_found, same_struct-is, IsStore, tables_in}
use Rattle.mv_ledger_state.proofs.Common.{AreKept, IsKept, StorageIsKept}
use Rattle.mv_ledger_state.proofs.Bundles.Heirs.{Inherits, Stayed, stayed}
use Rattle.mv_ledger_state.proofs.Counting.Packs.{HandlesDeclared, each-declared, each-get}
use Rattle.mv_bound_rules.proofs.Found.{passing, found_passes}
use Rattle.std.proofs.lemmas.Option.{option_and_then_some}

-- the module and the definition that declare a struct
pub record DeclaredBy (modules : List Module) (name : StructName) (a : Abilities) : Type 0 where
  pub place : ℕ
  pub home : Module
  pub index : ℕ
  pub definition : StructDefinition
  pub home_is : slice_get modules place ≡ Some home
  pub definition_is : slice_get home.structs index ≡ Some definition
  pub name_is : name_of_struct home definition ≡ Some name
  pub abilities_are : struct_abilities home definition ≡ Some a

pub declared-by : (modules : List Module) (name : StructName) (a : Abilities) → declared modules name ≡ Some a → DeclaredBy modules name a
declared-by modules name a e =
    option_and_then_some (declared_in name) (module_named modules name.home) a e (λ m m_is e1.
    option_and_then_some (slice_get modules) (module_place modules name.home) m m_is (λ place place_is at.
    option_and_then_some (λ i. option_and_then (λ (d : StructDefinition). option_map (λ (h : StructHandle). h.abilities) (slice_get m.struct_handles d.handle)) (slice_get m.structs i))
    (find_index (is_struct m name) m.structs) a e1 (λ i i_is e2.
    option_and_then_some (λ (d : StructDefinition). option_map (λ (h : StructHandle). h.abilities) (slice_get m.struct_handles d.handle)) (slice_get m.structs i) a e2 (λ d d_is e3.
    let handle = map-is (λ (h : StructHandle). h.abilities) (slice_get m.struct_handles d.handle) a e3 in
    let named = passing (λ own. same_struct own name) (name_of_struct m d) (found_passes (is_struct m name) m.structs i d i_is d_is) in
    record {
      place = place;
      home = m;
      index = i;
      definition = d;
      home_is = at;
      definition_is = d_is;
      name_is = named.1 ∙ ap (λ (n : StructName). Some n) (same_struct-is named.0 name named.2);
      abilities_are = then_found (slice_get m.struct_handles d.handle) _ handle.0 (Some a) handle.1 (ap (λ (b : Abilities). Some b) handle.2);
    }))))

-- a struct definition with its abilities
pub definition-declared : (modules : List Module) (m : Module) (d : StructDefinition) (name : StructName) (a : Abilities) → HandlesDeclared modules m → name_of_struct m d ≡ Some name
    → struct_abilities m d ≡ Some a → declared modules name ≡ Some a
definition-declared modules m d name a declares name_is a_is =
    on_bind (slice_get m.struct_handles d.handle) _ a a_is (λ handle handle_is e. declares d.handle handle name handle_is name_is ∙ e)

-- what was declared is declared so
abbrev pub Remembers : List Module → List Module → Type 0
Remembers old new = (name : StructName) (a : Abilities) → declared old name ≡ Some a → declared new name ≡ Some a

pub declared-stays : (old new : List PublishedModule) → IsStore old → IsStore new → Inherits (tables_in old) (tables_in new) → Remembers (tables_in old) (tables_in new)
declared-stays old new old_store new_store inherits name a e =
    let by = declared-by (tables_in old) name a e in
    let n = inherits by.place by.home by.home_is in
    let s : Stayed by.home by.definition name n.0 by.index = stayed old new old_store new_store inherits by.place by.index by.home n.0 by.definition name by.home_is n.1 n.2 by.definition_is
    by.name_is in
    let declares : HandlesDeclared (tables_in new) n.0 = each-get (HandlesDeclared (tables_in new)) (tables_in new) by.place n.0 (each-declared (tables_in new) (tables_in new) new_store.links.structs)
    n.1 in
    definition-declared (tables_in new) n.0 s.definition name a declares s.is_named (sym s.abilities ∙ by.abilities_are)

-- ---- a struct that is not declared has no values

unlike : (modules : List Module) (name own : StructName) (a : Abilities) → declared modules name ≡ None → declared modules own ≡ Some a → ◌≡◌ {A = ℕ} (cond (same_struct own name) 1 0) 0
unlike modules name own a none some =
    let apart : same_struct own name ≡ true → ⊥ = λ e. let clash : Some a ≡ None = sym some ∙ (ap (declared modules) (same_struct-is own name e) ∙ none) in cc in
    grind (arith, apart)

mutual
  unknown-none : (modules : List Module) (name : StructName) → declared modules name ≡ None → (v : Value) → IsKept modules v → count_in name v ≡ 0
  unknown-none modules name none (Struct own fields) kept =
      let first : ◌≡◌ {A = ℕ} (cond (same_struct own name) 1 0) 0 = unlike modules name own kept.0 none kept.1 in
      omega (arith, first, unknown-fields modules name none kept.0 fields kept.2)
  unknown-none _ _ _ _ _ = refl

  unknown-fields : (modules : List Module) (name : StructName) → declared modules name ≡ None → (outer : Abilities) (fields : Values) → AreKept modules outer fields → count_in_fields name fields ≡ 0
  unknown-fields modules name none outer NoMore kept = refl
  unknown-fields modules name none outer (More v vs) kept = omega (arith, unknown-none modules name none v kept.1, unknown-fields modules name none outer vs kept.2)

pub unknown-stored : (modules : List Module) (name : StructName) → declared modules name ≡ None → (es : Storage) → StorageIsKept modules es → count es name ≡ 0
unknown-stored modules name none [] kept = refl
unknown-stored modules name none (e ∷ es) kept = omega (arith, unknown-none modules name none e.value kept.0, unknown-stored modules name none es kept.1)
