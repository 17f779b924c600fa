-- A struct value that is packed is kept, and declared as its own definition says.
use Rattle.mv_ledger_state.proofs.Common.{[], ◌+◌, ◌∙◌, ◌∷◌, ◌≡◌, Bool, List, Ok, Option, Some, ap, arith, false, refl, subst, suc, sym, true, zero, ℕ, same_Some, first_so, second_so, AllByRecursion}
use Rattle.mv_ledger_state.proofs.Common.{list_all, option_map_or, ◌&&◌, ◌||◌, option_and_then, slice_get, unwrap_or, leaf_abilities, no_abilities, reference_abilities, same_abilities, Module, own_name}
use Rattle.mv_ledger_state.proofs.Common.{struct_abilities, struct_name, declared, StructName, same_module, ◌>>=◌, for_each, LeafTag, ReferenceTag, StructTag, Tag, same_tag, Field, StructHandle}
use Rattle.mv_ledger_state.proofs.Common.{Abilities, Token, MutableReferenceTo, Plain, ReferenceTo, ValueType, OfLeaf, OfStruct, AbilitiesHold, field_is_able, implies, struct_is_able, token_abilities}
use Rattle.mv_ledger_state.proofs.Common.{value_type_abilities, WhereOk, map-is, on_some, on_need, on_ok, State, place_value, Here, OwnStruct, abilities_of, has_tag, have_tags, plain_tag, tag_named}
use Rattle.mv_ledger_state.proofs.Common.{tag_of, value_type_tag, Leaf, Ref, Struct, Value, fields_of, all_at, same_abilities-is, same_tag-is, struct_is_there, structs_are_there, on_found, IsAbleStore}
use Rattle.mv_ledger_state.proofs.Common.{Allows, AreKept, IsKept, StackIsKept}
use Rattle.mv_machine.specs.StepStructs.{own_struct}
use Rattle.mv_bound_rules.proofs.Found.{passing}
use Rattle.mv_linker.proofs.Joining.Resolving.{structs_there_at}

-- ---- the abilities that a tag stands for

-- the abilities of values of this tag
abbrev pub tag_abilities : List Module → Tag → Abilities
tag_abilities modules (LeafTag kind) = leaf_abilities kind
tag_abilities modules (StructTag name) = unwrap_or (declared modules name) no_abilities
tag_abilities modules (ReferenceTag m to) = reference_abilities

-- a value has the abilities of its tag
pub tag_of-abilities : (modules : List Module) (s : State) (v : Value) (tag : Tag) → tag_of s v ≡ Some tag → abilities_of modules v ≡ tag_abilities modules tag
tag_of-abilities modules s (Leaf kind n) tag e = ap (tag_abilities modules) (same_Some (LeafTag kind) tag e)
tag_of-abilities modules s (Struct name fields) tag e = ap (tag_abilities modules) (same_Some (StructTag name) tag e)
tag_of-abilities modules s (Ref r) tag e =
    let found = map-is (ReferenceTag r.is_mutable) (option_and_then plain_tag (place_value s r.place)) tag e in
    ap (tag_abilities modules) found.2

pub has_tag-abilities : (modules : List Module) (s : State) (v : Value) (tag : Tag) → has_tag s v tag ≡ true → abilities_of modules v ≡ tag_abilities modules tag
has_tag-abilities modules s v tag e = on_found (λ own. same_tag own tag) (tag_of s v) e (λ own is same.
    tag_of-abilities modules s v own is ∙ ap (tag_abilities modules) (same_tag-is own tag same))

-- a type's tag stands for the abilities that the type has by its handle
value_type_tag-abilities : (modules : List Module) (m : Module) (t : ValueType) (tag : Tag) (a : Abilities) → value_type_tag modules m t ≡ Ok tag → value_type_abilities m t ≡ Some a →
    a ≡ tag_abilities modules tag
value_type_tag-abilities modules m (OfLeaf kind) tag a e g = sym (same_Some (leaf_abilities kind) a g) ∙ subst (WhereOk (λ x. leaf_abilities kind ≡ tag_abilities modules x)) e refl
value_type_tag-abilities modules m (OfStruct i) tag a e g =
    on_some (slice_get m.struct_handles i) _ _ tag e (λ handle handle_is e1.
    on_some (struct_name m i) _ _ tag e1 (λ name name_is e2.
    on_some (declared modules name) _ _ tag e2 (λ abilities abilities_are e3.
    on_need (same_abilities abilities handle.abilities) _ _ tag e3 (λ met e4.
    let one : Some handle.abilities ≡ Some a = subst (λ (o : Option StructHandle). (o >>= λ x. Some x.abilities) ≡ Some a) handle_is g in
    let tagged : tag_abilities modules (StructTag name) ≡ abilities = ap (λ (o : Option Abilities). unwrap_or o no_abilities) abilities_are in
    let known : a ≡ tag_abilities modules (StructTag name) = sym (same_Some handle.abilities a one) ∙ (sym (same_abilities-is abilities handle.abilities met) ∙ sym tagged) in
    subst (WhereOk (λ x. a ≡ tag_abilities modules x)) e4 known))))

pub tag_named-abilities : (modules : List Module) (m : Module) (t : Token) (tag : Tag) (a : Abilities) → tag_named modules m t ≡ Ok tag → token_abilities m t ≡ Some a → a ≡ tag_abilities modules tag
tag_named-abilities modules m (Plain t) tag a e g = value_type_tag-abilities modules m t tag a e g
tag_named-abilities modules m (ReferenceTo t) tag a e g =
    on_ok (value_type_tag modules m t) _ tag e (λ to to_is e1. sym (same_Some reference_abilities a g) ∙ subst (WhereOk (λ x. reference_abilities ≡ tag_abilities modules x)) e1 refl)
tag_named-abilities modules m (MutableReferenceTo t) tag a e g =
    on_ok (value_type_tag modules m t) _ tag e (λ to to_is e1. sym (same_Some reference_abilities a g) ∙ subst (WhereOk (λ x. reference_abilities ≡ tag_abilities modules x)) e1 refl)

-- what each element is, the one at an index is
pub each-get : {A : Type 0} (P : A → Type 0) (xs : List A) (i : ℕ) (x : A) → AllByRecursion P xs → slice_get xs i ≡ Some x → P x
each-get P [] i x h e = absurd cc
each-get P (y ∷ ys) zero x h e = subst P (same_Some y x e) h.0
each-get P (y ∷ ys) (suc i) x h e = each-get P ys i x h.1 e

-- each struct handle of a module names a struct that is declared as the handle says
abbrev pub HandlesDeclared : List Module → Module → Type 0
HandlesDeclared modules m = (j : ℕ) (handle : StructHandle) (name : StructName) → slice_get m.struct_handles j ≡ Some handle → struct_name m j ≡ Some name
    → declared modules name ≡ Some handle.abilities

pub handles-declared : (modules : List Module) (m : Module) → structs_are_there modules m 0 m.struct_handles ≡ true → HandlesDeclared modules m
handles-declared modules m all j handle name handle_is name_is =
    let at : 0 + j ≡ j = omega arith in
    let here : struct_is_there modules m j handle ≡ true = subst (λ n. struct_is_there modules m n handle ≡ true) at (structs_there_at modules m 0 m.struct_handles j handle all handle_is) in
    let named = passing (λ n. option_map_or (same_abilities handle.abilities) (declared modules n) false) (struct_name m j) here in
    let found = passing (same_abilities handle.abilities) (declared modules named.0) named.2 in
    let one : named.0 ≡ name = same_Some named.0 name (sym named.1 ∙ name_is) in
    let same : found.0 ≡ handle.abilities = sym (same_abilities-is handle.abilities found.0 found.2) in
    sym (ap (declared modules) one) ∙ (found.1 ∙ ap (λ (a : Abilities). Some a) same)

pub each-declared : (modules ms : List Module) → list_all (λ m. structs_are_there modules m 0 m.struct_handles) ms ≡ true → AllByRecursion (HandlesDeclared modules) ms
each-declared modules [] h = tt
each-declared modules (m ∷ ms) h = (
  handles-declared modules m (first_so (structs_are_there modules m 0 m.struct_handles) (list_all (λ m. structs_are_there modules m 0 m.struct_handles) ms) h),
  each-declared modules ms (second_so (structs_are_there modules m 0 m.struct_handles) (list_all (λ m. structs_are_there modules m 0 m.struct_handles) ms) h),
)

pub handle-declared : (modules : List Module) (place : ℕ) (m : Module) (j : ℕ) (handle : StructHandle) (name : StructName) → IsAbleStore modules → slice_get modules place ≡ Some m →
    slice_get m.struct_handles j ≡ Some handle → struct_name m j ≡ Some name → declared modules name ≡ Some handle.abilities
handle-declared modules place m j handle name store m_is = each-get (HandlesDeclared modules) modules place m (each-declared modules modules store.structs) m_is j handle name

-- what an own struct is: declared with its abilities, and each of its fields has what they ask for
pub record Owned (modules : List Module) (m : Module) (s : OwnStruct) : Type 0 where
  pub is_declared : declared modules s.name ≡ Some s.abilities
  pub able : list_all (field_is_able m s.abilities) s.fields ≡ true

pub own_struct-owned : (h : Here) (place i : ℕ) (s : OwnStruct) → IsAbleStore h.modules → slice_get h.modules place ≡ Some h.home → own_struct h i ≡ Ok s → Owned h.modules h.home s
unfolding own_struct
own_struct-owned h place i s store home_is e =
    on_some (slice_get h.home.structs i) _ _ s e (λ d d_is e1.
    on_some (slice_get h.home.struct_handles d.handle) _ _ s e1 (λ handle handle_is e2.
    on_some (struct_name h.home d.handle) _ _ s e2 (λ name name_is e3.
    on_some (own_name h.home) _ _ s e3 (λ own own_is e4.
    on_need (same_module name.home own) _ _ s e4 (λ met e5.
    let able : struct_is_able h.home d ≡ true = all_at (struct_is_able h.home) h.home.structs i d (each-get AbilitiesHold h.modules place h.home store.able home_is) d_is in
    let had = passing (λ a. list_all (field_is_able h.home a) d.fields) (struct_abilities h.home d) able in
    let has : struct_abilities h.home d ≡ Some handle.abilities = ap (λ (o : Option StructHandle). o >>= λ x. Some x.abilities) handle_is in
    let one : had.0 ≡ handle.abilities = same_Some had.0 handle.abilities (sym had.1 ∙ has) in
    subst (WhereOk (Owned h.modules h.home)) e5 (record {
      is_declared = handle-declared h.modules place h.home d.handle handle name store home_is handle_is name_is;
      able = subst (λ a. list_all (field_is_able h.home a) d.fields ≡ true) one had.2;
    }))))))

pub implied : (a b : Bool) → implies a b ≡ true → a ≡ true → b ≡ true
implied true b h e = h
implied false b h e = absurd cc

-- a value of a field's tag has what the struct asks of the field
field-allows : (modules : List Module) (m : Module) (s : State) (outer : Abilities) (f : Field) (tag : Tag) (v : Value) → field_is_able m outer f ≡ true → tag_named modules m f.token ≡ Ok tag
    → has_tag s v tag ≡ true → Allows outer (abilities_of modules v)
field-allows modules m s outer f tag v able named typed =
    let had = passing (λ a. implies outer.copy a.copy && implies outer.drop a.drop && implies (outer.store || outer.key) a.store) (token_abilities m f.token) able in
    let front : (implies outer.copy (had.0).copy && implies outer.drop (had.0).drop) ≡ true = first_so (implies outer.copy (had.0).copy && implies outer.drop (had.0).drop)
    (implies (outer.store || outer.key) (had.0).store) had.2 in
    let same : had.0 ≡ abilities_of modules v = tag_named-abilities modules m f.token tag had.0 named had.1 ∙ sym (has_tag-abilities modules s v tag typed) in
    subst (Allows outer) same (record {
      copy = implied outer.copy (had.0).copy (first_so (implies outer.copy (had.0).copy) (implies outer.drop (had.0).drop) front);
      drop = implied outer.drop (had.0).drop (second_so (implies outer.copy (had.0).copy) (implies outer.drop (had.0).drop) front);
    })

fields-kept : (modules : List Module) (m : Module) (s : State) (outer : Abilities) (fs : List Field) (tags : List Tag) (vs : List Value) → list_all (field_is_able m outer) fs ≡ true →
    for_each (λ f. tag_named modules m f.token) fs ≡ Ok tags → have_tags s vs tags ≡ true → StackIsKept modules vs → AreKept modules outer (fields_of vs)
fields-kept modules m s outer [] tags (v ∷ vs) able named typed kept =
    let none : have_tags s (v ∷ vs) [] ≡ true = subst (WhereOk (λ ts. have_tags s (v ∷ vs) ts ≡ true)) (sym named) typed in
    absurd cc
fields-kept modules m s outer (f ∷ fs) tags (v ∷ vs) able named typed kept =
    on_ok (tag_named modules m f.token) _ tags named (λ tag tag_is e1.
    on_ok (for_each (λ f. tag_named modules m f.token) fs) _ tags e1 (λ rest rest_are e2.
    let both : (has_tag s v tag && have_tags s vs rest) ≡ true = subst (WhereOk (λ ts. have_tags s (v ∷ vs) ts ≡ true)) (sym e2) typed in (
      field-allows modules m s outer f tag v (first_so (field_is_able m outer f) (list_all (field_is_able m outer) fs) able) tag_is (first_so (has_tag s v tag) (have_tags s vs rest) both),
      kept.0,
      fields-kept modules m s outer fs rest vs (second_so (field_is_able m outer f) (list_all (field_is_able m outer) fs) able) rest_are (second_so (has_tag s v tag) (have_tags s vs rest) both)
          kept.1,
    )))
fields-kept _ _ _ _ _ _ _ _ _ _ _ = tt

-- a struct value that is packed
pub packed-kept : (h : Here) (place i : ℕ) (s : OwnStruct) (tags : List Tag) (vs : List Value) → IsAbleStore h.modules → slice_get h.modules place ≡ Some h.home → own_struct h i ≡ Ok s →
    for_each (λ f. tag_named h.modules h.home f.token) s.fields ≡ Ok tags → have_tags h.state vs tags ≡ true → StackIsKept h.modules vs → IsKept h.modules (Struct s.name (fields_of vs))
packed-kept h place i s tags vs store home_is struct_is named typed kept =
    let owned = own_struct-owned h place i s store home_is struct_is in
    (s.abilities, owned.is_declared, fields-kept h.modules h.home h.state s.abilities s.fields tags vs owned.able named typed kept)
