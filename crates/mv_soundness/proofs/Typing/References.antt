-- Rows of references that change nothing: fields, reads, freezing.
use Rattle.mv_soundness.proofs.Typing.Common.{◌≡◌, ℕ, zero, suc, ◌+◌, true, List, [], ◌∷◌, refl, ap, subst, ◌∙◌, Option, Some, Ok, Bool, false, sym, map, same_Some, slice_get, ok_or}
use Rattle.mv_soundness.proofs.Typing.Common.{option_map, Module, StructName, ◌>>=◌, need, Tag, StructTag, ReferenceTag, same_value_type, Instruction, Field, Token, Plain, ReferenceTo}
use Rattle.mv_soundness.proofs.Typing.Common.{MutableReferenceTo, ValueType, OfStruct, root_value, Here, OwnStruct, operand, as_reference, follow, can_copy, as_fields, Faults, LostFault}
use Rattle.mv_soundness.proofs.Typing.Common.{DanglingFault, Value, Struct, Ref, Values, Reference, list_of, on_bind, same_struct-same, token_named, tokens_named, value_type_named}
use Rattle.mv_soundness.proofs.Typing.Common.{Types, top_type, plain_of, mutable_target_of, TypesAt, Row, Facts, Roots, IsOf, AreOf, Table, HasType, PointsTo, HasToken, HaveTokens}
use Rattle.mv_soundness.proofs.Typing.Common.{TurnTyped, value_type_abilities}
use Rattle.mv_soundness.proofs.Typing.Operands.{on_names, on_test, takes_gives-is, top_type-is}
use Rattle.mv_soundness.proofs.{Typing.Within.leads_on, Typing.Roots.place_of, Typing.Roots.is_plain, Typing.Stays.gives_typed, Typing.Stays.top_typed}
use Rattle.mv_soundness.proofs.Typing.Parts.{Part, known, passes, tested, lost}
use Rattle.std.proofs.lemmas.Option.{slice_get-map}
use Rattle.mv_type_rules.specs.TypeRules.{target_of, field_types, of_mutable_field, of_immutable_field, of_read, of_freeze}
use Rattle.mv_machine.specs.StepReferences.{extended, own_field, borrow_field, read_reference, freeze, lends}
use Rattle.mv_soundness.specs.Typing.HasType.{fields_by_name}
use Rattle.mv_borrow_graph.specs.Laws.Shifts.{plain_of-is}
use Rattle.mv_bound_rules.proofs.Tokens.{value_types_equal}

-- a value of a reference's type
pub record IsReference (modules : List Module) (look : Roots) (home : Module) (v : Value) (is_mutable : Bool) (u : ValueType) : Type 0 where
  pub reference : Reference
  pub tag : Tag
  pub is_reference : v ≡ Ref reference
  pub mutable : reference.is_mutable ≡ is_mutable
  pub names : value_type_named home u ≡ Some tag
  pub points : PointsTo (fields_by_name modules) look reference tag

module _ (modules : List Module) (look : Roots) (home : Module) where
  by_tag : (v : Value) (m : Bool) (u : ValueType) (tag : Tag) → value_type_named home u ≡ Some tag → HasType (fields_by_name modules) look v (ReferenceTag m tag) → IsReference modules look home v m u
  by_tag (Ref r) m u tag e h = record { reference = r; tag = tag; is_reference = refl; mutable = h.0; names = e; points = h.1 }
  by_tag v m u tag e h = absurd h

  named_reference : (v : Value) (m : Bool) (u : ValueType) (whole : Tag) → (value_type_named home u >>= λ tag. Some (ReferenceTag m tag)) ≡ Some whole
      → HasType (fields_by_name modules) look v whole → IsReference modules look home v m u
  named_reference v m u whole e h =
      on_bind (value_type_named home u) (λ tag. Some (ReferenceTag m tag)) whole e (λ tag tag_is e1.
      by_tag v m u tag tag_is (subst (λ (x : Tag). HasType (fields_by_name modules) look v x) (sym (same_Some (ReferenceTag m tag) whole e1)) h))

  pub immutable : (v : Value) (u : ValueType) → HasToken modules look home v (ReferenceTo u) → IsReference modules look home v false u
  immutable v u h = named_reference v false u h.tag h.names h.typed

  pub mutable_one : (v : Value) (u : ValueType) → HasToken modules look home v (MutableReferenceTo u) → IsReference modules look home v true u
  mutable_one v u h = named_reference v true u h.tag h.names h.typed

  -- either of them
  pub either : (v : Value) (t : Token) (u : ValueType) → target_of t ≡ Some u → HasToken modules look home v t → (m : Bool) × IsReference modules look home v m u
  either v (Plain t) u e h = absurd cc
  either v (ReferenceTo t) u e h = (false, subst (λ (x : ValueType). IsReference modules look home v false x) (same_Some t u e) (immutable v t h))
  either v (MutableReferenceTo t) u e h = (true, subst (λ (x : ValueType). IsReference modules look home v true x) (same_Some t u e) (mutable_one v t h))

  pub mutable_target-is : (t : Token) (u : ValueType) → mutable_target_of t ≡ Some u → t ≡ MutableReferenceTo u
  mutable_target-is (MutableReferenceTo t) u e = ap MutableReferenceTo (same_Some t u e)
  mutable_target-is t u e = absurd cc

  -- references by their types
  pub of_reference : (m : Bool) (given : ValueType → Token) → ((t : ValueType) (tag : Tag) → value_type_named home t ≡ Some tag → token_named home (given t) ≡ Some (ReferenceTag m tag)) →
      (r : Reference) (u : ValueType) (tag : Tag) → r.is_mutable ≡ m → value_type_named home u ≡ Some tag → PointsTo (fields_by_name modules) look r tag → HasToken modules look home (Ref r) (given u)
  of_reference m given names r u tag e n p = record { tag = ReferenceTag m tag; names = names u tag n; typed = (e, p) }

pub immutable_names : (home : Module) (t : ValueType) (tag : Tag) → value_type_named home t ≡ Some tag → token_named home (ReferenceTo t) ≡ Some (ReferenceTag false tag)
immutable_names home t tag e = rw e refl

pub mutable_names : (home : Module) (t : ValueType) (tag : Tag) → value_type_named home t ≡ Some tag → token_named home (MutableReferenceTo t) ≡ Some (ReferenceTag true tag)
mutable_names home t tag e = rw e refl

-- the fields of a value of a struct
pub struct_fields : (table : Table) (w : Value) (name : StructName) → IsOf table w (StructTag name)
    → (fields : Values) × (ts : List Tag) × (as_fields name w ≡ Ok (list_of fields)) × (table name ≡ Some ts) × AreOf table fields ts
struct_fields table (Struct own fields) name h = (
  fields,
  h.1,
  subst (λ (x : StructName). as_fields x (Struct own fields) ≡ Ok (list_of fields)) h.0 (rw (same_struct-same own) refl),
  subst (λ (x : StructName). table x ≡ Some h.1) h.0 h.2,
  h.3,
)
struct_fields table w name h = absurd h

-- the tag of one type of a list
pub tokens_at : (m : Module) (ts : List Token) (tags : List Tag) (k : ℕ) (t : Token) → tokens_named m ts ≡ Some tags → slice_get ts k ≡ Some t
    → (tag : Tag) × (token_named m t ≡ Some tag) × (slice_get tags k ≡ Some tag)
tokens_at m [] tags k t e g = absurd cc
tokens_at m (u ∷ ts) tags zero t e g =
    on_names m u ts tags e (λ tag rest tag_is rest_is whole.
    (tag, subst (λ (x : Token). token_named m x ≡ Some tag) (same_Some u t g) tag_is, subst (λ (x : List Tag). slice_get x 0 ≡ Some tag) whole refl))
tokens_at m (u ∷ ts) tags (suc k) t e g =
    on_names m u ts tags e (λ tag rest tag_is rest_is whole.
    let found = tokens_at m ts rest k t rest_is g in
    (found.0, found.1, subst (λ (x : List Tag). slice_get x (suc k) ≡ Some found.0) whole found.2))

-- what a field handle stands for
pub record FieldFacts (h : Here) (i : ℕ) (struct plain : ValueType) : Type 0 where
  pub found : OwnStruct
  pub tags : List Tag
  pub tag : Tag
  pub position : ℕ
  pub is_found : own_field h i ≡ Ok (found, position)
  pub struct_names : value_type_named h.home struct ≡ Some (StructTag found.name)
  pub by_name : fields_by_name h.modules found.name ≡ Some tags
  pub at_position : slice_get tags position ≡ Some tag
  pub field_names : value_type_named h.home plain ≡ Some tag

pub field_facts : (h : Here) → Facts h → (i : ℕ) (x : ValueType × ValueType) → field_types h.home i ≡ Some x → FieldFacts h i x.0 x.1
unfolding own_field
field_facts h facts i x e =
    on_bind (slice_get h.home.field_handles i) _ x e (λ handle handle_is e1.
    on_bind (slice_get h.home.structs handle.definition) _ x e1 (λ d d_is e2.
    on_bind (slice_get d.fields handle.position) _ x e2 (λ field field_is e3.
    on_bind (plain_of field.token) _ x e3 (λ plain plain_is e4.
    let own = facts.own handle.definition d d_is in
    let whole : (OfStruct d.handle, plain) ≡ x = same_Some (OfStruct d.handle, plain) x e4 in
    let fields_at : slice_get own.struct.fields handle.position ≡ Some field = subst (λ (fs : List Field). slice_get fs handle.position ≡ Some field) (sym own.fields) field_is in
    let mapped : slice_get (map (λ (f : Field). f.token) d.fields) handle.position ≡ Some field.token =
    slice_get-map (λ (f : Field). f.token) d.fields handle.position ∙ ap (option_map (λ (f : Field). f.token)) field_is in
    let at = tokens_at h.home (map (λ (f : Field). f.token) d.fields) own.tags handle.position field.token own.are_tags mapped in
    subst (λ (y : ValueType × ValueType). FieldFacts h i y.0 y.1) whole (record {
      found = own.struct;
      tags = own.tags;
      tag = at.0;
      position = handle.position;
      is_found = rw (handle_is, own.is_found, fields_at) refl;
      struct_names = rw own.is_named refl;
      by_name = own.by_name;
      at_position = at.2;
      field_names = subst (λ (t : Token). token_named h.home t ≡ Some at.0) (plain_of-is field.token plain plain_is) at.1;
    })))))

module _ (h : Here) (i : Instruction) (types after : Types) (row : Row h i types after) (next : TypesAt h.home h.function (h.state.top.at + 1) after) where
  -- a field of what a reference leads to
  lent_field : (wants : Bool) (k : ℕ) (u plain : ValueType) (f : FieldFacts h k u plain) (given : ValueType → Token)
      → ((t : ValueType) (tag : Tag) → value_type_named h.home t ≡ Some tag → token_named h.home (given t) ≡ Some (ReferenceTag wants tag))
      → (stack : List Value) (v : Value) (rest : List Value) (below : Types) (m : Bool) → h.state.top.stack ≡ v ∷ rest
      → IsReference h.modules (root_value h.state) h.home v m u → ((r : Reference) → r.is_mutable ≡ m → lends wants r ≡ true)
      → HaveTokens h.modules (root_value h.state) h.home rest below → after ≡ given plain ∷ below
      → Part (TurnTyped h.modules) (borrow_field wants h k)
  unfolding borrow_field
  lent_field wants k u plain f given names stack v rest below m are ref lent typed same =
      let r : Reference = ref.reference in
      let tag_same : ref.tag ≡ StructTag f.found.name = same_Some ref.tag (StructTag f.found.name) (sym ref.names ∙ f.struct_names) in
      let points : PointsTo (fields_by_name h.modules) (root_value h.state) r (StructTag f.found.name) =
      subst (λ (t : Tag). PointsTo (fields_by_name h.modules) (root_value h.state) r t) tag_same ref.points in
      let there = place_of (fields_by_name h.modules) h.state r (StructTag f.found.name) points in
      let fields = struct_fields (fields_by_name h.modules) there.0 f.found.name there.2 in
      let new : Reference = record { is_mutable = wants; place = extended r.place f.position } in
      let leads = leads_on (fields_by_name h.modules) points.base f.tag r.place.path f.found.name f.tags f.position points.leads f.by_name f.at_position in
      let new_typed : HasToken h.modules (root_value h.state) h.home (Ref new) (given plain) =
      record { tag = ReferenceTag wants f.tag; names = names plain f.tag f.field_names; typed = (refl, record { base = points.base; root = points.root; leads = leads }) } in
      known (TurnTyped h.modules) (own_field h k) _ (f.found, f.position) f.is_found
      (known (TurnTyped h.modules) (operand h.state.top.stack) _ (v, rest) (ap operand are)
      (known (TurnTyped h.modules) (as_reference v) _ r (ap as_reference ref.is_reference)
      (passes (TurnTyped h.modules) (lends wants r) _ _ (lent r ref.mutable)
      (known (TurnTyped h.modules) (follow h.state r) _ there.0 (ap (λ (x : Option Value). ok_or x (Faults DanglingFault)) there.1)
      (known (TurnTyped h.modules) (as_fields f.found.name there.0) _ (list_of fields.0) fields.2
      (gives_typed h i types after (Ok (Ref new ∷ rest)) row next
      (subst (λ (ts : Types). HaveTokens h.modules (root_value h.state) h.home (Ref new ∷ rest) ts) (sym same) (new_typed, typed))))))))

  pub mutable_field : (k : ℕ) → of_mutable_field h.home k types ≡ Some after → Part (TurnTyped h.modules) (borrow_field true h k)
  mutable_field k e =
      on_bind (field_types h.home k) _ after e (λ x x_is e1.
      let f = field_facts h row.facts k x x_is in
      let parts = takes_gives-is (MutableReferenceTo x.0 ∷ []) (MutableReferenceTo x.1 ∷ []) types after e1 in
      let top = top_typed h i types after row (MutableReferenceTo x.0) parts.0 parts.1 in
      lent_field true k x.0 x.1 f MutableReferenceTo (mutable_names h.home) h.state.top.stack top.0 top.1 parts.0 true top.2
      (mutable_one h.modules (root_value h.state) h.home top.0 x.0 top.3) (λ r is. is) top.4 parts.2)

  pub immutable_field : (k : ℕ) → of_immutable_field h.home k types ≡ Some after → Part (TurnTyped h.modules) (borrow_field false h k)
  immutable_field k e =
      on_bind (field_types h.home k) _ after e (λ x x_is e1.
      on_bind (top_type types) _ after e1 (λ t t_is e2.
      on_bind (target_of t.0) _ after e2 (λ u u_is e3.
      on_test (same_value_type u x.0) (ReferenceTo x.1 ∷ t.1) after e3 (λ same given.
      let f = field_facts h row.facts k x x_is in
      let top = top_typed h i types after row t.0 t.1 (top_type-is types t t_is) in
      let ref = either h.modules (root_value h.state) h.home top.0 t.0 u u_is top.3 in
      let ref_there = subst (λ (y : ValueType). IsReference h.modules (root_value h.state) h.home top.0 ref.0 y) (value_types_equal u x.0 same) ref.1 in
      lent_field false k x.0 x.1 f ReferenceTo (immutable_names h.home) h.state.top.stack top.0 top.1 t.1 ref.0 top.2 ref_there (λ r is. refl) top.4 (sym given)))))

  pub reads : of_read h.home types ≡ Some after → Part (λ (stack : List Value). HaveTokens h.modules (root_value h.state) h.home stack after) (read_reference h h.state.top.stack)
  unfolding read_reference
  reads e =
      on_bind (top_type types) _ after e (λ t t_is e1.
      on_bind (target_of t.0) _ after e1 (λ u u_is e2.
      on_bind (value_type_abilities h.home u) _ after e2 (λ a a_is e3.
      on_test a.copy (Plain u ∷ t.1) after e3 (λ able given.
      let P : List Value → Type 0 = λ stack. HaveTokens h.modules (root_value h.state) h.home stack after in
      let top = top_typed h i types after row t.0 t.1 (top_type-is types t t_is) in
      let ref = either h.modules (root_value h.state) h.home top.0 t.0 u u_is top.3 in
      let r : Reference = ref.1.reference in
      let there = place_of (fields_by_name h.modules) h.state r ref.1.tag ref.1.points in
      known P (operand h.state.top.stack) _ (top.0, top.1) (ap operand top.2)
      (known P (as_reference top.0) _ r (ap as_reference ref.1.is_reference)
      (known P (follow h.state r) _ there.0 (ap (λ (x : Option Value). ok_or x (Faults DanglingFault)) there.1)
      (tested P (need (can_copy h there.0) (Faults LostFault)) _ (lost (can_copy h there.0))
      (subst (λ (ts : Types). HaveTokens h.modules (root_value h.state) h.home (there.0 ∷ top.1) ts) given
      (record { tag = ref.1.tag; names = ref.1.names; typed = is_plain (fields_by_name h.modules) (root_value h.state) there.0 ref.1.tag there.2 }, top.4)))))))))

  pub freezes : of_freeze types ≡ Some after → Part (λ (stack : List Value). HaveTokens h.modules (root_value h.state) h.home stack after) (freeze h h.state.top.stack)
  unfolding freeze
  freezes e =
      on_bind (top_type types) _ after e (λ t t_is e1.
      on_bind (mutable_target_of t.0) _ after e1 (λ u u_is e2.
      let P : List Value → Type 0 = λ stack. HaveTokens h.modules (root_value h.state) h.home stack after in
      let top = top_typed h i types after row t.0 t.1 (top_type-is types t t_is) in
      let ref = mutable_one h.modules (root_value h.state) h.home top.0 u
      (subst (λ (x : Token). HasToken h.modules (root_value h.state) h.home top.0 x) (mutable_target-is h.modules (root_value h.state) h.home t.0 u u_is) top.3) in
      let r : Reference = ref.reference in
      let there = place_of (fields_by_name h.modules) h.state r ref.tag ref.points in
      let new : Reference = record { is_mutable = false; place = r.place } in
      let new_points : PointsTo (fields_by_name h.modules) (root_value h.state) new ref.tag = record { base = ref.points.base; root = ref.points.root; leads = ref.points.leads } in
      known P (operand h.state.top.stack) _ (top.0, top.1) (ap operand top.2)
      (known P (as_reference top.0) _ r (ap as_reference ref.is_reference)
      (passes P r.is_mutable _ _ ref.mutable
      (known P (follow h.state r) _ there.0 (ap (λ (x : Option Value). ok_or x (Faults DanglingFault)) there.1)
      (subst (λ (ts : Types). HaveTokens h.modules (root_value h.state) h.home (Ref new ∷ top.1) ts) (same_Some (ReferenceTo u ∷ t.1) after e2)
      (of_reference h.modules (root_value h.state) h.home false ReferenceTo (immutable_names h.home) new u ref.tag refl ref.names new_points, top.4)))))))
