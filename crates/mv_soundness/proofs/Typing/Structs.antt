-- Rows of struct values, and lists of values by their tags.
use Rattle.mv_soundness.proofs.Typing.Common.{◌≡◌, ℕ, suc, ◌+◌, true, List, [], ◌∷◌, length, refl, ap, subst, ◌∙◌, ◌++◌, Some, Ok, Bool, false, sym, map, reverse, same_Some, first_so}
use Rattle.mv_soundness.proofs.Typing.Common.{second_so, slice_get, not, Module, for_each, Tag, StructTag, Instruction, Field, Token, Plain, OfStruct, root_value, Here, operands}
use Rattle.mv_soundness.proofs.Typing.Common.{OwnStruct, operand, with_stack, goes_on, is_reference_tag, as_fields, tag_named, have_tags, Value, Struct, Values, NoMore, More, list_of}
use Rattle.mv_soundness.proofs.Typing.Common.{on_bind, tokens_named, value_type_named, Types, TypesAt, Row, Facts, are_plain, Roots, HaveTypes, IsOf, AreOf, HasType, HasToken}
use Rattle.mv_soundness.proofs.Typing.Common.{HaveTokens, TurnTyped}
use Rattle.mv_soundness.proofs.Typing.Operands.{on_names, tags_by, on_names, tags_by, takes_gives-is, joined, turned, take_operands}
use Rattle.mv_soundness.proofs.{Typing.Parts.Part, Typing.Parts.known, Typing.Parts.passes, Typing.References.struct_fields, Typing.Stays.moved, Typing.Stays.top_typed}
use Rattle.mv_soundness.proofs.Typing.Roots.{is_plain, plain_is, tokens_have_tags, typed_have_tags}
use Rattle.std.proofs.{lemmas.List.length-map, lemmas.Bool.not-true}
use Rattle.mv_machine.specs.{Value.fields_of, Step.own_struct, Step.pack, StepStructs.unpack, StepStructs.noted}
use Rattle.mv_type_rules.specs.TypeRules.{of_pack, of_unpack}
use Rattle.mv_soundness.specs.Typing.HasType.{fields_by_name}

-- the tags of a list of types are found
pub tags_found : (h : Here) → Facts h → (ts : List Token) (tags : List Tag) → tokens_named h.home ts ≡ Some tags → for_each (tag_named h.modules h.home) ts ≡ Ok tags
tags_found h facts ts tags e = tags_by h.modules h.home facts.tag ts tags e

-- and those of fields
pub field_tags_found : (h : Here) → Facts h → (fs : List Field) (tags : List Tag) → tokens_named h.home (map (λ (f : Field). f.token) fs) ≡ Some tags
    → for_each (λ (f : Field). tag_named h.modules h.home f.token) fs ≡ Ok tags
field_tags_found h facts [] tags e = ap Ok (same_Some [] tags e)
field_tags_found h facts (f ∷ fs) tags e =
    on_names h.home f.token (map (λ (f : Field). f.token) fs) tags e (λ tag rest tag_is rest_is whole.
    let first : tag_named h.modules h.home f.token ≡ Ok tag = facts.tag f.token tag tag_is in
    let others : for_each (λ (f : Field). tag_named h.modules h.home f.token) fs ≡ Ok rest = field_tags_found h facts fs rest rest_is in
    rw (first, others) (ap Ok whole))

pub names_length : (m : Module) (ts : List Token) (tags : List Tag) → tokens_named m ts ≡ Some tags → length tags ≡ length ts
names_length m [] tags e = ap length (sym (same_Some [] tags e))
names_length m (t ∷ ts) tags e =
    on_names m t ts tags e (λ tag rest tag_is rest_is whole.
    ap length (sym whole) ∙ ap suc (names_length m ts rest rest_is))

module _ (modules : List Module) (look : Roots) where
  -- values of tags are of the types that a module names so
  pub have_tokens : (home : Module) (vs : List Value) (ts : List Token) (tags : List Tag) → HaveTypes (fields_by_name modules) look vs tags
      → tokens_named home ts ≡ Some tags → HaveTokens modules look home vs ts
  have_tokens home vs [] tags h e = nothing vs (subst (λ (x : List Tag). HaveTypes (fields_by_name modules) look vs x) (sym (same_Some [] tags e)) h)
    where
      nothing : (vs : List Value) → HaveTypes (fields_by_name modules) look vs [] → HaveTokens modules look home vs []
      nothing [] h = tt
      nothing (v ∷ vs) h = absurd h
  have_tokens home [] (t ∷ ts) tags h e =
      on_names home t ts tags e (λ tag rest tag_is rest_is whole.
      subst (λ (x : List Tag). HaveTypes (fields_by_name modules) look [] x) (sym whole) h)
  have_tokens home (v ∷ vs) (t ∷ ts) tags h e =
      on_names home t ts tags e (λ tag rest tag_is rest_is whole.
      let both : HaveTypes (fields_by_name modules) look (v ∷ vs) (tag ∷ rest) =
      subst (λ (x : List Tag). HaveTypes (fields_by_name modules) look (v ∷ vs) x) (sym whole) h in
      (record { tag = tag; names = tag_is; typed = both.0 }, have_tokens home vs ts rest both.1 rest_is))

  -- the values of fields
  pub fields_typed : (vs : List Value) (tags : List Tag) → are_plain tags ≡ true → HaveTypes (fields_by_name modules) look vs tags → AreOf (fields_by_name modules) (fields_of vs) tags
  fields_typed [] [] p h = tt
  fields_typed (v ∷ vs) (t ∷ ts) p h =
      (plain_is (fields_by_name modules) look v t (not-true (is_reference_tag t) (first_so (not (is_reference_tag t)) (are_plain ts) p)) h.0, fields_typed vs ts (second_so (not (is_reference_tag t)) (are_plain ts) p) h.1)
  fields_typed vs tags p h = absurd h

  pub typed_fields : (fields : Values) (tags : List Tag) → AreOf (fields_by_name modules) fields tags → HaveTypes (fields_by_name modules) look (list_of fields) tags
  typed_fields NoMore [] h = tt
  typed_fields (More v vs) (t ∷ ts) h = (is_plain (fields_by_name modules) look v t h.0, typed_fields vs ts h.1)
  typed_fields fields tags h = absurd h

module _ (h : Here) (i : Instruction) (types after : Types) (row : Row h i types after) (next : TypesAt h.home h.function (h.state.top.at + 1) after) where
  -- one more in the events, and these operands
  tallies : (is_pack : Bool) (struct : OwnStruct) (stack : List Value) → HaveTokens h.modules (root_value h.state) h.home stack after
      → Part (TurnTyped h.modules) (goes_on (noted is_pack struct (with_stack h.state stack)))
  tallies is_pack struct stack typed =
      moved h i types after row (h.state.top.at + 1) h.state.top.locals stack h.state.below h.state.storage
      (noted is_pack struct h.state).events next row.stands.numbered.1 row.stands.locals typed row.stands.below row.stands.storage

  pub packs : (k : ℕ) → of_pack h.home k types ≡ Some after → Part (TurnTyped h.modules) (pack h k)
  unfolding pack
  packs k e =
      on_bind (slice_get h.home.structs k) _ after e (λ d d_is e1.
      let own = row.facts.own k d d_is in
      let wanted : List Token = map (λ (f : Field). f.token) d.fields in
      let parts = takes_gives-is wanted (Plain (OfStruct d.handle) ∷ []) types after e1 in
      let look : Roots = root_value h.state in
      let taken = take_operands h.modules look h.home h.state.top.stack wanted parts.0 (subst (λ (ts : Types). HaveTokens h.modules look h.home h.state.top.stack ts) parts.1 row.stands.stack) in
      let long : length wanted ≡ length own.struct.fields = length-map d.fields (λ (f : Field). f.token) ∙ ap length (sym own.fields) in
      let taken_is : operands (length own.struct.fields) h.state.top.stack ≡ Ok (taken.arguments, taken.rest) =
      subst (λ (n : ℕ). operands n h.state.top.stack ≡ Ok (taken.arguments, taken.rest)) long taken.is_taken in
      let tags_are : for_each (λ (f : Field). tag_named h.modules h.home f.token) own.struct.fields ≡ Ok own.tags =
      subst (λ (fs : List Field). for_each (λ (f : Field). tag_named h.modules h.home f.token) fs ≡ Ok own.tags) (sym own.fields) (field_tags_found h row.facts d.fields own.tags own.are_tags) in
      let typed = tokens_have_tags h.modules (root_value h.state) h.home taken.arguments wanted own.tags taken.arguments_typed own.are_tags in
      let fields = fields_typed h.modules look taken.arguments own.tags own.plain typed in
      let new : Value = Struct own.struct.name (fields_of taken.arguments) in
      let new_typed : HasToken h.modules look h.home new (Plain (OfStruct d.handle)) =
      record { tag = StructTag own.struct.name; names = rw own.is_named refl; typed = (refl, own.tags, own.by_name, fields) } in
      known (TurnTyped h.modules) (own_struct h k) _ own.struct own.is_found
      (known (TurnTyped h.modules) (operands (length own.struct.fields) h.state.top.stack) _ (taken.arguments, taken.rest) taken_is
      (known (TurnTyped h.modules) (for_each (λ (f : Field). tag_named h.modules h.home f.token) own.struct.fields) _ own.tags tags_are
      (passes (TurnTyped h.modules) (have_tags h.state taken.arguments own.tags) _ _ (typed_have_tags (fields_by_name h.modules) h.state taken.arguments own.tags typed)
      (tallies true own.struct (new ∷ taken.rest) (subst (λ (ts : Types). HaveTokens h.modules look h.home (new ∷ taken.rest) ts) (sym parts.2) (new_typed, taken.rest_typed)))))))

  pub unpacks : (k : ℕ) → of_unpack h.home k types ≡ Some after → Part (TurnTyped h.modules) (unpack h k)
  unfolding unpack
  unpacks k e =
      on_bind (slice_get h.home.structs k) _ after e (λ d d_is e1.
      let own = row.facts.own k d d_is in
      let wanted : List Token = map (λ (f : Field). f.token) d.fields in
      let parts = takes_gives-is (Plain (OfStruct d.handle) ∷ []) wanted types after e1 in
      let look : Roots = root_value h.state in
      let table = fields_by_name h.modules in
      let top = top_typed h i types after row (Plain (OfStruct d.handle)) parts.0 parts.1 in
      let names : value_type_named h.home (OfStruct d.handle) ≡ Some (StructTag own.struct.name) = rw own.is_named refl in
      let tag : top.3.tag ≡ StructTag own.struct.name = same_Some top.3.tag (StructTag own.struct.name) (sym top.3.names ∙ names) in
      let value_is : IsOf table top.0 (StructTag own.struct.name) = subst (λ (t : Tag). HasType table look top.0 t) tag top.3.typed in
      let fields = struct_fields table top.0 own.struct.name value_is in
      let tags : fields.1 ≡ own.tags = same_Some fields.1 own.tags (sym fields.3 ∙ own.by_name) in
      let fields_are : AreOf table fields.0 own.tags = subst (λ (ts : List Tag). AreOf table fields.0 ts) tags fields.4 in
      let values = have_tokens h.modules look h.home (list_of fields.0) wanted own.tags (typed_fields h.modules look fields.0 own.tags fields_are) own.are_tags in
      let stack = joined h.modules look h.home (reverse (list_of fields.0)) top.1 (reverse wanted) parts.0 (turned h.modules look h.home (list_of fields.0) wanted values) top.4 in
      known (TurnTyped h.modules) (own_struct h k) _ own.struct own.is_found
      (known (TurnTyped h.modules) (operand h.state.top.stack) _ (top.0, top.1) (ap operand top.2)
      (known (TurnTyped h.modules) (as_fields own.struct.name top.0) _ (list_of fields.0) fields.2
      (tallies false own.struct (reverse (list_of fields.0) ++ top.1) (subst (λ (ts : Types). HaveTokens h.modules look h.home (reverse (list_of fields.0) ++ top.1) ts) (sym parts.2) stack)))))
