-- What the store says of the own module's structs.
use Rattle.mv_soundness.proofs.Typing.Common.{◌≡◌, ℕ, true, List, [], ◌∷◌, refl, ap, subst, ◌∙◌, Option, Some, Result, Ok, Bool, map, and_from, same_Some, first_so, second_so, list_all}
use Rattle.mv_soundness.proofs.Typing.Common.{slice_get, ok_or, not, Module, struct_name, own_name, StructDefinition, definition_of, StructName, ModuleName, ◌>>◌, need, ◌>>=ᵣ◌, Tag}
use Rattle.mv_soundness.proofs.Typing.Common.{Field, StructHandle, Token, Plain, Here, OwnStruct, is_reference_tag, Faults, LinkageFault, entry, below, token_in, struct_in, field_in}
use Rattle.mv_soundness.proofs.Typing.Common.{all_at, there_below, then_found, same_module-same, token_named, tokens_named, StoreAccepted, ModuleAccepted, are_plain, may_be_field}
use Rattle.mv_soundness.proofs.{Typing.Operands.on_names, Typing.Roots.named_plain, Typing.Names.tokens_there}
use Rattle.mv_machine.specs.{Typing.linked, Step.own_struct}
use Rattle.mv_interface.proofs.OwnDefinitions.{own-definition, owns-structs}
use Rattle.mv_soundness.specs.{Typing.HasType.fields_by_name}
use Rattle.mv_soundness.proofs.{Typing.Facts.OwnFacts}

-- one part after the other
pub then_ok : {A B E : Type 0} (r : Result A E) (f : A → Result B E) (x : A) (y : B) → r ≡ Ok x → f x ≡ Ok y → (r >>=ᵣ f) ≡ Ok y
then_ok r f x y e g = ap (λ s. s >>=ᵣ f) e ∙ g

-- what the fields' types are of
pub field_tokens : (m : Module) (fs : List Field) → list_all (field_in m) fs ≡ true → list_all (token_in m) (map (λ (f : Field). f.token) fs) ≡ true
field_tokens m [] e = refl
field_tokens m (f ∷ fs) e =
    and_from _ _ (second_so (below f.name m.identifiers) (token_in m f.token) (first_so (field_in m f) (list_all (field_in m) fs) e))
    (field_tokens m fs (second_so (field_in m f) (list_all (field_in m) fs) e))

fields_plain : (m : Module) (fs : List Field) (tags : List Tag) → list_all (λ (f : Field). may_be_field f.token) fs ≡ true
    → tokens_named m (map (λ (f : Field). f.token) fs) ≡ Some tags → are_plain tags ≡ true
fields_plain m [] tags h e = subst (λ (x : List Tag). are_plain x ≡ true) (same_Some [] tags e) refl
fields_plain m (f ∷ fs) tags h e =
    on_names m f.token (map (λ (f : Field). f.token) fs) tags e (λ tag rest tag_is rest_is whole.
    let here : not (is_reference_tag tag) ≡ true = plain f.token tag (first_so (may_be_field f.token) (list_all (λ (f : Field). may_be_field f.token) fs) h) tag_is in
    let others = fields_plain m fs rest (second_so (may_be_field f.token) (list_all (λ (f : Field). may_be_field f.token) fs) h) rest_is in
    subst (λ (x : List Tag). are_plain x ≡ true) whole (and_from _ _ here others))
  where
    plain : (t : Token) (tag : Tag) → may_be_field t ≡ true → token_named m t ≡ Some tag → not (is_reference_tag tag) ≡ true
    plain (Plain u) tag p q = ap not (named_plain m u tag q)
    plain t tag p q = absurd cc

pub own_facts : (h : Here) → StoreAccepted h.modules → slice_get h.modules h.state.top.function.place ≡ Some h.home → (i : ℕ) (d : StructDefinition)
    → slice_get h.home.structs i ≡ Some d → OwnFacts h i d
unfolding own_struct fields_by_name
own_facts h store home_at i d d_at =
    let m : Module = h.home in
    let a : ModuleAccepted m = store.each h.state.top.function.place m home_at in
    let fine = all_at (struct_in m) m.structs i d a.bounds.structs d_at in
    let handle = there_below m.struct_handles d.handle (first_so (below d.handle m.struct_handles) (list_all (field_in m) d.fields) fine) in
    let stands = own-definition h.modules h.state.top.function.place m store.once home_at a.bounds a.defined i d d_at in
    let name : StructName = stands.0 in
    let own_is : own_name m ≡ Some name.home = owns-structs m a.defined i d name d_at stands.1 in
    let tags = tokens_there m a.bounds (map (λ (f : Field). f.token) d.fields) (field_tokens m d.fields (second_so (below d.handle m.struct_handles) (list_all (field_in m) d.fields) fine)) in
    let struct : OwnStruct = record { own = name.home; name = name; abilities = handle.0.abilities; fields = d.fields } in
    record {
      struct = struct;
      tags = tags.0;
      is_found =
          then_ok (entry m.structs i) _ d struct (ap (λ (x : Option StructDefinition). ok_or x (Faults LinkageFault)) d_at)
          (then_ok (entry m.struct_handles d.handle) _ handle.0 struct (ap (λ (x : Option StructHandle). ok_or x (Faults LinkageFault)) handle.1)
          (then_ok (linked (struct_name m d.handle)) _ name struct (ap (λ (x : Option StructName). ok_or x (Faults LinkageFault)) stands.1)
          (then_ok (linked (own_name m)) _ name.home struct (ap (λ (x : Option ModuleName). ok_or x (Faults LinkageFault)) own_is)
          (ap (λ (b : Bool). need b (Faults LinkageFault) >> Ok struct) (same_module-same name.home)))));
      fields = refl;
      is_named = stands.1;
      abilities = then_found (slice_get m.struct_handles d.handle) _ handle.0 (Some handle.0.abilities) handle.1 refl;
      are_tags = tags.1;
      by_name = then_found (definition_of h.modules name) _ (m, d.fields) (Some tags.0) stands.2 tags.1;
      plain = fields_plain m d.fields tags.0 (all_at (λ (d : StructDefinition). list_all (λ f. may_be_field f.token) d.fields) m.structs i d a.signed.fields d_at) tags.1;
      key = then_found (slice_get h.modules h.state.top.function.place) _ m (Some name) home_at (then_found (slice_get m.structs i) _ d (Some name) d_at stands.1);
    }
