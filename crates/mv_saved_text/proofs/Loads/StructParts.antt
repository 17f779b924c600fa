-- What is made of a struct's fields, found by its name: the definition, the name and the fields' types that a value of the struct goes by.
use Rattle.mv_saved_text.proofs.Common.{◌≡◌, Bool, List, Option, Some, subst, true, false, ℕ, and_from, first_so, second_so, option_map_or, ◌>>=◌, Module, struct_name, definition_of, StructName, same_struct}
use Rattle.mv_saved_text.proofs.Common.{Field, Plain, OfStruct, on_bind, on_found, are_of_types, is_of_struct, is_of_type, Struct, Values, same_struct-is}

module _ {A P : Type 0} (modules : List Module) (made : Module × List Field → Option A) where
  -- of a value of the struct of a name
  pub on_struct : (name own : StructName) (fields : Values) (x : A) → (definition_of modules name >>= made) ≡ Some x → is_of_struct modules name (Struct own fields) ≡ true
      → ((d : Module × List Field) → definition_of modules name ≡ Some d → name ≡ own → made d ≡ Some x → are_of_types modules d.0 d.1 fields ≡ true → P) → P
  on_struct name own fields x e h go =
      let fits : Option (Module × List Field) → Bool = λ o. option_map_or (λ (d : Module × List Field). are_of_types modules d.0 d.1 fields) o false in
      let typed = fits (definition_of modules own) in
      let one : name ≡ own = same_struct-is name own (first_so (same_struct name own) typed h) in
      on_bind (definition_of modules name) made x e (λ d d_is is.
      let found : definition_of modules own ≡ Some d = subst (λ (n : StructName). definition_of modules n ≡ Some d) one d_is in
      go d d_is one is (subst (λ (o : Option (Module × List Field)). fits o ≡ true) found (second_so (same_struct name own) typed h)))

  -- of a field of the struct that a handle names
  pub on_struct_field : (m : Module) (h : ℕ) (name : StructName) (fields : Values) (x : A) → (struct_name m h >>= λ own. definition_of modules own >>= made) ≡ Some x
      → is_of_type modules m (Plain (OfStruct h)) (Struct name fields) ≡ true
      → ((own : StructName) (d : Module × List Field) → struct_name m h ≡ Some own → definition_of modules own ≡ Some d → own ≡ name → made d ≡ Some x
      → are_of_types modules d.0 d.1 fields ≡ true → P) → P
  on_struct_field m h name fields x e typed go =
      let named = option_map_or (λ (own : StructName). same_struct own name) (struct_name m h) false in
      let fit = option_map_or (λ (d : Module × List Field). are_of_types modules d.0 d.1 fields) (definition_of modules name) false in
      on_found (λ own. same_struct own name) (struct_name m h) (first_so named fit typed) (λ own own_is is_name.
      on_struct own name fields x (subst (λ (o : Option StructName). (o >>= λ own. definition_of modules own >>= made) ≡ Some x) own_is e)
      (and_from (same_struct own name) fit is_name (second_so named fit typed)) (λ d. go own d own_is))
