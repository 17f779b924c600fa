-- Outlines of modules: that what is made of a module's tables is its outline, and that a function is found by its identifier.
--   outline-is, outline-none   what is made of a module whose indices are in bounds, and of one that defines nothing
--   named-place          the function that has an identifier is the one of this name
--   no-function-named    there is none of this name where none has the identifier
use Rattle.mv_interface.proofs.Common.{[], ℕ, ◌∙◌, ◌∷◌, ◌≡◌, AreEach, AreFieldNames, Field, FunctionDefinition, FunctionOutline, InBounds, IsFunctionOutline}
use Rattle.mv_interface.proofs.Common.{IsOutline, IsStructOutline, List, Module, None, Option, OutlineView, Some, StructDefinition, WellDefined, and_parts, ap, arith}
use Rattle.mv_interface.proofs.Common.{below, bytes_eq, bytes_eq-Decides, false, field_in, function_by, function_handle_in, function_kept, function_place, identifier_at, length, list_all, ltb-true, map, map-map}
use Rattle.mv_interface.proofs.Common.{name_of_function, names_by, none-some, option_map_or, outline_kept, refl, same_Some, slice_get, slice_get_within, struct_by, struct_handle_in}
use Rattle.mv_interface.proofs.Common.{struct_in, struct_kept, subst, sym, true, unwrap_or}
use Rattle.std.specs.List.{AllZip}
use Rattle.mv_bound_rules.proofs.FunctionLemmas.{handle_below}
use Rattle.mv_interface.proofs.Each.{each-mapped}
use Rattle.mv_bound_rules.proofs.Entries.{all_at, element_at}
use Rattle.mv_bound_rules.proofs.Found.{found_at}
use Rattle.mv_interface.proofs.OwnDefinitions.{function-at, function_named_so}

-- what is made of a module's tables
abbrev pub outline_by : Module → OutlineView
outline_by m = outline_kept m.identifiers (map (struct_by m) m.structs) (map names_by m.structs) (map (function_by m) m.functions)

module _ (m : Module) (bounds : InBounds m) where
  -- ---- what is made of each definition

  struct-is : (i : ℕ) (d : StructDefinition) → slice_get m.structs i ≡ Some d → IsStructOutline m d (struct_kept m.identifiers (struct_by m d))
  struct-is i d at =
      let fits : struct_in m d ≡ true = all_at (struct_in m) m.structs i d bounds.structs at in
      let h = element_at m.struct_handles d.handle (ltb-true d.handle (length m.struct_handles) (and_parts (below d.handle m.struct_handles) _ fits).0) in
      let handle : struct_handle_in m h.0 ≡ true = all_at (struct_handle_in m) m.struct_handles d.handle h.0 bounds.struct_handles h.1 in
      let name = element_at m.identifiers h.0.name (ltb-true h.0.name (length m.identifiers) (and_parts _ (below h.0.name m.identifiers) handle).1) in
      record { identifier = rw (h.1, name.1) refl; abilities = rw h.1 refl }

  function-is : (i : ℕ) (d : FunctionDefinition) → slice_get m.functions i ≡ Some d → IsFunctionOutline m d (function_kept m.identifiers (function_by m d))
  function-is i d at =
      let h = element_at m.function_handles d.handle (handle_below m bounds i d at).0 in
      let handle : function_handle_in m h.0 ≡ true = all_at (function_handle_in m) m.function_handles d.handle h.0 bounds.function_handles h.1 in
      let three = and_parts _ (below h.0.results m.signatures) handle in
      let two = and_parts _ (below h.0.parameters m.signatures) three.0 in
      let name = element_at m.identifiers h.0.name (ltb-true h.0.name (length m.identifiers) (and_parts _ (below h.0.name m.identifiers) two.0).1) in
      record { identifier = rw (h.1, name.1) refl; visible = refl; entry = refl }

  names-are : (fields : List Field) → list_all (field_in m) fields ≡ true
      → AllZip (λ (f : Field) name. slice_get m.identifiers f.name ≡ Some name) fields (map (identifier_at m.identifiers) (map (λ (f : Field). f.name) fields))
  names-are [] all = tt
  names-are (f ∷ fields) all =
      let parts = and_parts (field_in m f) (list_all (field_in m) fields) all in
      let name = element_at m.identifiers f.name (ltb-true f.name (length m.identifiers) (and_parts (below f.name m.identifiers) _ parts.0).0) in
      (name.1 ∙ ap Some (sym (ap (λ o. unwrap_or o []) name.1)), names-are fields parts.1)

  fields-are : (i : ℕ) (d : StructDefinition) → slice_get m.structs i ≡ Some d → AreFieldNames m d (map (identifier_at m.identifiers) (names_by d))
  fields-are i d at = names-are d.fields (and_parts (below d.handle m.struct_handles) _ (all_at (struct_in m) m.structs i d bounds.structs at)).1

  -- ---- and of the module

  pub outline-is : IsOutline m (outline_by m)
  outline-is = record {
    structs = subst (AreEach (IsStructOutline m) m.structs) (sym (map-map (struct_kept m.identifiers) (struct_by m) m.structs))
        (each-mapped (IsStructOutline m) (λ d. struct_kept m.identifiers (struct_by m d)) m.structs struct-is);
    fields = subst (AreEach (AreFieldNames m) m.structs) (sym (map-map (map (identifier_at m.identifiers)) names_by m.structs))
        (each-mapped (AreFieldNames m) (λ d. map (identifier_at m.identifiers) (names_by d)) m.structs fields-are);
    functions = subst (AreEach (IsFunctionOutline m) m.functions) (sym (map-map (function_kept m.identifiers) (function_by m) m.functions))
        (each-mapped (IsFunctionOutline m) (λ d. function_kept m.identifiers (function_by m d)) m.functions function-is);
  }

-- that of a module that defines nothing
each-none : {A B : Type 0} (R : A → B → Type 0) (xs : List A) → xs ≡ [] → AreEach R xs []
each-none R xs none = record { len = sym (ap length none); each = λ k x y at y_at. absurd (none-some y y_at) }

pub outline-none : (m : Module) → m.structs ≡ [] → m.functions ≡ [] → IsOutline m (record { structs = []; fields = []; functions = [] })
outline-none m structs functions = record {
  structs = each-none (IsStructOutline m) m.structs structs;
  fields = each-none (AreFieldNames m) m.structs structs;
  functions = each-none (IsFunctionOutline m) m.functions functions;
}

-- the function that has an identifier is the one of this name
pub named-place : (n : Module) (functions : List FunctionOutline) (k : ℕ) (name : List ℕ) → WellDefined n → AreEach (IsFunctionOutline n) n.functions functions → (f : FunctionOutline)
    → slice_get functions k ≡ Some f → f.identifier ≡ name → function_place n name ≡ Some k
named-place n functions k name defined are f at named =
    let d = element_at n.functions k (omega (arith, slice_get_within functions k f at, are.len)) in
    let is = are.each k d.0 f d.1 at in
    function-at n defined name k d.0 d.1 (ap (λ x. option_map_or (bytes_eq name) x false) is.identifier ∙ (bytes_eq-Decides name f.identifier).1 (sym named))

-- there is none of this name where none has the identifier
pub no-function-named : (n : Module) (functions : List FunctionOutline) (name : List ℕ) → AreEach (IsFunctionOutline n) n.functions functions
    → ((k : ℕ) (f : FunctionOutline) → slice_get functions k ≡ Some f → f.identifier ≡ name → ⊥) → function_place n name ≡ None
no-function-named n functions name are none = by_place (function_place n name) refl
  where
    by_place : (o : Option ℕ) → function_place n name ≡ o → o ≡ None
    by_place None e = refl
    by_place (Some k) e =
        let d = found_at (λ d. option_map_or (bytes_eq name) (name_of_function n d) false) n.functions k e in
        let f = element_at functions k (omega (arith, slice_get_within n.functions k d.entry d.at, are.len)) in
        let named : name_of_function n d.entry ≡ Some name = function_named_so (name_of_function n d.entry) name d.passes in
        absurd (none k f.0 f.1 (same_Some f.0.identifier name (sym (are.each k d.entry f.0 d.at f.1).identifier ∙ named)))
