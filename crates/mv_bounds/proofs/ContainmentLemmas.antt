-- The graph of the structs of a module.
use Rattle.mv_bounds.proofs.Common.{[], ℕ, ◌==◌, ◌↔◌, ◌∙◌, ◌∷◌, ◌≡◌, Bool, Contains, List, None, Option, Some, ap, ap₂, arith, length, map, refl, subst, suc, sym, true, zero, and_parts}
use Rattle.mv_bounds.proofs.Common.{ltb-true, none-some, same_Some, slice_get-map, slice_get_within, unwrap_or-slice_get, list_all, slice_get, option_map, Module, StructDefinition, Field, Token}
use Rattle.mv_bounds.proofs.Common.{Plain, OfLeaf, OfStruct, InBounds, token_in, places_of, IsAcyclic, LeadsTo, directly, further, Holds}
use Rattle.std.specs.List.{cons_option}
use Rattle.mv_bound_rules.specs.Bounds.{field_in, struct_in}
use Rattle.mv_bound_rules.specs.Definitions.{directly as holds_directly, further as holds_further, defined_by}
use Rattle.mv_bounds.specs.Containment.{held_by, containment, place_of}
use Rattle.mv_bound_rules.specs.Places.{AreStructPlaces}
use Rattle.mv_bound_rules.proofs.HandleLemmas.{find-map}

module _ (m : Module) (bounds : InBounds m) (places : List (Option ℕ)) (p : AreStructPlaces m places) where
  -- a type's place is its definition's
  place_same : (t : Token) → token_in m t ≡ true → place_of places t ≡ defined_by m t
  place_same (Plain (OfLeaf k)) inside = refl
  place_same (Plain (OfStruct h)) inside =
      unwrap_or-slice_get places h None ∙ p.each h (ltb-true h (length m.struct_handles) inside)
      ∙ find-map (λ (d : StructDefinition). d.handle) (λ x. x == h) m.structs
  place_same t inside = refl

  held_same : (fields : List Field) → list_all (field_in m) fields ≡ true → places_of places fields ≡ held_by m fields
  held_same [] inside = refl
  held_same (f ∷ fields) inside =
      let parts = and_parts (field_in m f) (list_all (field_in m) fields) inside in
      ap₂ (λ o xs. cons_option o xs) (place_same f.token (and_parts _ _ parts.0).1) (held_same fields parts.1)

  all_held : (structs : List StructDefinition) → list_all (struct_in m) structs ≡ true
      → map (λ (d : StructDefinition). places_of places d.fields) structs ≡ map (λ (d : StructDefinition). held_by m d.fields) structs
  all_held [] inside = refl
  all_held (d ∷ structs) inside =
      let parts = and_parts (struct_in m d) (list_all (struct_in m) structs) inside in
      ap₂ (λ (x : List ℕ) xs. x ∷ xs) (held_same d.fields (and_parts _ _ parts.0).1) (all_held structs parts.1)

  pub containment_is : (graph : List (List ℕ)) → graph ≡ map (λ (d : StructDefinition). places_of places d.fields) m.structs → graph ≡ containment m
  containment_is graph is = is ∙ all_held m.structs bounds.structs

-- a field's struct is among those that are held
cons_contains : (o : Option ℕ) (xs : List ℕ) (j : ℕ) → Contains xs j → Contains (cons_option o xs) j
cons_contains None xs j has = has
cons_contains (Some i) xs j (k, low, here) = (suc k, omega (arith, low), here)

cons_first : (o : Option ℕ) (xs : List ℕ) (j : ℕ) → o ≡ Some j → Contains (cons_option o xs) j
cons_first None xs j e = absurd (none-some j e)
cons_first (Some i) xs j e = (0, omega arith, same_Some i j e)

pub held_contains : (m : Module) (fields : List Field) (f : Field) (j : ℕ) → Contains fields f → defined_by m f.token ≡ Some j → Contains (held_by m fields) j
held_contains m [] f j (k, low, here) named = absurd (omega (arith, low))
held_contains m (g ∷ fields) f j (zero, low, here) named =
    cons_first (defined_by m g.token) (held_by m fields) j (ap (λ (x : Field). defined_by m x.token) here ∙ named)
held_contains m (g ∷ fields) f j (suc k, low, here) named =
    cons_contains (defined_by m g.token) (held_by m fields) j (held_contains m fields f j (k, omega (arith, low), here) named)

-- what is held is a field's struct
cons_cases : {P : Type 0} (o : Option ℕ) (xs : List ℕ) (j : ℕ) → Contains (cons_option o xs) j → (o ≡ Some j → P) → (Contains xs j → P) → P
cons_cases None xs j has first others = others has
cons_cases (Some i) xs j (zero, low, here) first others = first (ap (λ k. Some k) here)
cons_cases (Some i) xs j (suc k, low, here) first others = others (k, omega (arith, low), here)

pub record IsHeld (m : Module) (fields : List Field) (j : ℕ) : Type 0 where
  pub field : Field
  pub has : Contains fields field
  pub named : defined_by m field.token ≡ Some j

later_field : (m : Module) (g : Field) (fields : List Field) (j : ℕ) → IsHeld m fields j → IsHeld m (g ∷ fields) j
later_field m g fields j h = by_place h.has
  where
    by_place : Contains fields h.field → IsHeld m (g ∷ fields) j
    by_place (k, low, here) = record { field = h.field; has = (suc k, omega (arith, low), here); named = h.named }

pub held_from : (m : Module) (fields : List Field) (j : ℕ) → Contains (held_by m fields) j → IsHeld m fields j
held_from m [] j (k, low, here) = absurd (omega (arith, low))
held_from m (g ∷ fields) j has =
    cons_cases (defined_by m g.token) (held_by m fields) j has
    (λ named. record { field = g; has = (0, omega arith, refl); named = named })
    (λ rest. later_field m g fields j (held_from m fields j rest))

-- chains of fields are chains of edges
pub leads_from_holds : (m : Module) (i j : ℕ) → Holds m i j → LeadsTo (containment m) i j
leads_from_holds m i j (holds_directly i' j' d f at has named) =
    directly i j (held_by m d.fields) (slice_get-map (λ (d : StructDefinition). held_by m d.fields) m.structs i ∙ ap (option_map (λ (d : StructDefinition). held_by m d.fields)) at) (held_contains m d.fields f j has named)
leads_from_holds m i k (holds_further i' j k' first others) =
    further i j k (leads_from_holds m i j first) (leads_from_holds m j k others)

pub holds_from_leads : (m : Module) (i j : ℕ) → LeadsTo (containment m) i j → Holds m i j
holds_from_leads m i j (directly i' j' s at has) =
    by_struct (slice_get m.structs i) refl (sym (slice_get-map (λ (d : StructDefinition). held_by m d.fields) m.structs i) ∙ at)
  where
    by_struct : (o : Option StructDefinition) → slice_get m.structs i ≡ o → option_map (λ (d : StructDefinition). held_by m d.fields) o ≡ Some s → Holds m i j
    by_struct None e named = absurd (none-some s named)
    by_struct (Some d) e named =
        let h = held_from m d.fields j (subst (λ (xs : List ℕ). Contains xs j) (sym (same_Some (held_by m d.fields) s named)) has) in
        holds_directly i j d h.field e h.has h.named
holds_from_leads m i k (further i' j k' first others) =
    holds_further i j k (holds_from_leads m i j first) (holds_from_leads m j k others)

pub finite_from_acyclic : (m : Module) (b : Bool) (graph : List (List ℕ)) → graph ≡ containment m → (b ≡ true) ↔ IsAcyclic graph → (b ≡ true) ↔ ((i : ℕ) → Holds m i i → ⊥)
finite_from_acyclic m b graph is both =
    let same = subst (λ (g : List (List ℕ)). (b ≡ true) ↔ IsAcyclic g) is both in
    ((λ h i chain. same.0 h i (leads_from_holds m i i chain)), (λ never. same.1 (λ i chain. never i (holds_from_leads m i i chain))))

-- where there is no struct, none holds another one
pub nothing_held : (m : Module) (i j : ℕ) → length m.structs ≡ 0 → Holds m i j → ⊥
nothing_held m i j none (holds_directly i' j' d f at has named) = omega (arith, slice_get_within m.structs i d at, none)
nothing_held m i k none (holds_further i' j k' first others) = nothing_held m i j none first
