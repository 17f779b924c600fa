-- A search by names finds what an outline has.
--   struct-found, function-found   what a search finds among the names is a struct, or a function, of the outline
use Rattle.mv_interface.proofs.Common.{ℕ, ◌<◌, ◌∙◌, ◌≡◌, ◌≤◌, IfSome, List, None, Option, Some, ap, map, none-some, option_map, refl, same_Some, slice_get, slice_get-map, slice_get_within, sym, arith, length}
use Rattle.std.specs.Prelude.{MatchOption}
use Rattle.mv_interface.specs.ByName.{names_at}
use Rattle.mv_interface.specs.Outline.{FunctionOutline, IsFunctionNamed, IsStructNamed, OutlineView, StructOutline, function_kept, identifier_at, outline_kept, struct_kept}
use Rattle.mv_interface.specs.declared.outline.FunctionEntry.{FunctionEntry}
use Rattle.mv_interface.specs.declared.outline.StructEntry.{StructEntry}

module _ {E V : Type 0} (identifiers : List (List ℕ)) (of : E → ℕ) (made : E → V) (name_of : V → List ℕ) (same : (e : E) → name_of (made e) ≡ identifier_at identifiers (of e)) where
  -- the entry of a name
  named-entry : (entries : List E) (k : ℕ) (name : List ℕ) → slice_get (names_at identifiers (map of entries)) k ≡ Some name → (v : V) × (slice_get (map made entries) k ≡ Some v) × (name_of v ≡ name)
  named-entry entries k name e = by_entry (slice_get entries k) refl
    where
      read : slice_get (names_at identifiers (map of entries)) k ≡ option_map (identifier_at identifiers) (option_map of (slice_get entries k))
      read = slice_get-map (identifier_at identifiers) (map of entries) k ∙ ap (option_map (identifier_at identifiers)) (slice_get-map of entries k)

      by_entry : (o : Option E) → slice_get entries k ≡ o → (v : V) × (slice_get (map made entries) k ≡ Some v) × (name_of v ≡ name)
      by_entry None at = absurd (none-some name (sym (ap (λ x. option_map (identifier_at identifiers) (option_map of x)) at) ∙ sym read ∙ e))
      by_entry (Some x) at =
          let is : Some (identifier_at identifiers (of x)) ≡ Some name = sym (ap (λ y. option_map (identifier_at identifiers) (option_map of y)) at) ∙ sym read ∙ e in
          (made x, slice_get-map made entries k ∙ ap (option_map made) at, same x ∙ same_Some (identifier_at identifiers (of x)) name is)

  -- and the other way round
  entry-named : (entries : List E) (k : ℕ) (name : List ℕ) (v : V) → slice_get (map made entries) k ≡ Some v → name_of v ≡ name → slice_get (names_at identifiers (map of entries)) k ≡ Some name
  entry-named entries k name v e is = by_entry (slice_get entries k) refl
    where
      by_entry : (o : Option E) → slice_get entries k ≡ o → slice_get (names_at identifiers (map of entries)) k ≡ Some name
      by_entry None at = absurd (none-some v (sym (ap (option_map made) at) ∙ sym (slice_get-map made entries k) ∙ e))
      by_entry (Some x) at =
          let one : made x ≡ v = same_Some (made x) v (sym (ap (option_map made) at) ∙ sym (slice_get-map made entries k) ∙ e) in
          slice_get-map (identifier_at identifiers) (map of entries) k ∙ ap (option_map (identifier_at identifiers)) (slice_get-map of entries k ∙ ap (option_map of) at)
          ∙ ap (λ n. Some n) (sym (same x) ∙ ap name_of one ∙ is)

module _ (identifiers : List (List ℕ)) (structs : List StructEntry) (fields : List (List ℕ)) (functions : List FunctionEntry) (name : List ℕ) where
  abbrev outline : OutlineView
  outline = outline_kept identifiers structs fields functions

  pub struct-found : (o : Option ℕ)
      → MatchOption o ((k : ℕ) → slice_get (names_at identifiers (map (λ (s : StructEntry). s.identifier) structs)) k ≡ Some name → ⊥) (λ k. slice_get (names_at identifiers (map (λ (s : StructEntry). s.identifier) structs)) k ≡ Some name)
      → MatchOption o ((k : ℕ) → IsStructNamed outline k name → ⊥) (λ k. IsStructNamed outline k name)
  struct-found None never =
      λ k s. never k (entry-named identifiers (λ (s : StructEntry). s.identifier) (struct_kept identifiers) (λ (v : StructOutline). v.identifier) (λ e. refl) structs k name s.entry s.there s.named)
  struct-found (Some k) at =
      let v = named-entry identifiers (λ (s : StructEntry). s.identifier) (struct_kept identifiers) (λ (v : StructOutline). v.identifier) (λ e. refl) structs k name at in
      record { entry = v.0; there = v.1; named = v.2 }

  pub function-found : (o : Option ℕ)
      → MatchOption o ((k : ℕ) → slice_get (names_at identifiers (map (λ (f : FunctionEntry). f.identifier) functions)) k ≡ Some name → ⊥) (λ k. slice_get (names_at identifiers (map (λ (f : FunctionEntry). f.identifier) functions)) k ≡ Some name)
      → MatchOption o ((k : ℕ) → IsFunctionNamed outline k name → ⊥) (λ k. IsFunctionNamed outline k name)
  function-found None never =
      λ k s. never k (entry-named identifiers (λ (f : FunctionEntry). f.identifier) (function_kept identifiers) (λ (v : FunctionOutline). v.identifier) (λ e. refl) functions k name s.entry s.there s.named)
  function-found (Some k) at =
      let v = named-entry identifiers (λ (f : FunctionEntry). f.identifier) (function_kept identifiers) (λ (v : FunctionOutline). v.identifier) (λ e. refl) functions k name at in
      record { entry = v.0; there = v.1; named = v.2 }

-- the index of a function is low
pub function-low : (v : OutlineView) (name : List ℕ) (o : Option ℕ) → length v.functions ≤ 256 → MatchOption o ((k : ℕ) → IsFunctionNamed v k name → ⊥) (λ k. IsFunctionNamed v k name) → IfSome o (λ k. k < 256)
function-low v name None few found = tt
function-low v name (Some k) few found = let low = slice_get_within v.functions k found.entry found.there in omega (arith, low, few)
