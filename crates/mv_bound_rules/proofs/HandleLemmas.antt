-- The first definition of each handle.
use Rattle.mv_bound_rules.proofs.Common.{[], ℕ, ◌+◌, ◌<◌, ◌==◌, ◌∙◌, ◌∷◌, ◌≡◌, ◌≤◌, Bool, IfSome, List, None, Option, Some, ap, arith, cond, eq-eqb, false, get_or, get_or-set_other}
use Rattle.mv_bound_rules.proofs.Common.{get_or-set_same, inl, inr, length, length-set, map, ne_eqb, refl, set, suc, sym, take, true, and_parts, cases_eq, cases_lt, ltb-true}
use Rattle.mv_bound_rules.proofs.Common.{list_all, option_map, FunctionDefinition, Module, find_index, InBounds, function_in, ArePlaces}
use Rattle.std.proofs.lemmas.List.{get_or_past}
use Rattle.mv_bound_rules.specs.Places.{AreFunctionPlaces}
use Rattle.mv_bound_rules.proofs.PlaceLemmas.{find-none, find-here, find-kept}
use Rattle.mv_bound_rules.proofs.Entries.{place_below}

-- whether a definition is a handle's
abbrev is_of : ℕ → ℕ → Bool
is_of h d = d == h

-- what a definition of another handle changes of a handle's first one: nothing
find-other : (defined : List ℕ) (i d h : ℕ) → i < length defined → d ≡ get_or defined i d → (d ≡ h → ⊥) → find_index (is_of h) (take i defined) ≡ find_index (is_of h) (take (i + 1) defined)
find-other defined i d h low is ne = by_found (find_index (is_of h) (take i defined)) refl
  where
    by_found : (o : Option ℕ) → find_index (is_of h) (take i defined) ≡ o → find_index (is_of h) (take i defined) ≡ find_index (is_of h) (take (i + 1) defined)
    by_found None e = e ∙ sym (find-none (is_of h) defined i d low is e (ne_eqb _ _ ne))
    by_found (Some k) e = e ∙ sym (find-kept (is_of h) defined i k e)

-- a definition that is the first of its handle
pub places_new : (defined : List ℕ) (n i : ℕ) (places after : List (Option ℕ)) (at : ℕ) → ArePlaces (take i defined) n places → i < length defined
    → at ≡ get_or defined i at → at < n → get_or places at None ≡ None → after ≡ set places at (Some i) → ArePlaces (take (i + 1) defined) n after
places_new defined n i places after at p low is inside free wrote =
    record {
      len = ap length wrote ∙ length-set places at (Some i) ∙ p.len;
      each = λ h l. elim (cases_eq h at) [
        | inl e ↦
            ap (λ (xs : List (Option ℕ)). get_or xs h None) wrote ∙ ap (λ j. get_or (set places at (Some i)) j None) e ∙ get_or-set_same places at (Some i) None (omega (arith, inside, p.len))
            ∙ sym (find-here (is_of h) defined i at low is (sym (p.each h l) ∙ ap (λ j. get_or places j None) e ∙ free) (eq-eqb _ _ (sym e)))
        | inr ne ↦
            ap (λ (xs : List (Option ℕ)). get_or xs h None) wrote ∙ get_or-set_other places at h (Some i) None ne ∙ p.each h l ∙ find-other defined i at h low is (λ e. ne (sym e))
      ];
    }

-- a definition whose handle has one before, or is none
pub places_kept : (defined : List ℕ) (n i : ℕ) (places after : List (Option ℕ)) (at : ℕ) → ArePlaces (take i defined) n places → i < length defined
    → at ≡ get_or defined i at → (at < n → (k : ℕ) × (get_or places at None ≡ Some k)) → after ≡ places → ArePlaces (take (i + 1) defined) n after
places_kept defined n i places after at p low is taken kept =
    record {
      len = ap length kept ∙ p.len;
      each = λ h l. ap (λ (xs : List (Option ℕ)). get_or xs h None) kept ∙ p.each h l ∙ elim (cases_eq h at) [
        | inl e ↦
            let had = taken (omega (arith, l, e)) in
            let found : find_index (is_of h) (take i defined) ≡ Some had.0 = sym (p.each h l) ∙ ap (λ j. get_or places j None) e ∙ had.1 in
            found ∙ sym (find-kept (is_of h) defined i had.0 found)
        | inr ne ↦ find-other defined i at h low is (λ e. ne (sym e))
      ];
    }

-- a place that is not free
pub some_place : (o : Option ℕ) → (o ≡ None → ⊥) → (k : ℕ) × (o ≡ Some k)
some_place None ne = absurd (ne refl)
some_place (Some k) ne = (k, refl)

-- what is found among what entries are made into
pub find-map : {A B : Type 0} (f : A → B) (p : B → Bool) (xs : List A) → find_index p (map f xs) ≡ find_index (λ x. p (f x)) xs
find-map f p [] = refl
find-map f p (x ∷ xs) = ap (λ o. cond (p (f x)) (Some 0) (option_map suc o)) (find-map f p xs)

pub found-below : {A : Type 0} (p : A → Bool) (xs : List A) (o : Option ℕ) → o ≡ find_index p xs → IfSome o (λ k. k < length xs)
found-below p xs None e = tt
found-below p xs (Some k) e = place_below p xs k (sym e)

-- a handle past the table defines no function
find-past : (m : Module) (h : ℕ) → length m.function_handles ≤ h → (ds : List FunctionDefinition) → list_all (function_in m) ds ≡ true
    → find_index (λ (d : FunctionDefinition). d.handle == h) ds ≡ None
find-past m h past [] inside = refl
find-past m h past (d ∷ ds) inside =
    let all = and_parts (function_in m d) (list_all (function_in m) ds) inside in
    let three = and_parts _ _ all.0 in
    let two = and_parts _ _ three.0 in
    let one = and_parts _ _ two.0 in
    let low : d.handle < length m.function_handles = ltb-true _ _ one.0 in
    let other : (d.handle == h) ≡ false = ne_eqb _ _ (λ e. omega (arith, low, past, e)) in
    ap (λ b. cond b (Some 0) (option_map suc (find_index (λ (d : FunctionDefinition). d.handle == h) ds))) other ∙ ap (option_map suc) (find-past m h past ds all.1)

-- the table leads from each handle to the function that it defines
pub function_at : (m : Module) → InBounds m → (places : List (Option ℕ)) → AreFunctionPlaces m places
    → (h : ℕ) → get_or places h None ≡ find_index (λ (d : FunctionDefinition). d.handle == h) m.functions
function_at m bounds places p h = elim (cases_lt h (length m.function_handles)) [
  | inl low ↦ p.each h low ∙ find-map (λ (d : FunctionDefinition). d.handle) (is_of h) m.functions
  | inr past ↦ get_or_past places h None (omega (arith, past, p.len)) ∙ sym (find-past m h past m.functions bounds.functions)
]
