-- The structs of a module that have key, as they are found one after the other.
use Rattle.mv_saved_text.proofs.Common.{[], ◌++◌, ◌+◌, ◌<◌, ◌∙◌, ◌∷◌, ◌≡◌, ◌≤◌, Bool, List, Some, ap, append-nil, append_assoc, ap₂, cond, false, get_or, length, map, refl, subst, sym, take, true}
use Rattle.mv_saved_text.proofs.Common.{zero-add, ℕ, map-append, take_all, filter_more, get_or-enumerate_from, length-enumerate_from, get_or_from_slice_get, enumerate_from, filter, option_map_or}
use Rattle.mv_saved_text.proofs.Common.{slice_get, Module, StructDefinition, Definition, element_at, structs_in, keyed_at, has_key}
use Rattle.mv_interface.specs.Shapes.{is_keyed}

module _ (m : Module) (place : ℕ) where
  -- the struct at an index
  abbrev definition : ℕ → Definition
  definition i = record { place = place; index = i }

  -- the first so many structs that have key
  abbrev pub keyed_before : ℕ → List Definition
  keyed_before i = map definition (map (λ p. p.0) (filter (λ p. has_key m p.1) (take i (enumerate_from 0 m.structs))))

  pub keyed-first : (old : List Definition) → old ≡ old ++ keyed_before 0
  keyed-first old = sym (append-nil old)

  -- one more struct
  keyed-next : (i : ℕ) (d : StructDefinition) → slice_get m.structs i ≡ Some d → i < length m.structs → keyed_before (i + 1) ≡ keyed_before i ++ cond (has_key m d) (definition i ∷ []) []
  keyed-next i d at lt =
      let here : get_or (enumerate_from 0 m.structs) i (0, d) ≡ (i, d) =
      get_or-enumerate_from 0 m.structs i (0, d) lt ∙ ap₂ (λ (n : ℕ) (x : StructDefinition). pair n x) (zero-add i) (get_or_from_slice_get m.structs i d d at) in
      let front = filter (λ p. has_key m p.1) (take i (enumerate_from 0 m.structs)) in
      ap (λ ps. map definition (map (λ p. p.0) ps)) (filter_more (λ p. has_key m p.1) (enumerate_from 0 m.structs) i (0, d) (subst (λ (n : ℕ). i < n) (sym (length-enumerate_from 0 m.structs)) lt))
      ∙ ap (λ (p : ℕ × StructDefinition). map definition (map (λ q. q.0) (front ++ cond (has_key m p.1) (p ∷ []) []))) here
      ∙ ap (map definition) (map-append (λ (p : ℕ × StructDefinition). p.0) front (cond (has_key m d) (pair i d ∷ []) []))
      ∙ map-append definition (map (λ (p : ℕ × StructDefinition). p.0) front) (map (λ (p : ℕ × StructDefinition). p.0) (cond (has_key m d) (pair i d ∷ []) []))
      ∙ ap (λ ys. keyed_before i ++ ys) (chosen (has_key m d))
    where
      pair : ℕ → StructDefinition → ℕ × StructDefinition
      pair n x = (n, x)

      chosen : (t : Bool) → map definition (map (λ q. q.0) (cond t (pair i d ∷ []) [])) ≡ cond t (definition i ∷ []) []
      chosen true = refl
      chosen false = refl

  -- all of them
  pub keyed-all : (old after : List Definition) (i : ℕ) → length m.structs ≤ i → after ≡ old ++ keyed_before i → after ≡ old ++ keyed_at place m
  keyed-all old after i le so_far =
      so_far
      ∙ ap (λ (ps : List (ℕ × StructDefinition)). old ++ map definition (map (λ p. p.0) (filter (λ p. has_key m p.1) ps)))
      (take_all i (enumerate_from 0 m.structs) (subst (λ (n : ℕ). n ≤ i) (sym (length-enumerate_from 0 m.structs)) le))

-- how many structs a module at a place defines
pub structs-of : (modules : List Module) (m : Module) (place : ℕ) → slice_get modules place ≡ Some m → structs_in modules place ≡ length m.structs
structs-of modules m place at = ap (λ o. option_map_or (λ (m : Module). length m.structs) o 0) at

module _ (modules : List Module) (m : Module) (place : ℕ) (home : slice_get modules place ≡ Some m) (old : List Definition) (i : ℕ) (b : Bool) (lt : i < length m.structs)
    (is : b ≡ is_keyed modules (definition m place i)) where
  next : keyed_before m place (i + 1) ≡ keyed_before m place i ++ cond b (definition m place i ∷ []) []
  next =
      let d = element_at m.structs i lt in
      let key : b ≡ has_key m d.0 =
      is ∙ ap (λ o. option_map_or (λ (n : Module). option_map_or (has_key n) (slice_get n.structs i) false) o false) home ∙ ap (λ o. option_map_or (has_key m) o false) d.1 in
      keyed-next m place i d.0 d.1 lt ∙ ap (λ t. keyed_before m place i ++ cond t (definition m place i ∷ []) []) (sym key)

  -- one that has key
  pub keyed-found : (before after : List Definition) → b ≡ true → before ≡ old ++ keyed_before m place i → after ≡ before ++ definition m place i ∷ [] → after ≡ old ++ keyed_before m place (i + 1)
  keyed-found before after passes so_far added =
      let d : Definition = definition m place i in
      added ∙ ap (λ l. l ++ d ∷ []) so_far ∙ append_assoc old (keyed_before m place i) (d ∷ [])
      ∙ ap (λ l. old ++ l) (ap (λ (t : Bool). keyed_before m place i ++ cond t (d ∷ []) []) (sym passes) ∙ sym next)

  -- one that has not
  pub keyed-passed : (before : List Definition) → b ≡ false → before ≡ old ++ keyed_before m place i → before ≡ old ++ keyed_before m place (i + 1)
  keyed-passed before fails so_far =
      let d : Definition = definition m place i in
      so_far ∙ ap (λ l. old ++ l) (sym (append-nil (keyed_before m place i)) ∙ ap (λ (t : Bool). keyed_before m place i ++ cond t (d ∷ []) []) (sym fails) ∙ sym next)
