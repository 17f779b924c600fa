-- The tallies of a module that is published.
use Rattle.mv_ledger_state.proofs.Common.{[], ◌++◌, ◌+◌, ◌<◌, ◌∙◌, ◌∷◌, ◌≡◌, ◌≤◌, Bool, List, Option, Some, ap, append-nil, ap₂, arith, cond, false, get_or, length, map, refl, subst, suc, sym, take}
use Rattle.mv_ledger_state.proofs.Common.{true, zero-add, ℕ, cond_both, map-append, take_all, All-cons, All-nil, filter_more, get_or-enumerate_from, length-enumerate_from, first_so, second_so}
use Rattle.mv_ledger_state.proofs.Common.{enumerate_from, filter, list_all, All, IsSome, filter_map, slice_get, Module, StructDefinition, module_name, name_at, name_of_struct, StructName}
use Rattle.mv_ledger_state.proofs.Common.{is_scarce_struct, InBounds, below, field_in, struct_handle_in, struct_in, scarce_name, untouched_tally, all_at, then_found, there_below, module_there, fresh_tally}
use Rattle.mv_ledger_state.proofs.Common.{IsNamed, scarce_indices, tallied, Tally}

module _ (m : Module) where
  -- the indices of the first so many structs that are scarce
  abbrev pub scarce_before : ℕ → List ℕ
  scarce_before i = map (λ p. p.0) (filter (λ p. is_scarce_struct m p.1) (take i (enumerate_from 0 m.structs)))

  -- one more struct
  scarce-more : (i : ℕ) (ds : List StructDefinition) (d : StructDefinition) (b : Bool) → ds ≡ m.structs → i < length ds → d ≡ get_or ds i d → b ≡ is_scarce_struct m d
      → scarce_before (i + 1) ≡ scarce_before i ++ cond b (i ∷ []) []
  scarce-more i ds d b whole lt at is =
      let h : i < length m.structs = subst (λ (xs : List StructDefinition). i < length xs) whole lt in
      let here : get_or (enumerate_from 0 m.structs) i (0, d) ≡ (i, d) =
      get_or-enumerate_from 0 m.structs i (0, d) h ∙ ap₂ (λ (n : ℕ) (x : StructDefinition). pair n x) (zero-add i) (sym (at ∙ ap (λ (xs : List StructDefinition). get_or xs i d) whole)) in
      ap (map (λ p. p.0)) (filter_more (λ p. is_scarce_struct m p.1) (enumerate_from 0 m.structs) i (0, d) (subst (λ (n : ℕ). i < n) (sym (length-enumerate_from 0 m.structs)) h))
      ∙ map-append (λ (p : ℕ × StructDefinition). p.0) (filter (λ p. is_scarce_struct m p.1) (take i (enumerate_from 0 m.structs)))
      (cond (is_scarce_struct m (get_or (enumerate_from 0 m.structs) i (0, d)).1) (get_or (enumerate_from 0 m.structs) i (0, d) ∷ []) [])
      ∙ ap (λ (p : ℕ × StructDefinition). scarce_before i ++ map (λ q. q.0) (cond (is_scarce_struct m p.1) (p ∷ []) [])) here
      ∙ ap (λ ys. scarce_before i ++ ys) (chosen (is_scarce_struct m d) ∙ ap (λ t. cond t (i ∷ []) []) (sym is))
    where
      pair : ℕ → StructDefinition → ℕ × StructDefinition
      pair n x = (n, x)

      chosen : (t : Bool) → map (λ q. q.0) (cond t (pair i d ∷ []) []) ≡ cond t (i ∷ []) []
      chosen true = refl
      chosen false = refl

  -- that is scarce
  pub scarce-found : (i : ℕ) (ds : List StructDefinition) (d : StructDefinition) (b : Bool) → ds ≡ m.structs → i < length ds → d ≡ get_or ds i d → b ≡ is_scarce_struct m d → b ≡ true
      → scarce_before i ++ i ∷ [] ≡ scarce_before (i + 1)
  scarce-found i ds d b whole lt at is passes = ap (λ (t : Bool). scarce_before i ++ cond t (i ∷ []) []) (sym passes) ∙ sym (scarce-more i ds d b whole lt at is)

  -- that isn't
  pub scarce-passed : (i : ℕ) (ds : List StructDefinition) (d : StructDefinition) (b : Bool) → ds ≡ m.structs → i < length ds → d ≡ get_or ds i d → b ≡ is_scarce_struct m d → b ≡ false
      → scarce_before i ≡ scarce_before (i + 1)
  scarce-passed i ds d b whole lt at is fails =
      sym (append-nil (scarce_before i)) ∙ ap (λ (t : Bool). scarce_before i ++ cond t (i ∷ []) []) (sym fails) ∙ sym (scarce-more i ds d b whole lt at is)

  -- all of them
  pub scarce-all : (i : ℕ) (ds : List StructDefinition) → ds ≡ m.structs → length ds ≤ i → scarce_before i ≡ scarce_indices m
  scarce-all i ds whole le =
      let h : length m.structs ≤ i = subst (λ (xs : List StructDefinition). length xs ≤ i) whole le in
      ap (λ (ps : List (ℕ × StructDefinition)). map (λ p. p.0) (filter (λ p. is_scarce_struct m p.1) ps))
      (take_all i (enumerate_from 0 m.structs) (subst (λ (n : ℕ). n ≤ i) (sym (length-enumerate_from 0 m.structs)) h))

  -- a struct of the module has a name
  pub struct_there : InBounds m → (k : ℕ) (d : StructDefinition) → slice_get m.structs k ≡ Some d → (name : StructName) × (name_of_struct m d ≡ Some name)
  struct_there bounds k d e =
      let fine = all_at (struct_in m) m.structs k d bounds.structs e in
      let handle = there_below m.struct_handles d.handle (first_so (below d.handle m.struct_handles) (list_all (field_in m) d.fields) fine) in
      let fine_handle = all_at (struct_handle_in m) m.struct_handles d.handle handle.0 bounds.struct_handles handle.1 in
      let home = module_there m bounds handle.0.module (first_so (below handle.0.module m.module_handles) (below handle.0.name m.identifiers) fine_handle) in
      let name = there_below m.identifiers handle.0.name (second_so (below handle.0.module m.module_handles) (below handle.0.name m.identifiers) fine_handle) in
      let made : StructName = record { home = home.0; name = name.0 } in (
        made,
        then_found (slice_get m.struct_handles d.handle) _ handle.0 (Some made) handle.1
            (then_found (module_name m handle.0.module) _ home.0 (Some made) home.1 (then_found (slice_get m.identifiers handle.0.name) _ name.0 (Some made) name.1 refl)),
      )

  module _ (modules : List Module) (place : ℕ) where
    -- definitions have the names that are found at their indices from this one on
    abbrev pub AreThere : ℕ → List StructDefinition → Type 0
    AreThere n ds = (k : ℕ) (d : StructDefinition) → slice_get ds k ≡ Some d → (name : StructName) × (name_of_struct m d ≡ Some name) × (name_at modules place (n + k) ≡ Some name)

    next : (n : ℕ) (d : StructDefinition) (ds : List StructDefinition) → AreThere n (d ∷ ds) → AreThere (n + 1) ds
    next n d ds there k x e =
        let rest = there (suc k) x e in
        let same : n + suc k ≡ n + 1 + k = omega arith in
        (rest.0, rest.1, subst (λ (j : ℕ). name_at modules place j ≡ Some rest.0) same rest.2)

    first : (n : ℕ) (d : StructDefinition) (ds : List StructDefinition) → AreThere n (d ∷ ds) → (name : StructName) × (name_of_struct m d ≡ Some name) × (name_at modules place n ≡ Some name)
    first n d ds there =
        let here = there 0 d refl in
        let same : n + 0 ≡ n = omega arith in
        (here.0, here.1, subst (λ (j : ℕ). name_at modules place j ≡ Some here.0) same here.2)

    -- the empty tallies of the scarce ones
    abbrev pub fresh_from : ℕ → List StructDefinition → List Tally
    fresh_from n ds = map (fresh_tally place) (map (λ p. p.0) (filter (λ p. is_scarce_struct m p.1) (enumerate_from n ds)))

    -- are those of their names
    pub fresh-tallied : (n : ℕ) (ds : List StructDefinition) → AreThere n ds → map (tallied modules) (fresh_from n ds) ≡ map untouched_tally (filter_map (scarce_name m) ds)
    fresh-tallied n [] there = refl
    fresh-tallied n (d ∷ ds) there = let here = first n d ds there in grind (arith, fresh-tallied (n + 1) ds (next n d ds there), here.1, here.2)

    -- and have names
    pub fresh-named : (n : ℕ) (ds : List StructDefinition) → AreThere n ds → All (IsNamed modules) (fresh_from n ds)
    fresh-named n [] there = All-nil (IsNamed modules)
    fresh-named n (d ∷ ds) there =
        let rest = fresh-named (n + 1) ds (next n d ds there) in
        let here = All-cons (IsNamed modules) (fresh_tally place n) (fresh_from (n + 1) ds) (subst (λ (o : Option StructName). IsSome o) (sym (first n d ds there).2) refl) rest in
        let more = filter (λ (p : ℕ × StructDefinition). is_scarce_struct m p.1) (enumerate_from (n + 1) ds) in
        cond_both (is_scarce_struct m d) ((n, d) ∷ more) more (λ ps. All (IsNamed modules) (map (fresh_tally place) (map (λ (p : ℕ × StructDefinition). p.0) ps))) (λ e. here) (λ e. rest)
