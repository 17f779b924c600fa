-- A store with its tallies: each tally has a name, and they are those of the scarce structs. A run adds to them,
-- which keeps that.
use Rattle.mv_ledger_state.proofs.Common.{[], ◌++◌, ◌+◌, ◌∙◌, ◌∷◌, ◌≡◌, List, Some, ap, ap₂, arith, get_or, length, map, refl, subst, suc, sym, zero-add, ℕ, length-map, map-append}
use Rattle.mv_ledger_state.proofs.Common.{All-append, All-nil, All, IsSome, filter_map, slice_get, unwrap_or, Module, name_at, StructName, PublishedModule, InBounds, StructTally, scarce_name, scarce_structs}
use Rattle.mv_ledger_state.proofs.Common.{untouched_tally, Tallied, then_found, IsPublishable, IsStore, tables_in, All-at, nameless, fresh_tally, tally_after, ArePlaced, AreScarce}
use Rattle.mv_ledger_state.proofs.Common.{IsNamed, IsTalliedStore, all_of, scarce_indices, mapped-at, tallied, Tally}
use Rattle.mv_ledger_state.proofs.Bundles.TalliesFresh.{struct_there, fresh-tallied, fresh-named, AreThere}
use Rattle.mv_ledger_state.proofs.Runs.ScarceTallies.{All-back}
use Rattle.mv_ledger_state.proofs.Runs.TalliesAfter.{map-where, map-then, scarce-after}
use Rattle.mv_ledger_state.proofs.Runs.TalliesByModule.{placed-after}

pub map-same : {A B : Type 0} (f : A → B) (g : B → A) → ((x : A) → g (f x) ≡ x) → (xs : List A) → map g (map f xs) ≡ xs
map-same f g back [] = refl
map-same f g back (x ∷ xs) = ap₂ (λ y ys. y ∷ ys) (back x) (map-same f g back xs)

-- ---- a module of a store

module _ (new : List PublishedModule) (store : IsStore new) where
  -- the name of the struct at a place and an index
  abbrev pub name_of : ℕ → ℕ → StructName
  name_of place x = unwrap_or (name_at (tables_in new) place x) nameless

  module _ (place : ℕ) (m : Module) (at : slice_get (tables_in new) place ≡ Some m) where
    bounds : InBounds m
    bounds =
        let p = mapped-at (λ (p : PublishedModule). p.tables) new place m at in
        let passed : IsPublishable p.0 = All-at IsPublishable new place p.0 store.passed p.1 in
        subst InBounds p.2 passed.sound.bounds

    there : AreThere m (tables_in new) place 0 m.structs
    there k d e =
        let name = struct_there m bounds k d e in (
          name.0,
          name.1,
          subst (λ (j : ℕ). name_at (tables_in new) place j ≡ Some name.0) (sym (zero-add k))
              (then_found (slice_get (tables_in new) place) _ m (Some name.0) at (then_found (slice_get m.structs k) _ d (Some name.0) e name.1)),
        )

    -- its scarce structs' names by their indices
    pub names-are : filter_map (scarce_name m) m.structs ≡ map (name_of place) (scarce_indices m)
    names-are =
        sym (map-same untouched_tally (λ (t : Tallied). t.struct) (λ s. refl) (filter_map (scarce_name m) m.structs))
        ∙ ap (map (λ (t : Tallied). t.struct)) (sym (fresh-tallied m (tables_in new) place 0 m.structs there))
        ∙ map-then (tallied (tables_in new)) (λ (t : Tallied). t.struct) (map (fresh_tally place) (scarce_indices m))
        ∙ map-then (fresh_tally place) (λ (t : Tally). (tallied (tables_in new) t).struct) (scarce_indices m)

    pub all-named : All (λ (x : ℕ). IsSome (name_at (tables_in new) place x)) (scarce_indices m)
    all-named = All-back (IsNamed (tables_in new)) (fresh_tally place) (scarce_indices m) (fresh-named m (tables_in new) place 0 m.structs there)

    module _ (ts : List Tally) (placed : All (λ t. t.place ≡ place) ts) (scarce : map (λ (t : Tally). t.index) ts ≡ scarce_indices m) where
      -- so its tallies have names
      named-at : All (IsNamed (tables_in new)) ts
      named-at = λ k d lt. subst (λ (p : ℕ). IsSome (name_at (tables_in new) p (get_or ts k d).index)) (sym (placed k d lt)) (each k d lt)
        where
          each : All (λ t. IsSome (name_at (tables_in new) place t.index)) ts
          each = All-back (λ (x : ℕ). IsSome (name_at (tables_in new) place x)) (λ (t : Tally). t.index) ts
              (subst (λ (xs : List ℕ). All (λ (x : ℕ). IsSome (name_at (tables_in new) place x)) xs) (sym scarce) all-named)

      -- those of its scarce structs
      structs-at : map (λ (t : Tallied). t.struct) (map (tallied (tables_in new)) ts) ≡ filter_map (scarce_name m) m.structs
      structs-at =
          map-then (tallied (tables_in new)) (λ (t : Tallied). t.struct) ts
          ∙ map-where (λ t. t.place ≡ place) (λ (t : Tally). name_of t.place t.index) (λ (t : Tally). name_of place t.index) (λ t at. ap (λ (p : ℕ). name_of p t.index) at) ts placed
          ∙ sym (map-then (λ (t : Tally). t.index) (name_of place) ts) ∙ ap (map (name_of place)) scarce ∙ sym names-are

  -- these modules stand from this place on
  abbrev pub StandFrom : ℕ → List Module → Type 0
  StandFrom place ms = (i : ℕ) (m : Module) → slice_get ms i ≡ Some m → slice_get (tables_in new) (place + i) ≡ Some m

  pub head-at : (place : ℕ) (m : Module) (ms : List Module) → StandFrom place (m ∷ ms) → slice_get (tables_in new) place ≡ Some m
  head-at place m ms at = let same : place + 0 ≡ place = omega arith in subst (λ (k : ℕ). slice_get (tables_in new) k ≡ Some m) same (at 0 m refl)

  pub tail-at : (place : ℕ) (m : Module) (ms : List Module) → StandFrom place (m ∷ ms) → StandFrom (place + 1) ms
  tail-at place m ms at i k e = let same : place + suc i ≡ place + 1 + i = omega arith in subst (λ (j : ℕ). slice_get (tables_in new) j ≡ Some k) same (at (suc i) k e)

  pub all-stand : StandFrom 0 (tables_in new)
  all-stand i m e = subst (λ (k : ℕ). slice_get (tables_in new) k ≡ Some m) (sym (zero-add i)) e

  named-from : (place : ℕ) (ms : List Module) (tss : List (List Tally)) → StandFrom place ms → AreScarce ms tss → ArePlaced place tss → All (IsNamed (tables_in new)) (all_of tss)
  named-from place [] [] stand scarce placed = All-nil (IsNamed (tables_in new))
  named-from place (m ∷ ms) (ts ∷ tss) stand scarce placed =
      All-append (IsNamed (tables_in new)) ts (all_of tss) (named-at place m (head-at place m ms stand) ts placed.0 scarce.0)
      (named-from (place + 1) ms tss (tail-at place m ms stand) scarce.1 placed.1)
  named-from _ _ _ _ scarce _ = absurd scarce

  structs-from : (place : ℕ) (ms : List Module) (tss : List (List Tally)) → StandFrom place ms → AreScarce ms tss → ArePlaced place tss
      → map (λ (t : Tallied). t.struct) (map (tallied (tables_in new)) (all_of tss)) ≡ scarce_structs ms
  structs-from place [] [] stand scarce placed = refl
  structs-from place (m ∷ ms) (ts ∷ tss) stand scarce placed =
      ap (map (λ (t : Tallied). t.struct)) (map-append (tallied (tables_in new)) ts (all_of tss))
      ∙ map-append (λ (t : Tallied). t.struct) (map (tallied (tables_in new)) ts) (map (tallied (tables_in new)) (all_of tss))
      ∙ ap₂ (λ (xs ys : List StructName). xs ++ ys) (structs-at place m (head-at place m ms stand) ts placed.0 scarce.0) (structs-from (place + 1) ms tss (tail-at place m ms stand) scarce.1 placed.1)
  structs-from _ _ _ _ scarce _ = absurd scarce

-- each module has one list of tallies
scarce-long : (ms : List Module) (tss : List (List Tally)) → AreScarce ms tss → length tss ≡ length ms
scarce-long [] [] scarce = refl
scarce-long (m ∷ ms) (ts ∷ tss) scarce = ap suc (scarce-long ms tss scarce.1)
scarce-long _ _ scarce = absurd scarce

-- ---- a store with its tallies

module _ (modules : List PublishedModule) (tss : List (List Tally)) (held : IsTalliedStore modules tss) where
  pub tallied-long : length tss ≡ length modules
  tallied-long = scarce-long (tables_in modules) tss held.scarce ∙ length-map modules (λ (p : PublishedModule). p.tables)

  pub tallied-named : All (IsNamed (tables_in modules)) (all_of tss)
  tallied-named = named-from modules held.store 0 (tables_in modules) tss (all-stand modules held.store) held.scarce held.placed

  pub tallied-structs : map (λ (t : Tallied). t.struct) (map (tallied (tables_in modules)) (all_of tss)) ≡ scarce_structs (tables_in modules)
  tallied-structs = structs-from modules held.store 0 (tables_in modules) tss (all-stand modules held.store) held.scarce held.placed

  -- a run adds to them
  pub counted-held : (run : List StructTally) (after : List (List Tally)) → after ≡ map (map (tally_after run)) tss → IsTalliedStore modules after
  counted-held run after is = subst (λ (uss : List (List Tally)). IsTalliedStore modules uss) (sym is) (record {
    few = held.few;
    store = held.store;
    placed = placed-after run 0 tss held.placed;
    scarce = scarce-after run (tables_in modules) tss held.scarce;
  })
