-- The tally of a run's entry among those of its module, which stand by ascending index.
use Rattle.mv_ledger_state.proofs.Common.{[], ◌+◌, ◌<◌, ◌∙◌, ◌∷◌, ◌≡◌, ◌≤◌, Bool, Err, List, Ok, ap, ap₂, arith, cond, eq-eqb, false, get_or, inl, inr, length, map, nat_cmp, refl, sym, true, ℕ, and_from}
use Rattle.mv_ledger_state.proofs.Common.{cases_eq, eqb-true, ltb-false, ltb-true, nat_tests, ext_get_or, get_or-map, get_or-set_other, get_or-set_same, length-map, length-set}
use Rattle.mv_ledger_state.proofs.Common.{IsNonDecreasingBy-from_default, sum_by-cons, sum_by, IsBinarySearchResult, IsNonDecreasingBy, ordering_index, ◌==◌, All, nat_lt, slice_set, is_tally_at}
use Rattle.mv_ledger_state.proofs.Common.{StructTally, AreInOrder, HasRoomFor, IsRoomFor, tally_after, Tally}
use Rattle.std.proofs.lemmas.Cmp.{ranked}
use Rattle.std.proofs.lemmas.List.Kept.{AllPairs-from_increasing}

-- a tally with other counts
abbrev pub with_counts : Tally → ℕ → ℕ → Tally
with_counts t m n = record t { packs = m; unpacks = n }

-- an entry leaves the tallies of other structs
pub tally-other : (e : StructTally) (t : Tally) → is_tally_at t.place t.index e ≡ false → tally_after (e ∷ []) t ≡ t
tally-other e t other = ap₂ (with_counts t) (one e.packs t.packs) (one e.unpacks t.unpacks)
  where
    one : (n old : ℕ) → old + sum_by (λ (u : StructTally). cond (is_tally_at t.place t.index u) n 0) (e ∷ []) ≡ old
    one n old = omega (arith, sum_by-cons (λ (u : StructTally). cond (is_tally_at t.place t.index u) n 0) e [], ap (λ (b : Bool). cond b n 0) other)

-- and adds what it counts to its own
pub tally-own : (e : StructTally) (t : Tally) (packs unpacks : ℕ) → is_tally_at t.place t.index e ≡ true → packs ≡ e.packs → unpacks ≡ e.unpacks
    → with_counts t (t.packs + packs) (t.unpacks + unpacks) ≡ tally_after (e ∷ []) t
tally-own e t packs unpacks own packs_is unpacks_is = ap₂ (with_counts t) (one packs e.packs t.packs packs_is) (one unpacks e.unpacks t.unpacks unpacks_is)
  where
    one : (m n old : ℕ) → m ≡ n → old + m ≡ old + sum_by (λ (u : StructTally). cond (is_tally_at t.place t.index u) n 0) (e ∷ [])
    one m n old same = omega (arith, sum_by-cons (λ (u : StructTally). cond (is_tally_at t.place t.index u) n 0) e [], ap (λ (b : Bool). cond b n 0) own, same)

-- an entry of another index
other-index : (e : StructTally) (t : Tally) → (e.index ≡ t.index → ⊥) → is_tally_at t.place t.index e ≡ false
other-index e t other = grind (arith, eqb-true e.index t.index)

-- what leaves all elements but one changes that one
changed-alone : {X : Type 0} (f : X → X) (xs : List X) (i : ℕ) (d y : X) → i < length xs → ((j : ℕ) → j < length xs → (j ≡ i → ⊥) → f (get_or xs j d) ≡ get_or xs j d) → y ≡ f (get_or xs i d)
    → slice_set xs i y ≡ map f xs
changed-alone f xs i d y lt others y_is = ext_get_or d (slice_set xs i y) (map f xs) (length-set xs i y ∙ sym (length-map xs f)) (λ j below.
    let short : j < length xs = omega (arith, below, length-set xs i y) in
    elim (cases_eq j i) [
      | inl here ↦ rw here (get_or-set_same xs i y d lt ∙ y_is ∙ sym (get_or-map f xs i d d lt))
      | inr far ↦ get_or-set_other xs i j y d far ∙ sym (others j short far) ∙ sym (get_or-map f xs j d d short)
    ])

module _ (e : StructTally) (ts : List Tally) (placed : All (λ t. t.place ≡ e.place) ts) (ordered : AreInOrder ts) (d : Tally) where
  -- each index is below the later ones
  rises : (i j : ℕ) → i < j → j < length ts → (get_or ts i d).index < (get_or ts j d).index
  rises i j lt below =
      let less = AllPairs-from_increasing (map (λ (t : Tally). t.index) ts) ordered i j 0 lt (omega (arith, below, length-map ts (λ (t : Tally). t.index))) in
      omega (arith, less, get_or-map (λ (t : Tally). t.index) ts i d 0 (omega (arith, lt, below)), get_or-map (λ (t : Tally). t.index) ts j d 0 below)

  -- so a search by index may be made
  searchable : IsNonDecreasingBy (λ (t : Tally). ordering_index (nat_cmp t.index e.index)) ts
  searchable = IsNonDecreasingBy-from_default (λ (t : Tally). ordering_index (nat_cmp t.index e.index)) ts d (λ i j le below.
      let rise : (get_or ts i d).index ≤ (get_or ts j d).index = grind (arith, rises i j, λ (same : i ≡ j). ap (λ k. (get_or ts k d).index) same) in
      grind (arith, nat_tests))

  module _ (i : ℕ) (lt : i < length ts) (found : IsBinarySearchResult (λ (t : Tally). nat_cmp t.index e.index) ts (Ok i)) where
    index-is : (get_or ts i d).index ≡ e.index
    index-is = ranked _ e.index _ (sym (found d))

    -- what is found is the entry's own
    pub found-own : is_tally_at (get_or ts i d).place (get_or ts i d).index e ≡ true
    found-own = and_from (e.place == (get_or ts i d).place) (e.index == (get_or ts i d).index) (eq-eqb e.place (get_or ts i d).place (sym (placed i d lt)))
        (eq-eqb e.index (get_or ts i d).index (sym index-is))

    -- and has room for it
    pub found-room : All (IsRoomFor e) ts → HasRoomFor e (get_or ts i d)
    found-room room = room i d lt found-own

    -- no other changes
    pub found-alone : (after : Tally) → after ≡ tally_after (e ∷ []) (get_or ts i d) → slice_set ts i after ≡ map (tally_after (e ∷ [])) ts
    found-alone after after_is = changed-alone (tally_after (e ∷ [])) ts i d after lt (λ j below other.
        tally-other e (get_or ts j d) (other-index e (get_or ts j d) (λ same. grind (arith, rises i j, rises j i, index-is, lt, below, other, same)))) after_is

  -- where none is found, none is its own
  pub none-own : (i : ℕ) → IsBinarySearchResult (λ (t : Tally). nat_cmp t.index e.index) ts (Err i) → ts ≡ map (tally_after (e ∷ [])) ts
  none-own i parted = sym (ext_get_or d (map (tally_after (e ∷ [])) ts) ts (length-map ts (tally_after (e ∷ []))) each)
    where
      differs : (j : ℕ) → j < length ts → (b : Bool) → nat_lt j i ≡ b → e.index ≡ (get_or ts j d).index → ⊥
      differs j below true before same = let less : (get_or ts j d).index < e.index = ranked _ e.index _ (sym ((parted searchable).0 j d (omega arith) (ltb-true j i before))) in absurd
          (omega (arith, less, same))
      differs j below false after same = let more : e.index < (get_or ts j d).index = ranked _ e.index _ (sym ((parted searchable).1 j d (ltb-false j i after) below)) in absurd
          (omega (arith, more, same))

      each : (j : ℕ) → j < length (map (tally_after (e ∷ [])) ts) → get_or (map (tally_after (e ∷ [])) ts) j d ≡ get_or ts j d
      each j below =
          let short : j < length ts = omega (arith, below, length-map ts (tally_after (e ∷ []))) in
          get_or-map (tally_after (e ∷ [])) ts j d d short ∙ tally-other e (get_or ts j d) (other-index e (get_or ts j d) (differs j short (nat_lt j i) refl))
