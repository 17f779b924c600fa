-- Tallies against the counts of what is stored.
use Rattle.mv_saved_text.proofs.Common.{[], ◌*◌, ◌+◌, ◌-◌, ◌<◌, ◌^◌, ◌∙◌, ◌∷◌, ◌≡◌, ◌≤◌, List, add-one, ap, arith, length, map, subst, suc, sym, take, zero, ℕ, take_all, All-head, All-tail}
use Rattle.mv_saved_text.proofs.Common.{AllByRecursion, All, min, slice_get, unwrap_or, Module, name_at, count, FlatEntry, storage_of, some-of, nameless, AreAll, IsTallied, capped, count_at}
use Rattle.mv_saved_text.proofs.Common.{AreCounted, IsNamed, all_of, tallied, Tally}
use Rattle.mv_ledger_state.proofs.Lists.{all-append, all-front, all-back}

-- ---- tallies one after the other

module _ (P : Tally → Type 0) where
  more : (tss : List (List Tally)) (i : ℕ) → i < length tss → AllByRecursion P (all_of (take i tss)) → AllByRecursion P (unwrap_or (slice_get tss i) []) → AllByRecursion P (all_of (take (suc i) tss))
  more [] i lt h g = absurd (omega (arith, lt))
  more (ts ∷ tss) zero lt h g = all-append P ts (all_of (take zero tss)) g tt
  more (ts ∷ tss) (suc i) lt h g = all-append P ts (all_of (take (suc i) tss)) (all-front P ts (all_of (take i tss)) h) (more tss i (omega (arith, lt)) (all-back P ts (all_of (take i tss)) h) g)

  -- the tallies of one module more
  pub modules-more : (tss : List (List Tally)) (i : ℕ) → i < length tss → AllByRecursion P (all_of (take i tss)) → AllByRecursion P (unwrap_or (slice_get tss i) [])
      → AllByRecursion P (all_of (take (i + 1) tss))
  modules-more tss i lt h g = subst (λ (k : ℕ). AllByRecursion P (all_of (take k tss))) (sym (add-one i)) (more tss i lt h g)

  -- those of each module are among all
  pub modules-each : (tss : List (List Tally)) (i : ℕ) → AllByRecursion P (all_of tss) → AllByRecursion P (unwrap_or (slice_get tss i) [])
  modules-each [] i h = tt
  modules-each (ts ∷ tss) zero h = all-front P ts (all_of tss) h
  modules-each (ts ∷ tss) (suc i) h = modules-each tss i (all-back P ts (all_of tss) h)

  pub modules-all : (tss : List (List Tally)) (i : ℕ) → length tss ≤ i → AllByRecursion P (all_of (take i tss)) → AllByRecursion P (all_of tss)
  modules-all tss i le h = subst (λ (l : List (List Tally)). AllByRecursion P (all_of l)) (take_all i tss le) h

-- ---- a tally

-- a number that is small is what it is up to the greatest
small-same : (a b unpacks packs c : ℕ) → min a c ≡ min b c → packs < c → a + unpacks ≡ packs → b + unpacks ≡ packs
small-same a b unpacks packs c same small sum = omega arith

module _ (ms : List Module) (es : List FlatEntry) (rows : List (List ℕ)) (runs : ℕ) (are : AreAll ms es rows) (few : runs < 2 ^ 64) where
  -- as its struct's values are counted and as they are stored
  abbrev IsBalanced : Tally → Type 0
  IsBalanced t = (t.packs ≤ 10000000 * runs) × (count (storage_of ms es) (tallied ms t).struct + t.unpacks ≡ t.packs)

  counted_as : (t : Tally) → IsNamed ms t → capped (count_at rows (record { place = t.place; index = t.index })) ≡ capped (count (storage_of ms es) (tallied ms t).struct)
  counted_as t named =
      let own = some-of (name_at ms t.place t.index) named in
      are.counts (record { place = t.place; index = t.index }) own.0 own.1 ∙ ap (λ o. capped (count (storage_of ms es) (unwrap_or o nameless))) (sym own.1)

  below : (packs : ℕ) → packs ≤ 10000000 * runs → packs < 2 ^ 128 - 1
  below packs le = omega arith

  one-so : (t : Tally) → IsNamed ms t → IsTallied rows runs t → IsBalanced t
  one-so t named h =
      let small : t.packs ≤ 10000000 * runs = h.0 in (
        small,
        small-same (count_at rows (record { place = t.place; index = t.index })) (count (storage_of ms es) (tallied ms t).struct) t.unpacks t.packs (2 ^ 128 - 1) (counted_as t named)
            (below t.packs small) h.1,
      )

  one-back : (t : Tally) → IsNamed ms t → IsBalanced t → IsTallied rows runs t
  one-back t named h =
      let small : t.packs ≤ 10000000 * runs = h.0 in (
        small,
        small-same (count (storage_of ms es) (tallied ms t).struct) (count_at rows (record { place = t.place; index = t.index })) t.unpacks t.packs (2 ^ 128 - 1) (sym (counted_as t named))
            (below t.packs small) h.1,
      )

  pub tallies-so : (ts : List Tally) → All (IsNamed ms) ts → AllByRecursion (IsTallied rows runs) ts → AreCounted runs (storage_of ms es) (map (tallied ms) ts)
  tallies-so [] named h = tt
  tallies-so (t ∷ ts) named h = (one-so t (All-head (IsNamed ms) t ts named) h.0, tallies-so ts (All-tail (IsNamed ms) t ts named) h.1)

  pub tallies-back : (ts : List Tally) → All (IsNamed ms) ts → AreCounted runs (storage_of ms es) (map (tallied ms) ts) → AllByRecursion (IsTallied rows runs) ts
  tallies-back [] named h = tt
  tallies-back (t ∷ ts) named h = (one-back t (All-head (IsNamed ms) t ts named) h.0, tallies-back ts (All-tail (IsNamed ms) t ts named) h.1)
