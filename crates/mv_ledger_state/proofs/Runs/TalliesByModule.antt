-- A run's tally as it is added, entry by entry, each to the tallies of its module alone.
use Rattle.mv_ledger_state.proofs.Common.{[], ◌++◌, ◌+◌, ◌-◌, ◌<◌, ◌^◌, ◌∙◌, ◌∷◌, ◌≡◌, ◌≤◌, List, ap, ap₂, arith, cond, false, get_or, length, map, refl, subst, suc, sym, take, true, zero, zero-add, ℕ, lists_of}
use Rattle.mv_ledger_state.proofs.Common.{eqb-true, get_or-map, length-map, map-append, map-set, with_items_is, All-head, All-map, All-tail, All-weaker, sum_by-cons, sum_by_more}
use Rattle.mv_ledger_state.proofs.Common.{sum_by_more_le_part, sum_by, IsStrictlyIncreasing, All, slice_set, with_items, Global, Vec, is_tally_at, StructTally, AtMost, AreInOrder, HasRoomFor}
use Rattle.mv_ledger_state.proofs.Common.{HasRoomLeft, IsRoomFor, tally_after, ArePlaced, all_of, Tally}
use Rattle.mv_ledger_state.proofs.Runs.TalliesAfter.{map-then}
use Rattle.mv_ledger_state.proofs.Runs.TalliesFound.{tally-other, with_counts}
use Rattle.mv_bound_rules.proofs.Entries.{All-first, All-second}

-- ---- an entry has room

-- what one more entry counts fits beside what those before it did
fits : (f : StructTally → ℕ) (run : List StructTally) (i : ℕ) (d : StructTally) (old n : ℕ) → i < length run → old + 2 ^ 64 < 2 ^ 128 → sum_by f run ≤ 2 ^ 64 - 1 → n ≡ f (get_or run i d)
    → old + sum_by f (take i run) + n < 2 ^ 128
fits f run i d old n lt room few n_is = omega (arith, sum_by_more_le_part f f run i d lt (λ t. omega arith), few, room, n_is)

-- so the entry of a tally's struct has room in it, after those before it
pub entry-fits : (run : List StructTally) (i : ℕ) (d e : StructTally) (t : Tally) → i < length run → e ≡ get_or run i d → AtMost (2 ^ 64 - 1) run → HasRoomLeft t → is_tally_at t.place t.index e ≡ true
    → HasRoomFor e (tally_after (take i run) t)
entry-fits run i d e t lt e_is few room own = (
  fits (λ (u : StructTally). cond (is_tally_at t.place t.index u) u.packs 0) run i d t.packs e.packs lt room.0 (few t.place t.index).0
      (counted e.packs ∙ ap (λ (u : StructTally). cond (is_tally_at t.place t.index u) u.packs 0) e_is),
  fits (λ (u : StructTally). cond (is_tally_at t.place t.index u) u.unpacks 0) run i d t.unpacks e.unpacks lt room.1 (few t.place t.index).1
      (counted e.unpacks ∙ ap (λ (u : StructTally). cond (is_tally_at t.place t.index u) u.unpacks 0) e_is),
)
  where
    counted : (n : ℕ) → n ≡ cond (is_tally_at t.place t.index e) n 0
    counted n = rw own refl

-- a run without entries leaves a tally
tally-first : (t : Tally) → t ≡ tally_after [] t
tally-first t = ap₂ (with_counts t) (none t.packs) (none t.unpacks)
  where
    none : (n : ℕ) → n ≡ n + 0
    none n = omega arith

tallies-first : (ts : List Tally) → ts ≡ map (tally_after []) ts
tallies-first [] = refl
tallies-first (t ∷ ts) = ap₂ (λ x xs. x ∷ xs) (tally-first t) (tallies-first ts)

-- and each module's
pub all-first : (tss : List (List Tally)) → tss ≡ map (map (tally_after [])) tss
all-first [] = refl
all-first (ts ∷ tss) = ap₂ (λ x xs. x ∷ xs) (tallies-first ts) (all-first tss)

-- one more entry of a run, after those before it
tally-more : (run : List StructTally) (i : ℕ) (d : StructTally) (t : Tally) → i < length run → tally_after (get_or run i d ∷ []) (tally_after (take i run) t) ≡ tally_after (take (i + 1) run) t
tally-more run i d t h = ap₂ (with_counts t) (one (λ u. cond (is_tally_at t.place t.index u) u.packs 0) t.packs) (one (λ u. cond (is_tally_at t.place t.index u) u.unpacks 0) t.unpacks)
  where
    one : (f : StructTally → ℕ) (old : ℕ) → old + sum_by f (take i run) + sum_by f (get_or run i d ∷ []) ≡ old + sum_by f (take (i + 1) run)
    one f old = omega (arith, sum_by-cons f (get_or run i d) [], sum_by_more f run i d h)

-- an entry of another module
other-place : (e : StructTally) (t : Tally) → (e.place ≡ t.place → ⊥) → is_tally_at t.place t.index e ≡ false
other-place e t other = grind (arith, eqb-true e.place t.place)

-- all the tallies of a list of other modules
tallies-other : (e : StructTally) (place : ℕ) (ts : List Tally) → (e.place ≡ place → ⊥) → All (λ t. t.place ≡ place) ts → map (tally_after (e ∷ [])) ts ≡ ts
tallies-other e place [] other placed = refl
tallies-other e place (t ∷ ts) other placed =
    ap₂ (λ x xs. x ∷ xs) (tally-other e t (other-place e t (λ is. other (is ∙ All-head (λ (t : Tally). t.place ≡ place) t ts placed))))
    (tallies-other e place ts other (All-tail (λ (t : Tally). t.place ≡ place) t ts placed))

-- an entry of a place before these modules
entry-before : (e : StructTally) (place : ℕ) (tss : List (List Tally)) → ArePlaced place tss → e.place < place → map (map (tally_after (e ∷ []))) tss ≡ tss
entry-before e place [] placed h = refl
entry-before e place (ts ∷ tss) placed h =
    ap₂ (λ x xs. x ∷ xs) (tallies-other e place ts (λ is. omega (arith, is, h)) placed.0) (entry-before e (place + 1) tss placed.1 (omega (arith, h)))

-- and of a place after them
pub entry-after : (e : StructTally) (place : ℕ) (tss : List (List Tally)) → ArePlaced place tss → place + length tss ≤ e.place → map (map (tally_after (e ∷ []))) tss ≡ tss
entry-after e place [] placed h = refl
entry-after e place (ts ∷ tss) placed h =
    ap₂ (λ x xs. x ∷ xs) (tallies-other e place ts (λ is. omega (arith, is, h)) placed.0) (entry-after e (place + 1) tss placed.1 (omega (arith, h)))

-- an entry of one of these modules changes its tallies alone
entry-at : (e : StructTally) (place p : ℕ) (tss : List (List Tally)) (d : List Tally) → ArePlaced place tss → p < length tss → e.place ≡ place + p
    → map (map (tally_after (e ∷ []))) tss ≡ slice_set tss p (map (tally_after (e ∷ [])) (get_or tss p d))
entry-at e place p [] d placed h is = absurd (omega (arith, h))
entry-at e place zero (ts ∷ tss) d placed h is = ap (λ xs. map (tally_after (e ∷ [])) ts ∷ xs) (entry-before e (place + 1) tss placed.1 (omega (arith, is)))
entry-at e place (suc p) (ts ∷ tss) d placed h is =
    ap₂ (λ x xs. x ∷ xs) (tallies-other e place ts (λ same. omega (arith, is, same)) placed.0) (entry-at e (place + 1) p tss d placed.1 (omega (arith, h)) (omega (arith, is)))

-- the tallies of one of these modules are of its place
placed-there : (place : ℕ) (tss : List (List Tally)) (p : ℕ) (d : List Tally) → ArePlaced place tss → p < length tss → All (λ t. t.place ≡ place + p) (get_or tss p d)
placed-there place [] p d placed h = absurd (omega (arith, h))
placed-there place (ts ∷ tss) zero d placed h = let same : place ≡ place + 0 = omega arith in subst (λ (k : ℕ). All (λ t. t.place ≡ k) ts) same placed.0
placed-there place (ts ∷ tss) (suc p) d placed h =
    let same : place + 1 + p ≡ place + suc p = omega arith in subst (λ (k : ℕ). All (λ t. t.place ≡ k) (get_or tss p d)) same (placed-there (place + 1) tss p d placed.1 (omega (arith, h)))

-- tallies stay with their modules
pub placed-after : (run : List StructTally) (place : ℕ) (tss : List (List Tally)) → ArePlaced place tss → ArePlaced place (map (map (tally_after run)) tss)
placed-after run place [] placed = placed
placed-after run place (ts ∷ tss) placed = (All-map (λ (t : Tally). t.place ≡ place) (tally_after run) ts placed.0, placed-after run (place + 1) tss placed.1)

-- one more entry, for all tallies
tallies-more-run : (run : List StructTally) (i : ℕ) (d : StructTally) (ts : List Tally) → i < length run
    → map (tally_after (get_or run i d ∷ [])) (map (tally_after (take i run)) ts) ≡ map (tally_after (take (i + 1) run)) ts
tallies-more-run run i d [] h = refl
tallies-more-run run i d (t ∷ ts) h = ap₂ (λ x xs. x ∷ xs) (tally-more run i d t h) (tallies-more-run run i d ts h)

-- and for all modules
after-more : (run : List StructTally) (i : ℕ) (d : StructTally) (tss : List (List Tally)) → i < length run
    → map (map (tally_after (get_or run i d ∷ []))) (map (map (tally_after (take i run))) tss) ≡ map (map (tally_after (take (i + 1) run))) tss
after-more run i d [] h = refl
after-more run i d (ts ∷ tss) h = ap₂ (λ x xs. x ∷ xs) (tallies-more-run run i d ts h) (after-more run i d tss h)

-- the tallies of all modules after a change of each
pub all-map : (f : Tally → Tally) (tss : List (List Tally)) → all_of (map (map f) tss) ≡ map f (all_of tss)
all-map f [] = refl
all-map f (ts ∷ tss) = ap (λ xs. map f ts ++ xs) (all-map f tss) ∙ sym (map-append f ts (all_of tss))

-- what holds of all of them holds of a module's
pub all-at : (P : Tally → Type 0) (tss : List (List Tally)) (p : ℕ) (d : List Tally) → All P (all_of tss) → p < length tss → All P (get_or tss p d)
all-at P [] p d all h = absurd (omega (arith, h))
all-at P (ts ∷ tss) zero d all h = All-first P ts (all_of tss) all
all-at P (ts ∷ tss) (suc p) d all h = all-at P tss p d (All-second P ts (all_of tss) all) (omega (arith, h))

-- the tallies of a vector whose slice was changed
pub written : (e : StructTally) (v : Vec Tally Global) (before after : List Tally) → after ≡ map (tally_after (e ∷ [])) before → before ≡ v.items → length before ≡ v.len
    → (with_items v after).items ≡ map (tally_after (e ∷ [])) v.items
written e v before after after_is before_is len =
    with_items_is v after (ap length after_is ∙ length-map before (tally_after (e ∷ [])) ∙ len) ∙ after_is ∙ ap (map (tally_after (e ∷ []))) before_is

module _ (run : List StructTally) (i : ℕ) (d e : StructTally) (old : List (List Tally)) (vs : List (Vec Tally Global)) (h : i < length run) (e_is : e ≡ get_or run i d) (placed : ArePlaced 0 old)
    (is : lists_of vs ≡ map (map (tally_after (take i run))) old) where
  placed-so : ArePlaced 0 (lists_of vs)
  placed-so = subst (λ (tss : List (List Tally)). ArePlaced 0 tss) (sym is) (placed-after (take i run) 0 old placed)

  next-is : map (map (tally_after (e ∷ []))) (lists_of vs) ≡ map (map (tally_after (take (i + 1) run))) old
  next-is = ap₂ (λ (u : StructTally) (tss : List (List Tally)). map (map (tally_after (u ∷ []))) tss) e_is is ∙ after-more run i d old h

  -- an entry of a place after all modules changes nothing
  pub step-after : length vs ≤ e.place → lists_of vs ≡ map (map (tally_after (take (i + 1) run))) old
  step-after far =
      let following : 0 + length (lists_of vs) ≤ e.place = omega (arith, far, length-map vs (λ v. v.items)) in
      sym (entry-after e 0 (lists_of vs) placed-so following) ∙ next-is

  -- any other changes the tallies of its module
  pub step-at : (v w : Vec Tally Global) → e.place < length vs → v ≡ get_or vs e.place v → w.items ≡ map (tally_after (e ∷ [])) v.items
      → lists_of (slice_set vs e.place w) ≡ map (map (tally_after (take (i + 1) run))) old
  step-at v w near v_is w_is =
      let short : e.place < length (lists_of vs) = omega (arith, near, length-map vs (λ v. v.items)) in
      let here : v.items ≡ get_or (lists_of vs) e.place [] = ap (λ v. v.items) v_is ∙ sym (get_or-map (λ v. v.items) vs e.place v [] near) in
      map-set (λ v. v.items) vs e.place w
      ∙ ap (λ ts. slice_set (lists_of vs) e.place ts) (w_is ∙ ap (map (tally_after (e ∷ []))) here)
      ∙ sym (entry-at e 0 e.place (lists_of vs) [] placed-so short (omega arith))
      ∙ next-is

  -- which are of its place
  here-is : (v : Vec Tally Global) → e.place < length vs → v ≡ get_or vs e.place v → v.items ≡ get_or (lists_of vs) e.place []
  here-is v near v_is = ap (λ v. v.items) v_is ∙ sym (get_or-map (λ v. v.items) vs e.place v [] near)

  short-is : e.place < length vs → e.place < length (lists_of vs)
  short-is near = omega (arith, near, length-map vs (λ v. v.items))

  pub placed-at : (v : Vec Tally Global) → e.place < length vs → v ≡ get_or vs e.place v → All (λ t. t.place ≡ e.place) v.items
  placed-at v near v_is = subst (λ (ts : List Tally). All (λ t. t.place ≡ e.place) ts) (sym (here-is v near v_is))
      (subst (λ (p : ℕ). All (λ t. t.place ≡ p) (get_or (lists_of vs) e.place [])) (zero-add e.place) (placed-there 0 (lists_of vs) e.place [] placed-so (short-is near)))

  -- stand by ascending index
  pub ordered-at : All AreInOrder old → (v : Vec Tally Global) → e.place < length vs → v ≡ get_or vs e.place v → AreInOrder v.items
  ordered-at ordered v near v_is =
      let all : All AreInOrder (lists_of vs) = subst (λ (tss : List (List Tally)). All AreInOrder tss) (sym is)
      (All-map AreInOrder (map (tally_after (take i run))) old (All-weaker AreInOrder (λ ts. AreInOrder (map (tally_after (take i run)) ts)) one old ordered)) in
      subst AreInOrder (sym (here-is v near v_is)) (all e.place [] (short-is near))
    where
      one : (ts : List Tally) → AreInOrder ts → AreInOrder (map (tally_after (take i run)) ts)
      one ts up = subst IsStrictlyIncreasing (sym (map-then (tally_after (take i run)) (λ (t : Tally). t.index) ts)) up

  -- and have room for it
  pub room-at : All HasRoomLeft (all_of old) → AtMost (2 ^ 64 - 1) run → (v : Vec Tally Global) → e.place < length vs → v ≡ get_or vs e.place v → All (IsRoomFor e) v.items
  room-at room few v near v_is =
      let each : All (IsRoomFor e) (map (tally_after (take i run)) (all_of old)) =
      All-map (IsRoomFor e) (tally_after (take i run)) (all_of old)
      (All-weaker HasRoomLeft (λ t. IsRoomFor e (tally_after (take i run) t)) (λ t left own. entry-fits run i d e t h e_is few left own) (all_of old) room) in
      let whole : All (IsRoomFor e) (all_of (lists_of vs)) = subst (λ (ts : List Tally). All (IsRoomFor e) ts) (sym (ap all_of is ∙ all-map (tally_after (take i run)) old)) each in
      subst (λ (ts : List Tally). All (IsRoomFor e) ts) (sym (here-is v near v_is)) (all-at (IsRoomFor e) (lists_of vs) e.place [] whole (short-is near))
