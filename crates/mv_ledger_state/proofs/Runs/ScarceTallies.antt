-- The tallies of modules' structs with neither copy nor drop: each is of such a struct, and those of a module stand by ascending
-- index.
use Rattle.mv_ledger_state.proofs.Common.{[], ◌+◌, ◌<◌, ◌∙◌, ◌∷◌, ◌≡◌, ◌≤◌, List, Option, Some, ap, arith, false, get_or, map, refl, subst, suc, sym, true, zero, zero-add, ℕ, cond_both, All-append}
use Rattle.mv_ledger_state.proofs.Common.{All-cons, All-head, All-nil, All-tail, All-weaker, enumerate_from, filter, IsStrictlyIncreasing, option_map_or, All, slice_get, Module, StructDefinition}
use Rattle.mv_ledger_state.proofs.Common.{is_scarce_at, is_scarce_in, is_scarce_struct, AreInOrder, ArePlaced, AreScarce, all_of, scarce_indices, Tally}
use Rattle.mv_ledger_state.proofs.Bundles.Heirs.{indices_from}

-- what holds of what a list is made into holds so of its elements
pub All-back : {A B : Type 0} (P : B → Type 0) (f : A → B) (xs : List A) → All P (map f xs) → All (λ x. P (f x)) xs
All-back P f [] all = All-nil (λ x. P (f x))
All-back P f (x ∷ xs) all = All-cons (λ x. P (f x)) x xs (All-head P (f x) (map f xs) all) (All-back P f xs (All-tail P (f x) (map f xs) all))

-- ---- indices ascend

abbrev pub Ascends : List ℕ → Type 0
Ascends [] = Unit {0}
Ascends (x ∷ xs) = All (λ y. x < y) xs × Ascends xs

least-from : (m : Module) (k : ℕ) (ds : List StructDefinition) → All (λ y. k ≤ y) (indices_from k m ds)
least-from m k [] = All-nil (λ y. k ≤ y)
least-from m k (d ∷ ds) =
    let rest = All-weaker (λ y. k + 1 ≤ y) (λ y. k ≤ y) (λ y h. omega (arith, h)) (indices_from (k + 1) m ds) (least-from m (k + 1) ds) in
    let here = All-cons (λ y. k ≤ y) k (indices_from (k + 1) m ds) (omega arith) rest in
    let more = filter (λ (p : ℕ × StructDefinition). is_scarce_struct m p.1) (enumerate_from (k + 1) ds) in
    cond_both (is_scarce_struct m d) ((k, d) ∷ more) more (λ ps. All (λ y. k ≤ y) (map (λ (p : ℕ × StructDefinition). p.0) ps)) (λ e. here) (λ e. rest)

pub ascend-from : (m : Module) (k : ℕ) (ds : List StructDefinition) → Ascends (indices_from k m ds)
ascend-from m k [] = tt
ascend-from m k (d ∷ ds) =
    let above = All-weaker (λ y. k + 1 ≤ y) (λ y. k < y) (λ y h. omega (arith, h)) (indices_from (k + 1) m ds) (least-from m (k + 1) ds) in
    grind (arith, above, ascend-from m (k + 1) ds)

-- so each is below the next
increasing : (xs : List ℕ) → Ascends xs → IsStrictlyIncreasing xs
increasing (x ∷ y ∷ xs) up zero lt = All-head (λ z. x < z) y xs up.0
increasing (x ∷ y ∷ xs) up (suc k) lt =
    let same : suc (k + 1) ≡ suc k + 1 = omega arith in
    subst (λ (n : ℕ). get_or (y ∷ xs) k 0 < get_or (x ∷ y ∷ xs) n 0) same (increasing (y ∷ xs) up.1 k (omega (arith, lt)))
increasing _ up k lt = absurd (omega (arith, lt))

-- the tallies of each module stand by them
pub scarce-ordered : (modules : List Module) (tss : List (List Tally)) → AreScarce modules tss → All AreInOrder tss
scarce-ordered [] [] h = All-nil AreInOrder
scarce-ordered (m ∷ ms) (ts ∷ tss) h =
    All-cons AreInOrder ts tss (subst IsStrictlyIncreasing (sym h.0) (increasing (scarce_indices m) (ascend-from m 0 m.structs))) (scarce-ordered ms tss h.1)
scarce-ordered _ _ h = absurd h

-- ---- each tally is of a struct with neither copy nor drop

-- these definitions are those of the module from this index on
abbrev StandAt : Module → ℕ → List StructDefinition → Type 0
StandAt m k ds = (i : ℕ) (d : StructDefinition) → slice_get ds i ≡ Some d → slice_get m.structs (k + i) ≡ Some d

all-scarce-from : (m : Module) (k : ℕ) (ds : List StructDefinition) → StandAt m k ds → All (λ i. is_scarce_at m i ≡ true) (indices_from k m ds)
all-scarce-from m k [] stand = All-nil (λ i. is_scarce_at m i ≡ true)
all-scarce-from m k (d ∷ ds) stand =
    let at : (i : ℕ) (x : StructDefinition) (j : ℕ) → slice_get (d ∷ ds) i ≡ Some x → k + i ≡ j → slice_get m.structs j ≡ Some x =
    λ i x j e is. subst (λ (j : ℕ). slice_get m.structs j ≡ Some x) is (stand i x e) in
    let rest = all-scarce-from m (k + 1) ds (λ i x e. at (suc i) x (k + 1 + i) e (omega arith)) in
    let more = filter (λ (p : ℕ × StructDefinition). is_scarce_struct m p.1) (enumerate_from (k + 1) ds) in
    cond_both (is_scarce_struct m d) ((k, d) ∷ more) more (λ ps. All (λ i. is_scarce_at m i ≡ true) (map (λ (p : ℕ × StructDefinition). p.0) ps))
    (λ e. All-cons (λ i. is_scarce_at m i ≡ true) k (indices_from (k + 1) m ds) (ap (λ (o : Option StructDefinition). option_map_or (is_scarce_struct m) o false) (at 0 d k refl (omega arith)) ∙ e) rest)
    (λ e. rest)

-- so are a module's
module-scarce-so : (modules : List Module) (place : ℕ) (m : Module) (ts : List Tally) → slice_get modules place ≡ Some m → map (λ (t : Tally). t.index) ts ≡ scarce_indices m
    → All (λ t. t.place ≡ place) ts → All (λ t. is_scarce_in modules t.place t.index ≡ true) ts
module-scarce-so modules place m ts at indices placed = λ k d lt.
    ap (λ (p : ℕ). is_scarce_in modules p (get_or ts k d).index) (placed k d lt) ∙ ap (λ (o : Option Module). option_map_or (λ m. is_scarce_at m (get_or ts k d).index) o false) at ∙ each k d lt
  where
    each : All (λ t. is_scarce_at m t.index ≡ true) ts
    each =
        All-back (λ i. is_scarce_at m i ≡ true) (λ (t : Tally). t.index) ts
        (subst (λ (xs : List ℕ). All (λ i. is_scarce_at m i ≡ true) xs) (sym indices) (all-scarce-from m 0 m.structs (λ i d e. subst (λ (j : ℕ). slice_get m.structs j ≡ Some d) (sym (zero-add i)) e)))

-- and those of modules that stand from this place on
scarce-from : (modules : List Module) (place : ℕ) (ms : List Module) (tss : List (List Tally)) → ((i : ℕ) (m : Module) → slice_get ms i ≡ Some m → slice_get modules (place + i) ≡ Some m)
    → AreScarce ms tss → ArePlaced place tss → All (λ t. is_scarce_in modules t.place t.index ≡ true) (all_of tss)
scarce-from modules place [] [] stand scarce placed = All-nil (λ t. is_scarce_in modules t.place t.index ≡ true)
scarce-from modules place (m ∷ ms) (ts ∷ tss) stand scarce placed =
    All-append (λ t. is_scarce_in modules t.place t.index ≡ true) ts (all_of tss) (module-scarce-so modules place m ts here scarce.0 placed.0)
    (scarce-from modules (place + 1) ms tss rest scarce.1 placed.1)
  where
    here : slice_get modules place ≡ Some m
    here = let same : place + 0 ≡ place = omega arith in subst (λ (j : ℕ). slice_get modules j ≡ Some m) same (stand 0 m refl)

    rest : (i : ℕ) (n : Module) → slice_get ms i ≡ Some n → slice_get modules (place + 1 + i) ≡ Some n
    rest i n e = let same : place + suc i ≡ place + 1 + i = omega arith in subst (λ (j : ℕ). slice_get modules j ≡ Some n) same (stand (suc i) n e)
scarce-from _ _ _ _ _ scarce _ = absurd scarce

pub all-scarce : (modules : List Module) (tss : List (List Tally)) → AreScarce modules tss → ArePlaced 0 tss → All (λ t. is_scarce_in modules t.place t.index ≡ true) (all_of tss)
all-scarce modules tss = scarce-from modules 0 modules tss (λ i m e. subst (λ (j : ℕ). slice_get modules j ≡ Some m) (sym (zero-add i)) e)
