-- Tallies after a run.
use Rattle.mv_ledger_state.proofs.Common.{[], ◌+◌, ◌-◌, ◌^◌, ◌∙◌, ◌∷◌, ◌≡◌, ◌≤◌, List, ap, ap₂, arith, map, refl, ℕ, All-head, All-map, All-tail, All-weaker, All, Module}
use Rattle.mv_ledger_state.proofs.Common.{StructTally}
use Rattle.mv_ledger_state.proofs.Common.{AtMost, tally_after, AreScarce, IsSmall, Tally}

-- functions that agree on a list's elements
pub map-where : {A B : Type 0} (P : A → Type 0) (f g : A → B) → ((x : A) → P x → f x ≡ g x) → (xs : List A) → All P xs → map f xs ≡ map g xs
map-where P f g agree [] all = refl
map-where P f g agree (x ∷ xs) all = ap₂ (λ y ys. y ∷ ys) (agree x (All-head P x xs all)) (map-where P f g agree xs (All-tail P x xs all))

-- one function after another
pub map-then : {A B C : Type 0} (f : A → B) (g : B → C) (xs : List A) → map g (map f xs) ≡ map (λ x. g (f x)) xs
map-then f g [] = refl
map-then f g (x ∷ xs) = ap (λ ys. g (f x) ∷ ys) (map-then f g xs)

-- what a run with an admitted budget did is at most what a run may do, and fits in 64 bits
pub most-after : (budget : ℕ) (run : List StructTally) → AtMost budget run → budget ≤ 10000000 → AtMost 10000000 run × AtMost (2 ^ 64 - 1) run
most-after budget run few low = (
  λ place index. (omega (arith, (few place index).0, low), omega (arith, (few place index).1, low)),
  λ place index. (omega (arith, (few place index).0, low), omega (arith, (few place index).1, low)),
)

-- a run adds at most 10,000,000 to each
pub small-after : (runs : ℕ) (run : List StructTally) (ts : List Tally) → AtMost 10000000 run → All (IsSmall runs) ts → All (IsSmall (runs + 1)) (map (tally_after run) ts)
small-after runs run ts few small =
    All-map (IsSmall (runs + 1)) (tally_after run) ts
    (All-weaker (IsSmall runs) (λ t. IsSmall (runs + 1) (tally_after run t)) (λ t h. let few = few t.place t.index in (omega (arith, h, few), omega (arith, h, few))) ts small)

-- a run leaves the tallies' indices
pub scarce-after : (run : List StructTally) (modules : List Module) (tss : List (List Tally)) → AreScarce modules tss → AreScarce modules (map (map (tally_after run)) tss)
scarce-after run [] [] h = tt
scarce-after run (m ∷ ms) (ts ∷ tss) h = (map-then (tally_after run) (λ (t : Tally). t.index) ts ∙ h.0, scarce-after run ms tss h.1)
scarce-after _ _ _ h = h
