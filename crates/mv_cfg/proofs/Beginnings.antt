-- Where blocks begin.
--   IsAscending                 numbers that go up, from one bound to below another
--   starts_from-ascending       so do the places at which blocks begin
--   starts_from-target          a block begins where a branch leads
--   blocks_at-get               the block at a place
use Rattle.std.proofs.Common.{◌≡◌, ℕ, ◌+◌, ◌<◌, ◌≤◌, Bool, true, false, cond, ◌||◌, List, [], ◌∷◌, ◌++◌, length, get_or, slice_get, Some, Contains, refl, sym, subst, arith, zero, suc, ⊎_elim, ◌≢◌}
use Rattle.std.proofs.lemmas.Bool.{cases_eq, cases_lt}
use Rattle.std.proofs.lemmas.List.Elements.{Contains-append_right}
use Rattle.mv_move_types.specs.declared.instruction.Instruction.{Instruction}
use Rattle.mv_move_types.specs.Flow.{ends_block}
use Rattle.mv_cfg.specs.Blocks.{blocks_at, block_between, starts_from, is_target}

-- numbers that go up, from one bound to below another
abbrev pub IsAscending : ℕ → ℕ → List ℕ → Type 0
IsAscending low high [] = Unit {0}
IsAscending low high (x ∷ xs) = (low ≤ x) × ((x < high) × IsAscending (x + 1) high xs)

ascending-lower : (low below high : ℕ) (xs : List ℕ) → below ≤ low → IsAscending low high xs → IsAscending below high xs
ascending-lower low below high [] h a = tt
ascending-lower low below high (x ∷ xs) h a = let from : low ≤ x = a.0 in (omega arith, a.1)

ascending-front : (i high : ℕ) (b : Bool) (xs : List ℕ) → i < high → IsAscending (i + 1) high xs → IsAscending i high (cond b (i ∷ []) [] ++ xs)
ascending-front i high true xs h a = (omega arith, (h, a))
ascending-front i high false xs h a = ascending-lower (i + 1) i high xs (omega arith) a

pub starts_from-ascending : (code : List Instruction) (i high : ℕ) (begins : Bool) (rest : List Instruction) → i + length rest ≡ high → IsAscending i high (starts_from code i begins rest)
starts_from-ascending code i high begins [] size = tt
starts_from-ascending code i high begins (c ∷ cs) size =
    ascending-front i high (begins || is_target code i) (starts_from code (i + 1) (ends_block c) cs) (omega arith)
    (starts_from-ascending code (i + 1) high (ends_block c) cs (omega arith))

-- the next of them, or the bound after the last one
pub ascending-at : (low high : ℕ) (xs : List ℕ) (k : ℕ) → IsAscending low high xs → k < length xs
    → (low ≤ get_or xs k 0) × ((get_or xs k 0 < get_or xs (suc k) high) × (get_or xs (suc k) high ≤ high))
ascending-at low high [] k a h = absurd (omega arith)
ascending-at low high (x ∷ []) zero a h = (a.0, (a.1.0, omega arith))
ascending-at low high (x ∷ y ∷ ys) zero a h =
    let next : x + 1 ≤ y = a.1.1.0 in
    let small : y < high = a.1.1.1.0 in (a.0, (omega arith, omega arith))
ascending-at low high (x ∷ xs) (suc k) a h =
    let on = ascending-at (x + 1) high xs k a.1.1 (omega arith) in
    let from : low ≤ x = a.0 in
    let more : x + 1 ≤ get_or xs k 0 = on.0 in (omega arith, on.1)

pub ascending-before : (low high : ℕ) (xs : List ℕ) (j k : ℕ) → IsAscending low high xs → j < k → k < length xs → get_or xs j 0 < get_or xs k 0
ascending-before low high [] j k a before h = absurd (omega arith)
ascending-before low high (x ∷ xs) j zero a before h = absurd (omega arith)
ascending-before low high (x ∷ xs) zero (suc k) a before h =
    let more : x + 1 ≤ get_or xs k 0 = (ascending-at (x + 1) high xs k a.1.1 (omega arith)).0 in omega arith
ascending-before low high (x ∷ xs) (suc j) (suc k) a before h = ascending-before (x + 1) high xs j k a.1.1 (omega arith) (omega arith)

-- no two of them are the same
pub ascending-same : (low high : ℕ) (xs : List ℕ) (j k : ℕ) → IsAscending low high xs → j < length xs → k < length xs → get_or xs j 0 ≡ get_or xs k 0 → j ≡ k
ascending-same low high xs j k a hj hk e =
    ⊎_elim
    (λ (before : j < k). absurd (let less : get_or xs j 0 < get_or xs k 0 = ascending-before low high xs j k a before hk in omega arith))
    (λ (after : k ≤ j).
    ⊎_elim
    (λ (before : k < j). absurd (let less : get_or xs k 0 < get_or xs j 0 = ascending-before low high xs k j a before hj in omega arith))
    (λ (other : j ≤ k). omega arith)
    (cases_lt k j))
    (cases_lt j k)

contains_front : (i : ℕ) (b target : Bool) (xs : List ℕ) → target ≡ true → Contains (cond (b || target) (i ∷ []) [] ++ xs) i
contains_front i true target xs e = (0, omega arith, refl)
contains_front i false true xs e = (0, omega arith, refl)
contains_front i false false xs e = cc

-- a block begins where a branch leads
pub starts_from-target : (code : List Instruction) (i : ℕ) (begins : Bool) (rest : List Instruction) (n : ℕ) → i ≤ n → n < i + length rest
    → is_target code n ≡ true → Contains (starts_from code i begins rest) n
starts_from-target code i begins [] n from before target = absurd (omega arith)
starts_from-target code i begins (c ∷ cs) n from before target =
    ⊎_elim
    (λ (e : n ≡ i).
    let P : ℕ → Type 0 = λ m. Contains (starts_from code i begins (c ∷ cs)) m in
    let here : is_target code i ≡ true = subst (λ (m : ℕ). is_target code m ≡ true) e target in
    subst P (sym e) (contains_front i begins (is_target code i) (starts_from code (i + 1) (ends_block c) cs) here))
    (λ (ne : n ≢ i).
    Contains-append_right (cond (begins || is_target code i) (i ∷ []) []) (starts_from code (i + 1) (ends_block c) cs) n
    (starts_from-target code (i + 1) (ends_block c) cs n (omega arith) (omega arith) target))
    (cases_eq n i)

-- the block at a place
pub blocks_at-get : (code : List Instruction) (xs : List ℕ) (k : ℕ) → k < length xs → slice_get (blocks_at code xs) k ≡ Some (block_between code (get_or xs k 0) (get_or xs (suc k) (length code)))
blocks_at-get code [] k h = absurd (omega arith)
blocks_at-get code (x ∷ []) zero h = refl
blocks_at-get code (x ∷ []) (suc k) h = absurd (omega arith)
blocks_at-get code (x ∷ y ∷ ys) zero h = refl
blocks_at-get code (x ∷ y ∷ ys) (suc k) h = blocks_at-get code (y ∷ ys) k (omega arith)

pub length-blocks_at : (code : List Instruction) (xs : List ℕ) → length (blocks_at code xs) ≡ length xs
length-blocks_at code [] = refl
length-blocks_at code (x ∷ []) = refl
length-blocks_at code (x ∷ y ∷ ys) = let rest : length (blocks_at code (y ∷ ys)) ≡ length (y ∷ ys) = length-blocks_at code (y ∷ ys) in omega arith
