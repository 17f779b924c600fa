-- The blocks of code follow one another from its first instruction to its last.
--   Tiles                  each block begins where the one before it ends
--   blocks-tile            so do the blocks of code
--   inside-block           before its last instruction a block goes on
use Rattle.std.proofs.Common.{◌≡◌, ℕ, ◌+◌, ◌-◌, ◌<◌, ◌≤◌, Bool, true, false, cond, ◌||◌, List, [], ◌∷◌, ◌++◌, length, get_or, slice_get, Some}
use Rattle.std.proofs.Common.{Contains, refl, sym, ap, ◌∙◌, subst, arith, zero, suc, ⊎_elim, ◌≢◌}
use Rattle.std.proofs.lemmas.Bool.{cases_eq, cases_lt, false_from_ne_true}
use Rattle.std.proofs.lemmas.List.{get_or_default}
use Rattle.std.proofs.lemmas.List.Elements.{Contains-append_right}
use Rattle.std.proofs.lemmas.Option.{none-some, same_Some, slice_get_within}
use Rattle.mv_move_types.specs.declared.instruction.Instruction.{Instruction}
use Rattle.mv_move_types.specs.Flow.{ends_block}
use Rattle.mv_cfg.specs.Blocks.{BasicBlock, blocks, blocks_at, block_between, starts_from, is_target}
use Rattle.mv_cfg.specs.Steps.{starts}
use Rattle.mv_cfg.proofs.Beginnings.{IsAscending, ascending-at, ascending-before, starts_from-target, blocks_at-get, length-blocks_at}
use Rattle.mv_cfg.proofs.Leads.{starts-ascending}

-- each block begins where the one before it ends, from one place up to another
abbrev pub Tiles : ℕ → List BasicBlock → ℕ → Type 0
Tiles at [] size = at ≡ size
Tiles at (s ∷ ss) size = (s.first ≡ at) × ((s.first ≤ s.last) × Tiles (s.last + 1) ss size)

tiles_at : (n at size : ℕ) (ss : List BasicBlock) → n ≡ at → Tiles n ss size → Tiles at ss size
tiles_at n at size ss e t = subst (λ (k : ℕ). Tiles k ss size) e t

-- where a block may begin at i, one block leads up to there, or the block goes on
tile_split : (code : List Instruction) (first i : ℕ) (begins : List ℕ) (b : Bool) → first < i → Tiles i (blocks_at code (i ∷ begins)) (length code)
    → Tiles first (blocks_at code (first ∷ begins)) (length code)
    → Tiles first (blocks_at code (first ∷ (cond b (i ∷ []) [] ++ begins))) (length code)
tile_split code first i begins true before cut on = (refl, (omega arith, tiles_at i (i - 1 + 1) (length code) (blocks_at code (i ∷ begins)) (omega arith) cut))
tile_split code first i begins false before cut on = on

blocks_at-tile : (code : List Instruction) (first i : ℕ) (begins : Bool) (rest : List Instruction) → first < i → i + length rest ≡ length code
    → Tiles first (blocks_at code (first ∷ starts_from code i begins rest)) (length code)
blocks_at-tile code first i begins [] before size = (refl, (omega arith, omega arith))
blocks_at-tile code first i begins (c ∷ cs) before size =
    tile_split code first i (starts_from code (i + 1) (ends_block c) cs) (begins || is_target code i) before
    (blocks_at-tile code i (i + 1) (ends_block c) cs (omega arith) (omega arith))
    (blocks_at-tile code first (i + 1) (ends_block c) cs (omega arith) (omega arith))

pub blocks-tile : (code : List Instruction) → Tiles 0 (blocks code) (length code)
blocks-tile [] = refl
blocks-tile (c ∷ cs) = blocks_at-tile (c ∷ cs) 0 1 (ends_block c) cs (omega arith) (omega arith)

contains_first : (i : ℕ) (b target : Bool) (xs : List ℕ) → b ≡ true → Contains (cond (b || target) (i ∷ []) [] ++ xs) i
contains_first i true target xs e = (0, omega arith, refl)
contains_first i false target xs e = cc

-- a block begins after an instruction that ends one
starts_from-after : (code : List Instruction) (i : ℕ) (begins : Bool) (rest : List Instruction) (j n : ℕ) (c : Instruction)
    → slice_get rest j ≡ Some c → ends_block c ≡ true → suc j < length rest → n ≡ i + suc j → Contains (starts_from code i begins rest) n
starts_from-after code i begins [] j n c at e h is = absurd (none-some c at)
starts_from-after code i begins (x ∷ []) j n c at e h is = absurd (omega arith)
starts_from-after code i begins (x ∷ y ∷ ys) zero n c at e h is =
    let ends : ends_block x ≡ true = ap ends_block (same_Some x c at) ∙ e in
    let here : n ≡ i + 1 = omega arith in
    Contains-append_right (cond (begins || is_target code i) (i ∷ []) []) (starts_from code (i + 1) (ends_block x) (y ∷ ys)) n
    (subst (Contains (starts_from code (i + 1) (ends_block x) (y ∷ ys))) (sym here) (contains_first (i + 1) (ends_block x) (is_target code (i + 1)) (starts_from code (i + 1 + 1) (ends_block y) ys) ends))
starts_from-after code i begins (x ∷ y ∷ ys) (suc j) n c at e h is =
    Contains-append_right (cond (begins || is_target code i) (i ∷ []) []) (starts_from code (i + 1) (ends_block x) (y ∷ ys)) n
    (starts_from-after code (i + 1) (ends_block x) (y ∷ ys) j n c at e (omega arith) (omega arith))

-- none of the numbers that go up lies between two that follow one another
ascending-between : (low high : ℕ) (xs : List ℕ) (k n : ℕ) → IsAscending low high xs → k < length xs → get_or xs k 0 < n → n < get_or xs (suc k) high → Contains xs n → ⊥
ascending-between low high xs k n up h after before (j, hj, e) =
    let is : get_or xs j 0 ≡ n = get_or_default xs j 0 n hj ∙ e in
    ⊎_elim
    (λ (less : j < k). let b : get_or xs j 0 < get_or xs k 0 = ascending-before low high xs j k up less h in absurd (omega arith))
    (λ (more : k ≤ j).
    ⊎_elim
    (λ (same : j ≡ k). let b : get_or xs j 0 ≡ get_or xs k 0 = ap (λ i. get_or xs i 0) same in absurd (omega arith))
    (λ (other : j ≢ k).
    let within : suc k < length xs = omega arith in
    let next : get_or xs (suc k) high ≡ get_or xs (suc k) 0 = get_or_default xs (suc k) high 0 within in
    ⊎_elim
    (λ (same : j ≡ suc k). let b : get_or xs j 0 ≡ get_or xs (suc k) 0 = ap (λ i. get_or xs i 0) same in absurd (omega arith))
    (λ (past : j ≢ suc k). let b : get_or xs (suc k) 0 < get_or xs j 0 = ascending-before low high xs (suc k) j up (omega arith) hj in absurd (omega arith))
    (cases_eq j (suc k)))
    (cases_eq j k))
    (cases_lt j k)

-- before its last instruction a block goes on: nothing ends it there, and no branch leads to the next instruction
pub inside-block : (code : List Instruction) (k : ℕ) (s : BasicBlock) → slice_get (blocks code) k ≡ Some s → (i : ℕ) (c : Instruction) → s.first ≤ i
    → i < s.last → slice_get code i ≡ Some c → (ends_block c ≡ false) × (is_target code (i + 1) ≡ false)
inside-block code k s at i c from before read =
    let within : k < length (blocks code) = slice_get_within (blocks code) k s at in
    let h : k < length (starts code) = omega (arith, length-blocks_at code (starts code)) in
    let is : block_between code (get_or (starts code) k 0) (get_or (starts code) (suc k) (length code)) ≡ s = same_Some _ s (sym (blocks_at-get code (starts code) k h) ∙ at) in
    let first : get_or (starts code) k 0 ≡ s.first = ap (λ (b : BasicBlock). b.first) is in
    let last : get_or (starts code) (suc k) (length code) - 1 ≡ s.last = ap (λ (b : BasicBlock). b.last) is in
    let bounds = ascending-at 0 (length code) (starts code) k (starts-ascending code) h in
    let high : get_or (starts code) (suc k) (length code) ≤ length code = bounds.1.1 in
    let none : Contains (starts code) (i + 1) → ⊥ = ascending-between 0 (length code) (starts code) k (i + 1) (starts-ascending code) h (omega arith) (omega arith) in (
      false_from_ne_true (ends_block c) (λ e. none (starts_from-after code 0 true code i (i + 1) c read e (omega arith) (omega arith))),
      false_from_ne_true (is_target code (i + 1)) (λ e. none (starts_from-target code 0 true code (i + 1) (omega arith) (omega arith) e)),
    )
