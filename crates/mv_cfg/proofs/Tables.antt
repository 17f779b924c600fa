-- The tables by which blocks are found: branch targets, and the places of blocks.
use Rattle.std.proofs.Common.{◌≡◌, ℕ, ◌<◌, ◌≤◌, Bool, false, List, [], ◌∷◌, ◌++◌, length, get_or, take, slice_get, Some, All, Contains, refl, sym, ap}
use Rattle.std.proofs.Common.{◌∙◌, subst, arith, zero, suc, inl, inr, ⊎_elim, ◌⊎◌}
use Rattle.std.proofs.lemmas.List.{get_or_default}
use Rattle.mv_move_types.specs.declared.instruction.Instruction.{Instruction}
use Rattle.mv_move_types.specs.declared.instruction.Instruction.TheVariants.{Pop}
use Rattle.mv_move_types.specs.declared.instruction.Exit.{Exit}
use Rattle.mv_move_types.specs.declared.instruction.Exit.TheVariants.{Fork, Jump}
use Rattle.mv_move_types.specs.Instructions.{exit_of}
use Rattle.mv_move_types.specs.Flow.{exit_targets}
use Rattle.mv_cfg.specs.declared.Block.{Block}
use Rattle.mv_cfg.specs.Blocks.{is_target}
use Rattle.std.proofs.lemmas.List.Elements.{All-head}
use Rattle.mv_cfg.specs.Steps.{IsPlaced, IsPart, IsBlockMarkedAs, BranchesInside}
use Rattle.mv_bound_rules.proofs.Entries.{last_or_before}

-- the marks of the branches of the instructions up to a place
pub record IsMarkedUpTo (code : List Instruction) (k : ℕ) (marks : List Bool) : Type 0 where
  pub size : length marks ≡ length code
  pub each : (i : ℕ) → i < length code → get_or marks i false ≡ is_target (take k code) i

-- the blocks up to one have their entries
pub record IsPlacedUpTo (size : ℕ) (firsts : List ℕ) (n : ℕ) (places : List ℕ) : Type 0 where
  pub size_is : length places ≡ size
  pub below : (k : ℕ) → k < n → get_or places (get_or firsts k 0) 0 < n
  pub first : (k : ℕ) → k < n → get_or firsts (get_or places (get_or firsts k 0) 0) 0 ≡ get_or firsts k 0

-- the block that begins at an instruction is found
pub placed-at : (size : ℕ) (firsts places : List ℕ) → IsPlaced size firsts places → (i : ℕ) → Contains firsts i → (get_or places i 0 < length firsts) × (get_or firsts (get_or places i 0) 0 ≡ i)
placed-at size firsts places p i h =
    let at : get_or firsts h.0 0 ≡ i = get_or_default firsts h.0 0 i h.1 ∙ h.2 in
    (subst (λ (j : ℕ). get_or places j 0 < length firsts) at (p.below h.0 h.1), subst (λ (j : ℕ). get_or firsts (get_or places j 0) 0 ≡ j) at (p.first h.0 h.1))

-- the blocks before one are marked, the others are as they were
pub record IsMarkedTo (n : ℕ) (bs : List Block) (marks : List Bool) (new : List Block) : Type 0 where
  pub count : length new ≡ length bs
  pub done : (k : ℕ) (b c : Block) → k < n → slice_get bs k ≡ Some b → slice_get new k ≡ Some c → IsBlockMarkedAs b (get_or marks k false) c
  pub left : (k : ℕ) → n ≤ k → slice_get new k ≡ slice_get bs k

-- another block is made
pub split_one : (code : List Instruction) (firsts places : List ℕ) (k : ℕ) (bs : List Block) (b : Block) → length bs ≡ k
    → ((j : ℕ) (x : Block) → slice_get bs j ≡ Some x → IsPart code firsts places j x) → IsPart code firsts places k b
    → (j : ℕ) (x : Block) → slice_get (bs ++ b ∷ []) j ≡ Some x → IsPart code firsts places j x
split_one code firsts places k bs b count each is j x at =
    ⊎_elim (λ (old : slice_get bs j ≡ Some x). each j x old)
    (λ (new : (j ≡ length bs) × (b ≡ x)).
    let here : j ≡ k = new.0 ∙ count in
    subst (λ (n : ℕ). IsPart code firsts places n x) (sym here) (subst (λ (y : Block). IsPart code firsts places k y) new.1 is))
    (last_or_before bs b j x at)

-- a branch leads to an instruction
pub branch-inside : (code : List Instruction) → BranchesInside code → (k : ℕ) (e : Exit) (t : ℕ) → k < length code → e ≡ exit_of (get_or code k Pop) → (e ≡ Fork t) ⊎ (e ≡ Jump t) → t < length code
branch-inside code inside k e t h is branches =
    All-head (λ u. u < length code) t [] (subst (λ (ts : List ℕ). All (λ u. u < length code) ts) (ap exit_targets (sym is) ∙ one e t branches) (inside k Pop h))
  where
    one : (e : Exit) (t : ℕ) → (e ≡ Fork t) ⊎ (e ≡ Jump t) → exit_targets e ≡ t ∷ []
    one e t branches = ⊎_elim (λ (fork : e ≡ Fork t). ap exit_targets fork) (λ (jump : e ≡ Jump t). ap exit_targets jump) branches
