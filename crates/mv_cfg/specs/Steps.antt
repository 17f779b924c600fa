-- The steps by which a flow graph is made.
--   starts              the first instructions of the blocks
--   BranchesInside      each branch leads into the code
--   IsTargetMarks       what marks the instructions that branches lead to
--   IsPlaced            where among the blocks the one stands that begins at an instruction
--   IsSplit             the blocks, as yet without marks
--   IsMarkedAs          blocks that differ from others by their marks alone
use Rattle.std.specs.Prelude.{◌≡◌, ◌↔◌, ℕ, ◌+◌, ◌-◌, ◌<◌, Bool, true, false, List, length, map, slice_get, slice_index, slice_index_or, Some, All}
use Rattle.mv_move_types.specs.declared.instruction.Instruction.{Instruction}
use Rattle.mv_move_types.specs.Flow.{targets}
use Rattle.mv_cfg.specs.declared.Block.{Block}
use Rattle.mv_cfg.specs.declared.Cfg.{Cfg}
use Rattle.mv_cfg.specs.Blocks.{starts_from, is_target, leads_to}
use Rattle.mv_cfg.specs.Graph.{IsBlock, IsReached}

-- the places at which blocks begin, in order
abbrev pub starts : List Instruction → List ℕ
starts code = starts_from code 0 true code

-- each branch leads to an instruction
abbrev pub BranchesInside : List Instruction → Type 0
BranchesInside code = All (λ c. All (λ t. t < length code) (targets c)) code

-- an entry for each instruction, true where a branch leads to it
pub record IsTargetMarks (code : List Instruction) (marks : List Bool) : Type 0 where
  pub size : length marks ≡ length code
  pub each : (i : ℕ) → i < length code → slice_index_or marks i false ≡ is_target code i

-- an entry for each of so many instructions: where a block begins, which of the blocks that is
pub record IsPlaced (size : ℕ) (firsts places : List ℕ) : Type 0 where
  pub size_is : length places ≡ size
  pub below : (k : ℕ) → k < length firsts → slice_index places (slice_index firsts k) < length firsts
  pub first : (k : ℕ) → k < length firsts → slice_index firsts (slice_index places (slice_index firsts k)) ≡ slice_index firsts k

-- the block at k begins at the first instruction at k and goes up to the next block, and its successors are the blocks
-- that begin where its last instruction leads
pub record IsPart (code : List Instruction) (firsts places : List ℕ) (k : ℕ) (b : Block) : Type 0 where
  pub first : b.first ≡ slice_index firsts k
  pub last : b.last ≡ slice_index_or firsts (k + 1) (length code) - 1
  pub successors : b.successors.items ≡ map (slice_index places) (leads_to code b.last)

-- so are all blocks
pub record IsSplit (code : List Instruction) (firsts places : List ℕ) (bs : List Block) : Type 0 where
  pub count : length bs ≡ length firsts
  pub each : (k : ℕ) (b : Block) → slice_get bs k ≡ Some b → IsPart code firsts places k b

-- each successor is a block, and there is a first block
pub record IsLinked (g : Cfg) : Type 0 where
  pub has_entry : 0 < length g.blocks.items
  pub inside : (k : ℕ) (b : Block) → IsBlock g k b → All (λ n. n < length g.blocks.items) b.successors.items

-- an entry for each block, true where a path leads to it
pub record IsReachedMarks (g : Cfg) (marks : List Bool) : Type 0 where
  pub size : length marks ≡ length g.blocks.items
  pub each : (k : ℕ) → k < length marks → (slice_index_or marks k false ≡ true) ↔ IsReached g k

-- a block with this mark, which is another one but for its mark
pub record IsBlockMarkedAs (b : Block) (mark : Bool) (new : Block) : Type 0 where
  pub first : new.first ≡ b.first
  pub last : new.last ≡ b.last
  pub successors : new.successors.items ≡ b.successors.items
  pub reached : new.reached ≡ mark

-- the blocks with these marks
pub record IsMarkedAs (bs : List Block) (marks : List Bool) (new : List Block) : Type 0 where
  pub count : length new ≡ length bs
  pub each : (k : ℕ) (b c : Block) → slice_get bs k ≡ Some b → slice_get new k ≡ Some c → IsBlockMarkedAs b (slice_index_or marks k false) c
