-- The blocks of a function's code, where they lead, and how code ends.
--   BasicBlock                    a block: its first and last instruction, and the blocks that it leads to
--   leads_to code i               where the instruction at a place leads
--   blocks code                   the blocks of the code, by ascending first instruction
--   IsReached code i              a path leads to the block that begins here
--   may_be_last, ends_well code   control never goes on behind the last instruction
--   FlowHolds m                   phase 7: this holds in every function
-- The others are parts of `blocks`.
use Rattle.std.specs.Prelude.{ℕ, Bool, not, ◌==◌, List, ◌+◌, ◌||◌, cond, [], ◌∷◌, ◌++◌, slice_get, ◌-◌, length, true, Contains, false, IsTrue}
use Rattle.std.specs.List.{list_any, list_all}
use Rattle.std.specs.Option.{option_map_or}
use Rattle.mv_move_types.specs.declared.instruction.Instruction.{Instruction}
use Rattle.mv_move_types.specs.Flow.{targets, ends_block, successors, exit_falls_through}
use Rattle.mv_move_types.specs.Instructions.{exit_of}
use Rattle.mv_move_types.specs.Module.{Module, FunctionDefinition}

-- whether a branch leads to the place
abbrev pub is_target : List Instruction → ℕ → Bool
is_target code i = list_any (λ c. list_any (λ t. t == i) (targets c)) code

-- the places from i at which blocks begin, where a block begins at the first if the flag says so
abbrev pub starts_from : List Instruction → ℕ → Bool → List Instruction → List ℕ
starts_from code i begins [] = []
starts_from code i begins (c ∷ cs) =
    cond (begins || is_target code i) (i ∷ []) [] ++ starts_from code (i + 1) (ends_block c) cs

-- a block: its first instruction, its last one, and the first instructions of the blocks that it leads to
pub record BasicBlock : Type 0 where
  pub first : ℕ
  pub last : ℕ
  pub next : List ℕ

-- where the instruction at a place leads
abbrev pub leads_to : List Instruction → ℕ → List ℕ
leads_to code i = option_map_or (successors i) (slice_get code i) []

-- the block from one instruction up to another
abbrev pub block_between : List Instruction → ℕ → ℕ → BasicBlock
block_between code first end = record { first = first; last = end - 1; next = leads_to code (end - 1) }

-- the blocks that begin at these places, each up to the next
abbrev pub blocks_at : List Instruction → List ℕ → List BasicBlock
blocks_at code [] = []
blocks_at code (i ∷ []) = block_between code i (length code) ∷ []
blocks_at code (i ∷ j ∷ starts) = block_between code i j ∷ blocks_at code (j ∷ starts)

-- the blocks, by ascending first instruction
abbrev pub blocks : List Instruction → List BasicBlock
blocks code = blocks_at code (starts_from code 0 true code)

-- a path of blocks leads from the first instruction to the block that begins here
pub data IsReached (code : List Instruction) : ℕ → Type 0 where
  at_start : IsReached code 0
  onward : (block : BasicBlock) (i : ℕ) → Contains (blocks code) block → IsReached code block.first → Contains block.next i → IsReached code i

-- whether code may stop after this instruction: control never comes to the next one
abbrev pub may_be_last : Instruction → Bool
may_be_last i = not (exit_falls_through (exit_of i))

-- the last instruction of the code never goes on to a next one
abbrev pub ends_well : List Instruction → Bool
ends_well [] = false
ends_well (i ∷ []) = may_be_last i
ends_well (i ∷ j ∷ is) = ends_well (j ∷ is)

-- in every function
abbrev pub FlowHolds : Module → Type 0
FlowHolds m = IsTrue (list_all (λ (d : FunctionDefinition). ends_well d.code) m.functions)
