-- When a flow graph is that of a function's code.
use Rattle.std.specs.Prelude.{◌≡◌, ◌↔◌, ℕ, true, List, length, map, IsTrue, slice_get}
use Rattle.std.specs.Option.{option_map_or}
use Rattle.mv_move_types.specs.declared.instruction.Instruction.{Instruction}
use Rattle.mv_cfg.specs.declared.Block.{Block}
use Rattle.mv_cfg.specs.declared.Cfg.{Cfg}
use Rattle.mv_cfg.specs.Blocks.{BasicBlock, blocks, ends_well, IsReached as IsReachedInCode}
use Rattle.mv_cfg.specs.Graph.{IsBlock, IsGraph}

-- the first instruction of a block
abbrev pub first_of : Cfg → ℕ → ℕ
first_of g k = option_map_or (λ (b : Block). b.first) (slice_get g.blocks.items k) 0

-- a block by its instructions, and by the first instructions of its successors
abbrev pub basic_block_of : Cfg → Block → BasicBlock
basic_block_of g b = record { first = b.first; last = b.last; next = map (first_of g) b.successors.items }

-- the code ends well, and the graph has its blocks in order, each marked as reached exactly where it is
pub record IsFlowGraph (code : List Instruction) (g : Cfg) : Type 0 where
  pub ends : IsTrue (ends_well code)
  pub graph : IsGraph g (length code)
  pub basic_blocks : map (basic_block_of g) g.blocks.items ≡ blocks code
  pub reached : (k : ℕ) (b : Block) → IsBlock g k b → (b.reached ≡ true) ↔ IsReachedInCode code b.first
