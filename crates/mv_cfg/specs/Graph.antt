-- What a flow graph is.
use Rattle.std.specs.Prelude.{◌≡◌, ℕ, true, ◌<◌, ◌≤◌, ◌↔◌, length, slice_get, Some, All, Contains}
use Rattle.mv_cfg.specs.declared.Block.{Block}
use Rattle.mv_cfg.specs.declared.Cfg.{Cfg}

-- block k is b
abbrev pub IsBlock : Cfg → ℕ → Block → Type 0
IsBlock g k b = slice_get g.blocks.items k ≡ Some b

-- control can go from the end of block k to the start of block n
abbrev pub HasEdge : Cfg → ℕ → ℕ → Type 0
HasEdge g k n = (b : Block) × IsBlock g k b × Contains b.successors.items n

-- a path of blocks leads to block k from block 0
pub data IsReached (g : Cfg) : ℕ → Type 0 where
  at_entry : IsReached g 0
  along : {k n : ℕ} → IsReached g k → HasEdge g k n → IsReached g n

-- g is a graph over `size` instructions, whose marks say which blocks are reached
pub record IsGraph (g : Cfg) (size : ℕ) : Type 0 where
  pub has_entry : 0 < length g.blocks.items
  pub starts : (k : ℕ) (b : Block) → IsBlock g k b → b.first ≤ b.last
  pub ends : (k : ℕ) (b : Block) → IsBlock g k b → b.last < size
  pub inside : (k : ℕ) (b : Block) → IsBlock g k b → All (λ n. n < length g.blocks.items) b.successors.items
  pub marks : (k : ℕ) (b : Block) → IsBlock g k b → (b.reached ≡ true) ↔ IsReached g k
