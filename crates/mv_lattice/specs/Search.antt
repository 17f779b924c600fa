-- The search for the least closed flow. Blocks are numbered in the order of the code. The waiting block with the least number is
-- visited next: its stated state is carried through it, and the result flows into its successors. A block whose stated state rises
-- waits again.
-- First where a search stands, then a visit of a block, then whole searches from a start state, and how they end.
--   Search, IsNext x k            what is stated and which blocks wait; and the block that is visited next
--   Raises t old new              a state raises what is stated of a block
--   FlowsInto, FlowsIntoEach      a state flows into a block, and into each of some
--   IsVisit k x y                 a block is visited
--   Exceeds k flow                a visit would state a state that isn't small
--   at_start, Reaches visited x   the search begins, and comes to x by these visits
--   EndsWith flow                 it ends with this flow
--   MeetsLimit, MeetsNeed         otherwise a limit ends it, or a need that fails
-- The others are parts of these.
use Rattle.std.specs.Prelude.{◌≡◌, ℕ, ◌<◌, Bool, true, false, List, [], ◌∷◌, length, replicate, slice_get, slice_set, Option, Some, None}
use Rattle.mv_bound_rules.specs.Times.{times}
use Rattle.mv_cfg.specs.declared.Block.{Block}
use Rattle.mv_cfg.specs.declared.Cfg.{Cfg}
use Rattle.mv_cfg.specs.Graph.{IsBlock, HasEdge}
use Rattle.mv_lattice.specs.Flow.{IsAt, IsStated, through}
use Rattle.mv_lattice.specs.Order.{Order}

-- where a search stands: what is stated of each block, and which blocks wait
pub record Search (S : Type 0) : Type 0 where
  pub flow : List (Option S)
  pub waiting : List Bool

-- no block before this one waits
abbrev pub NoneBefore : List Bool → ℕ → Type 0
NoneBefore waiting k = (j : ℕ) → j < k → IsAt waiting j false

-- of the blocks that wait, k has the least number
pub record IsNext {S : Type 0} (x : Search S) (k : ℕ) : Type 0 where
  pub waits : IsAt x.waiting k true
  pub first : NoneBefore x.waiting k

-- block k waits no more
abbrev pub resting : {S : Type 0} → ℕ → Search S → Search S
resting k x = record { flow = x.flow; waiting = slice_set x.waiting k false }

-- at block n nothing has changed
abbrev pub IsSameAt : {S : Type 0} → ℕ → Search S → Search S → Type 0
IsSameAt n x y = (slice_get y.flow n ≡ slice_get x.flow n) × (slice_get y.waiting n ≡ slice_get x.waiting n)

module _ {S : Type 0} (o : Order S) where
  -- t raises what is stated of a block: where nothing is, to t itself; where a state is that isn't above t, to the join of that state and t
  pub data Raises (t : S) : Option S → S → Type 0 where
    nothing : Raises t None t
    lower : {s : S} → ¬ o.below t s → Raises t (Some s) (o.joined s t)

  -- t flows into block n: where the stated state is above t, nothing changes; else t raises it, to a small state, and the block waits
  pub data FlowsInto (t : S) (n : ℕ) (x y : Search S) : Type 0 where
    stays : (s : S) → IsStated x.flow n s → o.below t s → IsSameAt n x y → FlowsInto t n x y
    rises : (old : Option S) (u : S) → IsAt x.flow n old → Raises t old u → o.is_small u
        → IsStated y.flow n u → IsAt y.waiting n true → FlowsInto t n x y

  -- t flows into these blocks, and no other changes
  pub record FlowsIntoEach (blocks : ℕ → Type 0) (t : S) (x y : Search S) : Type 0 where
    pub inside : (n : ℕ) → blocks n → FlowsInto t n x y
    pub outside : (n : ℕ) → ¬ blocks n → IsSameAt n x y

  -- t would raise what is stated of block n to a state that isn't small
  pub record ExceedsAt (t : S) (n : ℕ) (flow : List (Option S)) : Type 0 where
    pub old : Option S
    pub new : S
    pub at : IsAt flow n old
    pub raises : Raises t old new
    pub large : ¬ o.is_small new

  module _ (g : Cfg) where
    -- what block k makes of the state that is stated of it: none, where a need fails
    pub record Makes (k : ℕ) (flow : List (Option S)) (made : Option S) : Type 0 where
      pub block : Block
      pub is_block : IsBlock g k block
      pub state : S
      pub stated : IsStated flow k state
      pub comes_out : through o.steps block state ≡ made

    -- block k is visited: what it makes of its state flows into its successors
    pub record IsVisit (k : ℕ) (x y : Search S) : Type 0 where
      pub out : S
      pub makes : Makes k x.flow (Some out)
      pub flows : FlowsIntoEach (HasEdge g k) out x y

    -- a visit of block k would raise what is stated of a successor to a state that isn't small
    pub record Exceeds (k : ℕ) (flow : List (Option S)) : Type 0 where
      pub out : S
      pub makes : Makes k flow (Some out)
      pub successor : ℕ
      pub edge : HasEdge g k successor
      pub exceeds : ExceedsAt out successor flow

    module _ (start : S) where
      -- the start state is stated of block 0, which alone waits
      abbrev pub at_start : Search S
      at_start = record {
        flow = slice_set (replicate (length g.blocks.items) None) 0 (Some start);
        waiting = slice_set (replicate (length g.blocks.items) false) 0 true;
      }

      -- the search comes to x when it has visited these blocks, the last one first, and none more than 256 times
      pub data Reaches : List ℕ → Search S → Type 0 where
        begins : o.is_small start → Reaches [] at_start
        goes_on : {visited : List ℕ} {k : ℕ} {x y : Search S}
            → Reaches visited x → IsNext x k → times k visited < 256 → IsVisit k (resting k x) y → Reaches (k ∷ visited) y

      -- the search ends with this flow: it comes to where it is stated and no block waits
      pub record EndsWith (flow : List (Option S)) : Type 0 where
        pub visited : List ℕ
        pub last : Search S
        pub reached : Reaches visited last
        pub stated : last.flow ≡ flow
        pub rests : (k : ℕ) → ¬ IsAt last.waiting k true

      -- the search comes to x after these visits, and block k is the next one
      pub record IsTurn (visited : List ℕ) (k : ℕ) (x : Search S) : Type 0 where
        pub reached : Reaches visited x
        pub next : IsNext x k

      -- a limit ends the search: the start state isn't small, a block would be visited a 257th time, or a visit would state a state that isn't small
      pub data MeetsLimit : Type 0 where
        large_start : ¬ o.is_small start → MeetsLimit
        too_often : {visited : List ℕ} {k : ℕ} {x : Search S} → IsTurn visited k x → times k visited ≡ 256 → MeetsLimit
        too_large : {visited : List ℕ} {k : ℕ} {x : Search S} → IsTurn visited k x → times k visited < 256 → Exceeds k x.flow → MeetsLimit

      -- a need ends the search: one fails in the block that would be visited next
      pub data MeetsNeed : Type 0 where
        need : {visited : List ℕ} {k : ℕ} {x : Search S} → IsTurn visited k x → times k visited < 256 → Makes k x.flow None → MeetsNeed
