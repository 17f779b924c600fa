-- What a closed flow over a graph is, when its blocks go on, and what rises.
--   carried, through step b s          what instructions, and a block, make of a state; none where a need fails
--   states_of inner stated             the states in what is stated
--   IsAt xs k x, IsStated flow k s     an element stands at a place; and a state is stated of a block
--   IsFlow o g flow                    a state of the function is stated of each reached block, and of no other
--   IsClosedAt o flow b s              a block carries its state to one below each that is stated of a successor
--   IsClosed o g start flow            the flow is closed: the start state is below the first block's, and each block is closed
--   IsFlowBelow below low high         each state of one flow is below the other's
--   IsRisen P below n s                the last of n + 1 states that rise one after the other
-- IsBelowEach is a part of IsClosedAt.
use Rattle.std.specs.Prelude.{◌≡◌, ℕ, zero, suc, ◌+◌, ◌-◌, List, length, slice_get, map, option_and_then, option_map, Option, Some, All}
use Rattle.mv_cfg.specs.declared.Block.{Block}
use Rattle.mv_cfg.specs.declared.Cfg.{Cfg}
use Rattle.mv_cfg.specs.Graph.{IsBlock, IsReached}
use Rattle.mv_lattice.specs.Order.{Order}

-- the state that `count` instructions from `at` on make of s, none where a need of one of them fails
abbrev pub carried : {S : Type 0} → (ℕ → S → Option S) → ℕ → ℕ → S → Option S
carried step at zero s = Some s
carried step at (suc count) s = option_and_then (carried step (suc at) count) (step at s)

-- what the whole block makes of s
abbrev pub through : {S : Type 0} → (ℕ → S → Option S) → Block → S → Option S
through step b s = carried step b.first (b.last + 1 - b.first) s

-- the states in what is stated
abbrev pub states_of : {K S : Type 0} → (K → S) → List (Option K) → List (Option S)
states_of inner stated = map (option_map inner) stated

-- x stands at k
abbrev pub IsAt : {A : Type 0} → List A → ℕ → A → Type 0
IsAt xs k x = slice_get xs k ≡ Some x

-- block k is stated to begin in s
abbrev pub IsStated : {S : Type 0} → List (Option S) → ℕ → S → Type 0
IsStated flow k s = slice_get flow k ≡ Some (Some s)

-- one entry a block, with a state of the function exactly where the block is reached
pub record IsFlow {S : Type 0} (o : Order S) (g : Cfg) (flow : List (Option S)) : Type 0 where
  pub entries : length flow ≡ length g.blocks.items
  pub states : (k : ℕ) (s : S) → IsStated flow k s → o.is_state s
  pub stated : (k : ℕ) → IsReached g k → (s : S) × IsStated flow k s
  pub reached : (k : ℕ) (s : S) → IsStated flow k s → IsReached g k

-- the state is below each one that is stated for one of these blocks
abbrev pub IsBelowEach : {S : Type 0} → Order S → List (Option S) → List ℕ → S → Type 0
IsBelowEach {S} o flow blocks t = All (λ n. (u : S) → IsStated flow n u → o.below t u) blocks

-- the block carries s to a state that is below each one that is stated for a successor
abbrev pub IsClosedAt : {S : Type 0} → Order S → List (Option S) → Block → S → Type 0
IsClosedAt {S} o flow b s = (t : S) × ((through o.steps b s ≡ Some t) × IsBelowEach o flow b.successors.items t)

-- block 0's state is above the start state, and the flow is closed at each block for which a state is stated
pub record IsClosed {S : Type 0} (o : Order S) (g : Cfg) (start : S) (flow : List (Option S)) : Type 0 where
  pub entry : (s : S) → IsStated flow 0 s → o.below start s
  pub closed : (k : ℕ) (b : Block) (s : S) → IsBlock g k b → IsStated flow k s → IsClosedAt o flow b s

-- each state of the one flow is below that of the other
abbrev pub IsFlowBelow : {S : Type 0} → (S → S → Type 0) → List (Option S) → List (Option S) → Type 0
IsFlowBelow {S} below low high = (k : ℕ) (s u : S) → IsStated low k s → IsStated high k u → below s u

-- s is the last of n + 1 states with P that rise one after the other: each is below the next, and the next is not below it
unfoldable pub IsRisen : {S : Type 0} → (S → Type 0) → (S → S → Type 0) → ℕ → S → Type 0
IsRisen P below zero s = P s
IsRisen {S} P below (suc n) s = P s × ((r : S) × (IsRisen P below n r × below r s × (below s r → ⊥)))
