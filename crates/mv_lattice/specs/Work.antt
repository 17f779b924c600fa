-- What the code of a search keeps, and what a search ends with by the laws of its domain.
-- First what a search ends with, then what its code keeps.
--   HasLarge, HasChain        why a limit may be met: a state that is too large, or 257 states that rise
--   IsLeastFlow ..            the least closed flow, which a search ends with
--   IsNewState ..             what the code puts in a stated state's place
--   search_of states waiting  a search by its parts
--   IsSearch, IsUnderway      the code has come to these states and marks by visits from a start state
--   OfEachStart ..            what holds of each start state from which it may have come to them
-- AllStated is a part of these.
use Rattle.std.specs.Prelude.{◌≡◌, ℕ, ◌+◌, Bool, List, Option, Some, None}
use Rattle.mv_bound_rules.specs.Times.{times}
use Rattle.mv_cfg.specs.declared.Cfg.{Cfg}
use Rattle.mv_lattice.specs.Flow.{IsAt, IsStated, IsFlow, IsClosed, IsFlowBelow, IsRisen}
use Rattle.mv_lattice.specs.Order.{Order}
use Rattle.mv_lattice.specs.Search.{Search, Raises, Reaches}

-- some state with which a block may begin is too large to be stated
abbrev pub HasLarge : {S : Type 0} → Order S → Type 0
HasLarge {S} o = (s : S) × (o.is_state s × (o.may_begin s × (o.is_small s → ⊥)))

-- 257 states with which a block may begin rise one after the other
abbrev pub HasChain : {S : Type 0} → Order S → Type 0
HasChain {S} o = (s : S) × IsRisen (λ r. o.is_state r × o.may_begin r) o.below 256 s

-- each stated state has P
abbrev pub AllStated : {S : Type 0} → (S → Type 0) → List (Option S) → Type 0
AllStated {S} P states = (k : ℕ) (s : S) → IsStated states k s → P s

-- the least closed flow, of small states with which a block may begin
pub record IsLeastFlow {S : Type 0} (o : Order S) (g : Cfg) (start : S) (flow : List (Option S)) : Type 0 where
  pub flow_is : IsFlow o g flow
  pub closed : IsClosed o g start flow
  pub starts : AllStated o.may_begin flow
  pub small : AllStated o.is_small flow
  pub least : (other : List (Option S)) → IsFlow o g other → IsClosed o g start other → IsFlowBelow o.below flow other

-- what t raises the old state to, which is small; where it raises nothing, the old state is above t
abbrev pub IsNewState : {S : Type 0} → Order S → Option S → S → Option S → Type 0
IsNewState {S} o old t None = (s : S) × ((old ≡ Some s) × o.below t s)
IsNewState {S} o old t (Some u) = Raises o t old u × o.is_small u

-- where a search stands, by its parts
abbrev pub search_of : {S : Type 0} → List (Option S) → List Bool → Search S
search_of states waiting = record { flow = states; waiting = waiting }

-- a search from the start state has come to these states and marks, and each block has been visited as often as its visits left say
pub record IsSearch {S : Type 0} (o : Order S) (g : Cfg) (start : S) (left : List ℕ) (states : List (Option S)) (waiting : List Bool) : Type 0 where
  pub visited : List ℕ
  pub reached : Reaches o g start visited (search_of states waiting)
  pub count : (k l : ℕ) → IsAt left k l → times k visited + l ≡ 256

-- some search that begins with a start state has
pub record IsUnderway {S : Type 0} (o : Order S) (g : Cfg) (left : List ℕ) (states : List (Option S)) (waiting : List Bool) : Type 0 where
  pub start : S
  pub valid : o.is_state start
  pub begins : o.may_begin start
  pub search : IsSearch o g start left states waiting

-- this holds of each start state from which a search has come to these states and marks
abbrev pub OfEachStart : {S : Type 0} → Order S → Cfg → List ℕ → List (Option S) → List Bool → (S → Type 0) → Type 0
OfEachStart {S} o g left states waiting P = (start : S) → IsSearch o g start left states waiting → P start
