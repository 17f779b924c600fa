-- What the states of a function are: one record, which a domain names as a whole.
--   Order S    the states of a function, their order, and what its instructions make of them
use Rattle.std.specs.Prelude.{ℕ, Option}
use Rattle.mv_cfg.specs.declared.Cfg.{Cfg}

pub record Order (S : Type 0) : Type 1 where
  -- how many instructions the function has
  pub size : ℕ
  -- the flow graph of the function
  pub is_graph : Cfg → Type 0
  -- the states of the function
  pub is_state : S → Type 0
  -- the states with which a block may begin
  pub may_begin : S → Type 0
  -- the first state is below the second
  pub below : S → S → Type 0
  -- the join of two states
  pub joined : S → S → S
  -- what the instruction at a place makes of a state, none where a need of it fails
  pub steps : ℕ → S → Option S
  -- the states that are small enough to be stated by a search
  pub is_small : S → Type 0
