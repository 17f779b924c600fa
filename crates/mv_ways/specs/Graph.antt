-- What is handed to a function, and what its results take over.
use Rattle.std.specs.Prelude.{List, flat_map}
use Rattle.mv_move_types.specs.declared.borrow.Node.{Node}
use Rattle.mv_edges.specs.Edges.{Edge, opened, inherited}

-- a result of a call, which takes over what leads into its arguments, opened
pub record Reborrow : Type 0 where
  pub node : Node
  pub givers : List Node

-- what reborrows take over
abbrev pub taken_over : List Reborrow → List Edge → List Edge
taken_over reborrows edges = flat_map (λ (h : Reborrow). flat_map (λ n. inherited opened n h.node edges) h.givers) reborrows
