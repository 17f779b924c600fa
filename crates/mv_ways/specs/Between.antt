-- Whether an edge leads from some nodes to others, and what is left of a source.
use Rattle.std.specs.Prelude.{ℕ, Bool, ◌&&◌, List, if◌then◌else◌, Option, Some, None}
use Rattle.std.specs.List.{list_any}
use Rattle.mv_move_types.specs.declared.borrow.Node.{Node}
use Rattle.mv_edges.specs.Edges.{Edge, agrees_if, same_node}

-- a source that is at the node is gone
abbrev pub but_at : Node → Option Node → Option Node
but_at n None = None
but_at n (Some m) = if same_node m n then None else Some m

-- some edge leads from one of these nodes to one of those, with a label that agrees
abbrev pub any_between : (Node → Bool) → Option ℕ → (Node → Bool) → List Edge → Bool
any_between from position to edges = list_any (λ e. from e.from && (agrees_if position e.label && to e.to)) edges
