-- Lists of edges by a relation of labels.
use Rattle.std.specs.Prelude.{Bool, List, ◌&&◌}
use Rattle.std.specs.List.{list_all, list_any}
use Rattle.mv_edges.specs.Edges.{Label, Edge, same_node}

-- two edges have the same nodes, and related labels
abbrev pub edge_related : (Label → Label → Bool) → Edge → Edge → Bool
edge_related le a b = same_node a.from b.from && same_node a.to b.to && le a.label b.label

-- each edge on the left is related to one on the right
abbrev pub edges_related : (Label → Label → Bool) → List Edge → List Edge → Bool
edges_related le as' bs = list_all (λ a. list_any (edge_related le a) bs) as'
