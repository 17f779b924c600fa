-- The edges of a state, whatever form they have.
--   edges_in form                      all of them, in their order
--   is_related relation a b            whether the second edge is the first one, or above it
--   has_related relation es e          whether one of the edges is related so to another
--   are_related relation es fs         whether one of the others is to each edge
use Rattle.std.specs.Prelude.{Bool, List, []}
use Rattle.std.specs.List.{list_all, list_any}
use Rattle.mv_edges.specs.Edges.{Edge, edge_leq, same_edge}
use Rattle.mv_ways.specs.declared.borrows.Form.{Form}
use Rattle.mv_ways.specs.declared.borrows.Form.TheVariants.{Nothing, Stated, Listed, Grown}
use Rattle.mv_ways.specs.declared.borrows.Relation.{Relation}
use Rattle.mv_ways.specs.declared.borrows.Relation.TheVariants.{Same, Below}

-- all of them, in their order
abbrev pub edges_in : Form → List Edge
edges_in Nothing = []
edges_in (Stated edges) = edges.now
edges_in (Listed edges) = edges.value
edges_in (Grown graph) = graph

-- whether the second edge is the first one, or above it
abbrev pub is_related : Relation → Edge → Edge → Bool
is_related Same a b = same_edge a b
is_related Below a b = edge_leq a b

-- whether one of the edges is related to another
abbrev pub has_related : Relation → List Edge → Edge → Bool
has_related relation es e = list_any (is_related relation e) es

-- whether one of the others is to each edge
abbrev pub are_related : Relation → List Edge → List Edge → Bool
are_related relation es fs = list_all (has_related relation fs) es
