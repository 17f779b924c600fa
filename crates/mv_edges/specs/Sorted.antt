-- Edges put in their order.
use Rattle.std.specs.Prelude.{List, [], ◌∷◌, if◌then◌else◌}
use Rattle.mv_edges.specs.Edges.{Edge}
use Rattle.mv_edges.specs.Ascending.{edge_before}

-- the edge in its place among ascending edges, once
abbrev pub inserted : Edge → List Edge → List Edge
inserted e [] = e ∷ []
inserted e (x ∷ es) = if edge_before e x then e ∷ x ∷ es else if edge_before x e then x ∷ inserted e es else x ∷ es

-- the edges in ascending order, each once
abbrev pub sorted : List Edge → List Edge
sorted [] = []
sorted (e ∷ es) = inserted e (sorted es)
