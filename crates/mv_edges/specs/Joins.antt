-- The least edges above two lists of edges.
use Rattle.std.specs.Prelude.{◌⊎◌, ◌↔◌, List, Contains, IsTrue}
use Rattle.mv_edges.specs.Edges.{Edge, edges_leq}

-- s has just the edges of both, and is the least above both
pub record IsJoin (a b s : List Edge) : Type 0 where
  pub members : (e : Edge) → Contains s e ↔ (Contains a e ⊎ Contains b e)
  pub left : IsTrue (edges_leq a s)
  pub right : IsTrue (edges_leq b s)
  pub least : (c : List Edge) → IsTrue (edges_leq a c) → IsTrue (edges_leq b c) → IsTrue (edges_leq s c)
