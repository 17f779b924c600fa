-- The order in which edges are listed.
--   list_before xs ys                  the order of lists of positions
--   node_code, node_kind, node_index   a node as two numbers, and each of them
--   nodes_code e                       an edge's nodes as four numbers
--   label_before a b                   the order of labels
--   edge_before a b                    the order of edges: by nodes, then by labels
--   edge_order a b                     the same with three answers
--   are_ascending edges                the edges ascend strictly
use Rattle.std.specs.Prelude.{ℕ, Bool, true, false, ◌&&◌, ◌||◌, ◌==◌, nat_lt, List, [], ◌∷◌, ◌++◌, not}
use Rattle.std.specs.Str.{bytes_eq}
use Rattle.std.specs.declared.cmp.Ordering.{Ordering}
use Rattle.std.specs.Ordering.{ordering_then, nat_cmp, bool_cmp}
use Rattle.std.specs.Cmp.Lexicographic.{slice_cmp}
use Rattle.mv_move_types.specs.declared.borrow.Node.{Node}
use Rattle.mv_move_types.specs.declared.borrow.Node.TheVariants.{Slot, Own, Glob, Temp}
use Rattle.mv_edges.specs.Edges.{Label, Edge}

-- whether a list comes before another: position by position, and a beginning before its extension
abbrev pub list_before : List ℕ → List ℕ → Bool
list_before xs [] = false
list_before [] (y ∷ ys) = true
list_before (x ∷ xs) (y ∷ ys) = nat_lt x y || (x == y) && list_before xs ys

-- a node as two numbers, by which nodes are ordered
abbrev pub node_code : Node → List ℕ
node_code (Slot l) = 0 ∷ l ∷ []
node_code (Own l) = 1 ∷ l ∷ []
node_code (Glob t) = 2 ∷ t ∷ []
node_code (Temp k) = 3 ∷ k ∷ []

-- the first of them: the number of a node's kind
abbrev pub node_kind : Node → ℕ
node_kind (Slot l) = 0
node_kind (Own l) = 1
node_kind (Glob t) = 2
node_kind (Temp k) = 3

-- the second: its index among those of its kind
abbrev pub node_index : Node → ℕ
node_index (Slot l) = l
node_index (Own l) = l
node_index (Glob t) = t
node_index (Temp k) = k

-- an edge's nodes as four numbers
abbrev pub nodes_code : Edge → List ℕ
nodes_code e = node_code e.from ++ node_code e.to

-- labels ascend by their lists, then exact before open
abbrev pub label_before : Label → Label → Bool
label_before a b = list_before a.path b.path || bytes_eq a.path b.path && not a.is_open && b.is_open

-- edges ascend by their nodes, then by their labels
abbrev pub edge_before : Edge → Edge → Bool
edge_before a b = list_before (nodes_code a) (nodes_code b) || bytes_eq (nodes_code a) (nodes_code b) && label_before a.label b.label

-- which of two edges comes first
abbrev pub edge_order : Edge → Edge → Ordering
edge_order a b =
    ordering_then (slice_cmp nat_cmp (nodes_code a) (nodes_code b))
    (ordering_then (slice_cmp nat_cmp a.label.path b.label.path) (bool_cmp a.label.is_open b.label.is_open))

-- whether the edges ascend strictly
abbrev pub are_ascending : List Edge → Bool
are_ascending [] = true
are_ascending (a ∷ []) = true
are_ascending (a ∷ b ∷ es) = edge_before a b && are_ascending (b ∷ es)
