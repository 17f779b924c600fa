-- Nodes as numbers, which are in the order of edges.
--   node_number n, nodes_number from to     the number of a node, and that of the nodes of an edge
use Rattle.std.specs.Prelude.{ℕ, ◌+◌, ◌*◌}
use Rattle.mv_move_types.specs.declared.borrow.Node.{Node}
use Rattle.mv_edges.specs.Ascending.{node_index, node_kind}

-- the number of a node
abbrev pub node_number : Node → ℕ
node_number n = 65536 * node_kind n + node_index n

-- the number of two nodes between which edges lead
abbrev pub nodes_number : Node → Node → ℕ
nodes_number from to = 262144 * node_number from + node_number to
