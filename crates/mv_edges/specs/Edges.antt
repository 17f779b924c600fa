-- Labels, edges and their order.
-- First labels and edges, then what is made of a label, then the order, then edges at a node, then edges with other nodes.
--   Label, Edge                        a list of field positions, exact or open; and an edge by its nodes and its label
--   same_node, same_label, same_edge   whether two are one
--   here                               the label of the place itself
--   extended f label, opened label     the label of a field, and that of anything below
--   composed first second              the label of two edges, one behind the other
--   is_here label                      whether a label is that of the place itself
--   agrees f label                     whether the label's list is empty or begins with the position
--   agrees_if position label           whether it agrees with a position, if one is asked for
--   label_leq, edge_leq, edges_leq     the order: what is below says at least as much
--   out_of, into, but_out_of           the edges out of a node, into it, and all but those out of it
--   without n, without_each ns         the edges without those at a node, or at any of these
--   renamed old new                    the edges with one node in place of another
--   inherited change old new           the edges into one node, changed, for another one
--   an_edge from label to              an edge
-- The others are parts of these, or words of single contracts.
use Rattle.std.specs.Prelude.{ℕ, max, Bool, true, false, List, [], ◌∷◌, ◌++◌, length, take, ◌==◌, ◌&&◌, ◌||◌, filter, not, if◌then◌else◌}
use Rattle.std.specs.Prelude.{map, fold, Option, Some, None}
use Rattle.std.specs.Bool.{beq}
use Rattle.std.specs.Str.{bytes_eq}
use Rattle.std.specs.List.{list_all, list_any}
use Rattle.mv_move_types.specs.declared.borrow.Node.{Node}
use Rattle.mv_move_types.specs.declared.borrow.Node.TheVariants.{Slot, Own, Glob, Temp}
use Rattle.mv_move_types.specs.Paths.{begins}
use Rattle.mv_edges.specs.declared.label.Change.{Change}
use Rattle.mv_edges.specs.declared.label.Change.TheVariants.{Kept, Extended, Opened}

-- a list of field positions: exactly these, or these and any more
pub record Label : Type 0 where
  pub path : List ℕ
  pub is_open : Bool

-- what the second node refers to lies at the label from what the first one is or refers to
pub record Edge : Type 0 where
  pub from : Node
  pub label : Label
  pub to : Node

-- whether two nodes are one
abbrev pub same_node : Node → Node → Bool
same_node (Slot i) (Slot j) = i == j
same_node (Own i) (Own j) = i == j
same_node (Glob i) (Glob j) = i == j
same_node (Temp i) (Temp j) = i == j
same_node _ _ = false

-- whether two labels are one
abbrev pub same_label : Label → Label → Bool
same_label a b = bytes_eq a.path b.path && beq a.is_open b.is_open

-- whether two edges are one
abbrev pub same_edge : Edge → Edge → Bool
same_edge a b = same_node a.from b.from && same_label a.label b.label && same_node a.to b.to

-- the label of the place itself
abbrev pub here : Label
here = record { path = []; is_open = false }

-- one position longer, if it is exact
abbrev pub extended : ℕ → Label → Label
extended f label = record { path = if label.is_open then label.path else (label.path ++ f ∷ []); is_open = label.is_open }

-- the label that allows anything below, too
abbrev pub opened : Label → Label
opened label = record label { is_open = true }

-- the label of two edges, one behind the other: what lies below an open one stays there
abbrev pub composed : Label → Label → Label
composed first second =
    record { path = if first.is_open then first.path else (first.path ++ second.path); is_open = first.is_open || second.is_open }

-- whether a label is that of the place itself
abbrev pub is_here : Label → Bool
is_here label = not label.is_open && (length label.path == 0)

-- the label with a change made to it
abbrev pub changed : Change → Label → Label
changed Kept label = label
changed (Extended f) label = extended f label
changed Opened label = opened label

-- whether the label's list is empty or begins with the position
abbrev pub agrees : ℕ → Label → Bool
agrees f label = begins label.path (f ∷ []) || begins (f ∷ []) label.path

-- whether a label agrees with a position, if one is asked for
abbrev pub agrees_if : Option ℕ → Label → Bool
agrees_if None label = true
agrees_if (Some f) label = agrees f label

-- a label is below itself, and below an open one whose list begins its own
abbrev pub label_leq : Label → Label → Bool
label_leq a b = (bytes_eq a.path b.path && beq a.is_open b.is_open) || b.is_open && begins b.path a.path

-- an edge is below one with the same nodes and a label above its own
abbrev pub edge_leq : Edge → Edge → Bool
edge_leq a b = same_node a.from b.from && same_node a.to b.to && label_leq a.label b.label

-- each edge on the left is below one on the right
abbrev pub edges_leq : List Edge → List Edge → Bool
edges_leq as' bs = list_all (λ a. list_any (edge_leq a) bs) as'

-- the edges that lead out of a node
abbrev pub out_of : Node → List Edge → List Edge
out_of n edges = filter (λ e. same_node e.from n) edges

-- the edges that lead into a node
abbrev pub into : Node → List Edge → List Edge
into n edges = filter (λ e. same_node e.to n) edges

-- the edges but for those that lead out of a node
abbrev pub but_out_of : Node → List Edge → List Edge
but_out_of n edges = filter (λ e. not (same_node e.from n)) edges

-- the edges without those at a node
abbrev pub without : Node → List Edge → List Edge
without n edges = filter (λ e. not (same_node e.from n) && not (same_node e.to n)) edges

-- the edges without those at any of these nodes
abbrev pub without_each : List Node → List Edge → List Edge
without_each nodes edges = fold (λ es n. without n es) edges nodes

-- the new node in place of the old one
abbrev pub renamed_node : Node → Node → Node → Node
renamed_node old new n = if same_node n old then new else n

-- an edge with one node in place of another
abbrev pub renamed_edge : Node → Node → Edge → Edge
renamed_edge old new e = record { from = renamed_node old new e.from; label = e.label; to = renamed_node old new e.to }

-- the edges with one node in place of another
abbrev pub renamed : Node → Node → List Edge → List Edge
renamed old new edges = map (renamed_edge old new) edges

-- the incoming edges of a node, with their labels changed, for another node
abbrev pub inherited : (Label → Label) → Node → Node → List Edge → List Edge
inherited change old new edges = map (λ e. record { from = e.from; label = change e.label; to = new }) (into old edges)

-- the edge with an open label, of its first positions alone
abbrev pub opened_at : ℕ → Edge → Edge
opened_at count e = record { from = e.from; label = record { path = take count e.label.path; is_open = true }; to = e.to }

-- the length of the longest list among the labels
abbrev pub longest : List Edge → ℕ
longest [] = 0
longest (e ∷ es) = max (length e.label.path) (longest es)

-- an edge between two nodes
abbrev pub an_edge : Node → Label → Node → Edge
an_edge from label to = record { from = from; label = label; to = to }
