-- What leads on from a provenance to a later one: the label behind it. It is held as an edge between no nodes in particular.
-- A tail is a label behind a provenance.
--   a_tail label                                a label as such an edge
--   edges_with sources node origins tails       the edges of some origins, with these labels behind them
--   begun_edges sources node provenance tails   the edges that begin at a provenance
-- The others are parts of these.
use Rattle.std.specs.Prelude.{List, [], ◌∷◌, flat_map, Option}
use Rattle.mv_move_types.specs.declared.borrow.Node.{Node}
use Rattle.mv_move_types.specs.declared.borrow.Node.TheVariants.{Slot}
use Rattle.mv_edges.specs.Edges.{Label, Edge, an_edge, here}
use Rattle.mv_edges.specs.Edges.{composed}
use Rattle.mv_ways.specs.Origins.{Origin}
use Rattle.mv_ways.specs.Provenances.{an_origin, origin_edges}
use Rattle.mv_ways.specs.declared.provenances.Provenance.{Provenance}
use Rattle.mv_ways.specs.declared.provenances.Provenance.TheVariants.{Stated, Lent, Field, Returned}

-- a label behind a provenance
abbrev pub a_tail : Label → Edge
a_tail label = an_edge (Slot 0) label (Slot 0)

-- ---- edges

-- the edge of an origin and a label behind it
abbrev pub tail_edges : List (Option Node) → Node → Origin → Edge → List Edge
tail_edges sources node origin tail = origin_edges sources node (an_origin origin.source (composed origin.label tail.label))

-- of each of some labels
abbrev pub edges_from : List (Option Node) → Node → List Edge → Origin → List Edge
edges_from sources node tails origin = flat_map (tail_edges sources node origin) tails

-- and of each of some origins
abbrev pub edges_with : List (Option Node) → Node → List Origin → List Edge → List Edge
edges_with sources node origins tails = flat_map (edges_from sources node tails) origins

-- the edges that begin at a provenance
abbrev pub begun_edges : List (Option Node) → Node → Provenance → List Edge → List Edge
begun_edges sources node (Stated origins) tails = edges_with sources node origins.items tails
begun_edges sources node (Lent source over) tails = edges_with sources node (an_origin source here ∷ []) tails
begun_edges sources node (Field over position) tails = []
begun_edges sources node (Returned provenances) tails = []
