-- The part of a certificate that stands at the front of bytes, and the bytes after it.
-- These read what CertificateText.antt of mv_certificate_rules writes. Most names end in `_from`: what stands at the front of the bytes,
-- with those after it, or nothing.
--   availability_from, node_from, label_from   an availability, a node and a label
--   edge_from m d                              an edge that fits the function
--   edges_from m d                             edges after their number, which ascend (why: decision 52)
--   known_from m d                             an availability for each local, and the edges
--   block_from m d reached                     what is stated of a block that is reached, or isn't
--   stated_from m d reached                    what is stated of the blocks of a function
-- The others are parts of these.
use Rattle.std.specs.Prelude.{ℕ, ◌==◌, Bool, true, false, cond, List, [], ◌∷◌, length, Option, Some, None}
use Rattle.std.specs.Bool.{then_some}
use Rattle.mv_uleb.specs.Parsing.{number_from}
use Rattle.mv_module_text.specs.Parsing.{Read, index_from, byte_from, mark_from, entries_from, counted_from}
use Rattle.mv_move_types.specs.Limits.{most_edges, most_positions}
use Rattle.mv_move_types.specs.Options.{◌>>=◌}
use Rattle.mv_move_types.specs.declared.borrow.Availability.{Availability}
use Rattle.mv_move_types.specs.declared.borrow.Availability.TheVariants.{Unavailable, Available, Maybe}
use Rattle.mv_move_types.specs.declared.borrow.Node.{Node}
use Rattle.mv_move_types.specs.declared.borrow.Node.TheVariants.{Slot, Own, Glob}
use Rattle.mv_move_types.specs.Module.{Module, FunctionDefinition, local_tokens}
use Rattle.mv_edges.specs.Edges.{Label, Edge}
use Rattle.mv_edges.specs.Ascending.{are_ascending}
use Rattle.mv_certificate_rules.specs.Certificate.{Known, Stated}
use Rattle.mv_certificate_rules.specs.Shape.{edge_fits}

-- an availability by its byte
abbrev pub availability_of : ℕ → Option Availability
availability_of code = cond (code == 0) (Some Unavailable) (cond (code == 1) (Some Available) (cond (code == 2) (Some Maybe) None))

-- an availability at the front
abbrev pub availability_from : List ℕ → Read Availability
availability_from bytes = do
  code ← byte_from bytes
  a ← availability_of code.0
  Some (a, code.1)

-- a node by its kind byte and its index
abbrev pub node_of : ℕ → ℕ → Option Node
node_of kind index = cond (kind == 0) (Some (Slot index)) (cond (kind == 1) (Some (Own index)) (cond (kind == 2) (Some (Glob index)) None))

-- a node at the front
abbrev pub node_from : List ℕ → Read Node
node_from bytes = do
  kind ← byte_from bytes
  index ← index_from kind.1
  node ← node_of kind.0 index.0
  Some (node, index.1)

-- whether a label is open, by its byte
abbrev pub openness_of : ℕ → Option Bool
openness_of code = cond (code == 0) (Some false) (cond (code == 1) (Some true) None)

-- that at the front
abbrev pub openness_from : List ℕ → Read Bool
openness_from bytes = do
  code ← byte_from bytes
  is_open ← openness_of code.0
  Some (is_open, code.1)

-- a label at the front: its positions after their number, and whether it is open
abbrev pub label_from : List ℕ → Read Label
label_from bytes = do
  path ← counted_from most_positions (number_from 31) bytes
  is_open ← openness_from path.1
  Some (record { path = path.0; is_open = is_open.0 }, is_open.1)

-- an edge at the front, which fits the function
abbrev pub edge_from : Module → FunctionDefinition → List ℕ → Read Edge
edge_from m d bytes = do
  from ← node_from bytes
  to ← node_from from.1
  label ← label_from to.1
  then_some (edge_fits m d (record { from = from.0; label = label.0; to = to.0 })) (record { from = from.0; label = label.0; to = to.0 }, label.1)

-- edges after their number, which ascend
abbrev pub edges_from : Module → FunctionDefinition → List ℕ → Read (List Edge)
edges_from m d bytes = do
  edges ← counted_from most_edges (edge_from m d) bytes
  then_some (are_ascending edges.0) edges

-- what is known, at the front: an availability for each local, and the edges
abbrev pub known_from : Module → FunctionDefinition → List ℕ → Read Known
known_from m d bytes = do
  tokens ← local_tokens m d
  locals ← entries_from availability_from (length tokens) bytes
  edges ← edges_from m d locals.1
  Some (record { locals = locals.0; edges = edges.0 }, edges.1)

-- what is stated of a block that is reached or not: its mark, and what is known
abbrev pub block_from : Module → FunctionDefinition → Bool → List ℕ → Read (Option Known)
block_from m d true bytes = do
  rest ← mark_from 1 bytes
  known ← known_from m d rest
  Some (Some known.0, known.1)
block_from m d false bytes = do
  rest ← mark_from 0 bytes
  Some (None, rest)

-- what is stated of the blocks that are reached or not, one after another
abbrev pub stated_from : Module → FunctionDefinition → List Bool → List ℕ → Read Stated
stated_from m d [] bytes = Some ([], bytes)
stated_from m d (reached ∷ others) bytes = do
  first ← block_from m d reached bytes
  more ← stated_from m d others first.1
  Some (first.0 ∷ more.0, more.1)
