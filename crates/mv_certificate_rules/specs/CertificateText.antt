-- The text of a certificate.
--   availability_code a           the byte of an availability
--   node_text, edge_text          a node, and an edge
--   known_text, stated_text       what is known at a place; and what is stated of a block, after a mark
--   certificate_text c            the text of a certificate: block by block, function by function
--   IsCertificateText m bytes c   phase 9: the bytes are the certificate's, and it fits the module
use Rattle.std.specs.Prelude.{ℕ, List, ◌∷◌, cond, [], ◌++◌, map, Option, Some, None, flat_map, ◌≡◌}
use Rattle.mv_move_types.specs.declared.borrow.Availability.{Availability}
use Rattle.mv_move_types.specs.declared.borrow.Availability.TheVariants.{Unavailable, Available, Maybe}
use Rattle.mv_move_types.specs.declared.borrow.Node.{Node}
use Rattle.mv_uleb.specs.Uleb.{uleb}
use Rattle.mv_edges.specs.Edges.{Edge}
use Rattle.mv_module_text.specs.Entries.{counted}
use Rattle.mv_certificate_rules.specs.Certificate.{Known, Certificate}
use Rattle.mv_move_types.specs.Module.{Module}
use Rattle.mv_certificate_rules.specs.Shape.{AllStatedFit}
use Rattle.mv_edges.specs.Ascending.{node_kind, node_index}

-- an availability's byte
abbrev pub availability_code : Availability → ℕ
availability_code Unavailable = 0
availability_code Available = 1
availability_code Maybe = 2

-- a node: its kind and its index
abbrev pub node_text : Node → List ℕ
node_text n = node_kind n ∷ uleb (node_index n)

-- an edge: its nodes, its list, and whether it is open
abbrev pub edge_text : Edge → List ℕ
edge_text e = node_text e.from ++ node_text e.to ++ counted uleb e.label.path ++ cond e.label.is_open 1 0 ∷ []

-- a byte for each local, and the edges
abbrev pub known_text : Known → List ℕ
known_text known = map availability_code known.locals ++ counted edge_text known.edges

-- a mark, and what is known of a block that is reached
abbrev pub stated_text : Option Known → List ℕ
stated_text None = 0 ∷ []
stated_text (Some known) = 1 ∷ known_text known

-- what is stated of each block of each function, in order
abbrev pub certificate_text : Certificate → List ℕ
certificate_text = flat_map (flat_map stated_text)

-- the bytes are the certificate's, which has the module's shape
abbrev pub IsCertificateText : Module → List ℕ → Certificate → Type 0
IsCertificateText m bytes c = (bytes ≡ certificate_text c) × AllStatedFit m m.functions c
