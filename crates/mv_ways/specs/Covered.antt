-- Which origins have an open label above them, so that all that begins with them is below the others.
--   open_tail path                     any positions behind these
--   stated provenance                  the origins that are stated of a provenance
--   IsNoted old new provenance origin  one of the entries may be of this origin now
--   AreCovered g to others entries     each entry is of an origin whose edges into a node are below the others, whatever is behind it
use Rattle.std.specs.Prelude.{◌≡◌, ℕ, ◌<◌, ◌⊎◌, true, List, [], ◌∷◌, length, slice_get, slice_index_or, Some, IsTrue}
use Rattle.mv_move_types.specs.declared.borrow.Node.{Node}
use Rattle.mv_edges.specs.Edges.{Edge, edges_leq}
use Rattle.mv_ways.specs.Behind.{a_tail, edges_from}
use Rattle.mv_ways.specs.Origins.{Origin}
use Rattle.mv_ways.specs.Provenances.{ProvenanceGraph}
use Rattle.mv_ways.specs.declared.provenances.Provenance.{Provenance}
use Rattle.mv_ways.specs.declared.provenances.Provenance.TheVariants.{Stated, Lent, Field, Returned}
use Rattle.mv_ways.specs.declared.provenances.under.covered.Covered.{Covered}

-- any positions behind these
abbrev pub open_tail : List ℕ → Edge
open_tail path = a_tail (record { path = path; is_open = true })

-- the origins that are stated of a provenance
abbrev pub stated : Provenance → List Origin
stated (Stated origins) = origins.items
stated (Lent source over) = []
stated (Field over position) = []
stated (Returned provenances) = []

-- one of the entries may be of this origin now
abbrev pub IsNoted : List Covered → List Covered → ℕ → ℕ → Type 0
IsNoted old new provenance origin = (n : ℕ) (d : Covered) → n < length old
    → (slice_index_or new n d ≡ slice_index_or old n d) ⊎ (((slice_index_or new n d).provenance ≡ provenance) × ((slice_index_or new n d).origin ≡ origin))

-- an origin at a place of a provenance leads into the node by edges below the others, whatever is behind it
abbrev pub IsCovered : ProvenanceGraph → Node → List Edge → ℕ → ℕ → Type 0
IsCovered g to others place index = (provenance : Provenance) (origin : Origin) → slice_get g.provenances place ≡ Some provenance → slice_get (stated provenance) index ≡ Some origin
    → IsTrue (edges_leq (edges_from g.sources to (open_tail [] ∷ []) origin) others)

-- so does each entry's
abbrev pub AreCovered : ProvenanceGraph → Node → List Edge → List Covered → Type 0
AreCovered g to others entries = (n : ℕ) (d : Covered) → n < length entries → IsCovered g to others (slice_index_or entries n d).provenance (slice_index_or entries n d).origin
