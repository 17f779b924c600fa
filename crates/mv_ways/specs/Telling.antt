-- The edges of references as they are told.
--   marked_edges edges mark place        those of a provenance, if it is marked as given to a function
--   given_edges edges marks count        those of each of the first provenances that is
--   edges_at test g r, edges_into test g the edges of a reference, if it is of some nodes; and of each reference that is
use Rattle.std.specs.Prelude.{ℕ, zero, suc, Bool, List, [], ◌++◌, flat_map, if◌then◌else◌, slice_index_or}
use Rattle.mv_move_types.specs.declared.borrow.Node.{Node}
use Rattle.mv_edges.specs.Edges.{Edge}
use Rattle.mv_ways.specs.Going.{was_given}
use Rattle.mv_ways.specs.Provenances.{ProvenanceGraph, all_origins, reference_edges}
use Rattle.mv_ways.specs.declared.provenances.Reference.{Reference}
use Rattle.mv_ways.specs.declared.provenances.under.leading.Mark.{Mark}
use Rattle.mv_ways.specs.declared.provenances.under.leading.Mark.TheVariants.{Nothing}

-- the edges of a provenance, if it is marked as given to a function
abbrev pub marked_edges : (ℕ → List Edge) → Mark → ℕ → List Edge
marked_edges edges mark place = if was_given mark then edges place else []

-- those of each of the first provenances that is
abbrev pub given_edges : (ℕ → List Edge) → List Mark → ℕ → List Edge
given_edges edges marks zero = []
given_edges edges marks (suc count) = given_edges edges marks count ++ marked_edges edges (slice_index_or marks count Nothing) count

-- the edges of a reference, if it is of some nodes
abbrev pub edges_at : (Node → Bool) → ProvenanceGraph → Reference → List Edge
edges_at test g r = if test r.node then reference_edges g.sources (all_origins g.provenances) r else []

-- and of each reference that is
abbrev pub edges_into : (Node → Bool) → ProvenanceGraph → List Edge
edges_into test g = flat_map (edges_at test g) g.references
