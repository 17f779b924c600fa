-- What leads to a provenance with no call between: what begins at the provenances that it is derived from, by copies and fields.
--   derived_of, all_derived               the same of each provenance, by that of earlier ones; a function's result is derived from nothing
--   path_before provenance path           positions behind a provenance, with the provenance's own before them
--   is_field provenance                   whether a provenance is that of a field
--   derived_edges, is_passed g to ..      the edges of what is derived for a provenance, exact or open; and whether, open, all are below others
use Rattle.std.specs.Prelude.{ℕ, Bool, true, List, [], ◌∷◌, ◌++◌, false, fold}
use Rattle.std.specs.Option.{option_map_or}
use Rattle.mv_move_types.specs.declared.borrow.Node.{Node}
use Rattle.mv_edges.specs.Edges.{Edge, edges_leq, here, extended}
use Rattle.mv_ways.specs.Behind.{a_tail, begun_edges, edges_with}
use Rattle.mv_ways.specs.Origins.{Origin}
use Rattle.mv_ways.specs.Provenances.{ProvenanceGraph, an_origin, changed_origins, origins_at}
use Rattle.mv_ways.specs.declared.provenances.Provenance.{Provenance}
use Rattle.mv_ways.specs.declared.provenances.Provenance.TheVariants.{Stated, Lent, Field, Returned}

abbrev pub derived_of : List (List Origin) → Provenance → List Origin
derived_of listed (Stated origins) = origins.items
derived_of listed (Lent source over) = option_map_or (origins_at listed) over [] ++ an_origin source here ∷ []
derived_of listed (Field over position) = changed_origins (extended position) (origins_at listed over)
derived_of listed (Returned provenances) = []

abbrev pub with_derived_of : List (List Origin) → Provenance → List (List Origin)
with_derived_of listed provenance = listed ++ derived_of listed provenance ∷ []

abbrev pub all_derived : List Provenance → List (List Origin)
all_derived provenances = fold with_derived_of [] provenances

-- positions behind a provenance, with the provenance's own before them
abbrev pub path_before : Provenance → List ℕ → List ℕ
path_before (Stated origins) path = path
path_before (Lent source over) path = path
path_before (Field over position) path = position ∷ path
path_before (Returned provenances) path = path

-- whether a provenance is that of a field
abbrev pub is_field : Provenance → Bool
is_field (Stated origins) = false
is_field (Lent source over) = false
is_field (Field over position) = true
is_field (Returned provenances) = false

-- the edges by which what is derived for a provenance leads to a node, exact or open
abbrev pub derived_edges : ProvenanceGraph → Node → Bool → ℕ → List Edge
derived_edges g to is_open k = edges_with g.sources to (origins_at (all_derived g.provenances) k) (a_tail (record { path = []; is_open = is_open }) ∷ [])

-- those that begin at a provenance, open
abbrev pub begun_open : ProvenanceGraph → Node → Provenance → List Edge
begun_open g to provenance = begun_edges g.sources to provenance (a_tail (record { path = []; is_open = true }) ∷ [])

-- whether what is derived for a provenance, opened, is below others
abbrev pub is_passed : ProvenanceGraph → Node → List Edge → ℕ → Bool
is_passed g to others k = edges_leq (derived_edges g to true k) others
