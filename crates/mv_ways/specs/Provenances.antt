-- Provenances, which say how references came about, and the edges that a graph of them stands for.
-- First the graph and the edges that it stands for, then when it is whole, then what changes it (why provenances: decision 52).
--   ProvenanceGraph                            where each source is, how references came about, and which nodes refer to something
--   origins_of, all_origins                    what leads to a provenance, by what leads to earlier ones; and to each provenance
--   source_at sources number                   where a source is, if it is still there
--   edges_of g                                 all edges that the graph stands for
--   is_whole g                                 provenances go over earlier ones alone, sources are there, and each reference has a provenance
--   most_provenances                           how many provenances there may be
--   severed n, gone n, moved old new           no edge leads out of a node; none into it either; another node stands for it
--   with_source, with_provenance, referred     the graph with one of these more; with a reference that has a provenance of its own
--   copied old new, provenances_at n           the references of one node for another one, and the provenances of a node
--   HasMoreSources, HasMoreProvenances         there are more of these, and those that there were are as they were
--   IsGivenBy before after givers provenance   by a provenance leads what leads into some nodes, opened
--   opened_into reborrows given                the edges given to each of some reborrows, opened
-- The others are parts of these, or words of single contracts.
use Rattle.std.specs.Prelude.{◌≡◌, ℕ, ◌+◌, ◌<◌, ◌≤◌, ◌==◌, nat_lt, Bool, true, not, ◌&&◌, if◌then◌else◌, List, [], ◌∷◌, ◌++◌, length, map, filter}
use Rattle.std.specs.Prelude.{flat_map, fold, slice_get, slice_index_or, Option, None, Some, option_map}
use Rattle.std.specs.List.{list_all, list_any}
use Rattle.std.specs.Option.{option_map_or}
use Rattle.mv_move_types.specs.declared.borrow.Node.{Node}
use Rattle.mv_edges.specs.Edges.{Label, Edge, here, an_edge, extended, inherited, opened, renamed_node, same_node}
use Rattle.mv_ways.specs.Between.{but_at}
use Rattle.mv_ways.specs.Graph.{Reborrow}
use Rattle.mv_edges.specs.Sorted.{sorted}
use Rattle.mv_ways.specs.Origins.{Origin}
use Rattle.mv_ways.specs.declared.provenances.Reference.{Reference}
use Rattle.mv_ways.specs.declared.provenances.Provenance.{Provenance}
use Rattle.mv_ways.specs.declared.provenances.Provenance.TheVariants.{Stated, Lent, Field, Returned}

-- where each source is, none where it is gone; how references came about; and which nodes refer to something
pub record ProvenanceGraph : Type 0 where
  pub sources : List (Option Node)
  pub provenances : List Provenance
  pub references : List Reference

abbrev pub an_origin : ℕ → Label → Origin
an_origin source label = record { source = source; label = label }

-- the origins with a change made to their labels
abbrev pub changed_origins : (Label → Label) → List Origin → List Origin
changed_origins change origins = map (λ (l : Origin). an_origin l.source (change l.label)) origins

-- what leads to the provenance at a place
abbrev pub origins_at : List (List Origin) → ℕ → List Origin
origins_at listed place = slice_index_or listed place []

-- What leads to a provenance, by what leads to the earlier ones. A copy of a mutable reference is lent by the original, and goes over its
-- provenance too: all that leads to the original leads to the copy.
abbrev pub origins_of : List (List Origin) → Provenance → List Origin
origins_of listed (Stated origins) = origins.items
origins_of listed (Lent source over) = option_map_or (origins_at listed) over [] ++ an_origin source here ∷ []
origins_of listed (Field over position) = changed_origins (extended position) (origins_at listed over)
origins_of listed (Returned provenances) = flat_map (λ over. changed_origins opened (origins_at listed over)) provenances.items

-- the same with one provenance more
abbrev pub with_origins_of : List (List Origin) → Provenance → List (List Origin)
with_origins_of listed provenance = listed ++ origins_of listed provenance ∷ []

-- what leads to each provenance
abbrev pub all_origins : List Provenance → List (List Origin)
all_origins provenances = fold with_origins_of [] provenances

-- where a source is, if it is still there
abbrev pub source_at : List (Option Node) → ℕ → Option Node
source_at sources number = option_map_or (λ s. s) (slice_get sources number) None

-- the edge of an origin into a node, if its source is still there
abbrev pub origin_edges : List (Option Node) → Node → Origin → List Edge
origin_edges sources to origin = option_map_or (λ from. an_edge from origin.label to ∷ []) (source_at sources origin.source) []

-- the edges into a reference's node
abbrev pub reference_edges : List (Option Node) → List (List Origin) → Reference → List Edge
reference_edges sources listed r = flat_map (origin_edges sources r.node) (origins_at listed r.provenance)

-- all edges
abbrev pub edges_of : ProvenanceGraph → List Edge
edges_of g = flat_map (reference_edges g.sources (all_origins g.provenances)) g.references

-- whether a provenance goes over provenances below a place alone
abbrev pub goes_below : ℕ → Provenance → Bool
goes_below place (Stated origins) = true
goes_below place (Lent source over) = option_map_or (λ k. nat_lt k place) over true
goes_below place (Field over position) = nat_lt over place
goes_below place (Returned provenances) = list_all (λ k. nat_lt k place) provenances.items

-- whether each provenance goes over earlier ones alone, the first of them being at a place
abbrev pub are_earlier : ℕ → List Provenance → Bool
are_earlier place [] = true
are_earlier place (provenance ∷ provenances) = goes_below place provenance && are_earlier (place + 1) provenances

-- each reference has one of the first provenances
abbrev pub are_below : ℕ → List Reference → Bool
are_below count references = list_all (λ (r : Reference). nat_lt r.provenance count) references

-- whether a provenance begins with some of the first sources alone
abbrev pub is_known : ℕ → Provenance → Bool
is_known count (Stated origins) = list_all (λ (l : Origin). nat_lt l.source count) origins.items
is_known count (Lent source over) = nat_lt source count
is_known count (Field over position) = true
is_known count (Returned provenances) = true

-- each provenance goes over earlier ones alone, and begins with sources that there are; and each reference has a provenance
abbrev pub is_whole : ProvenanceGraph → Bool
is_whole g = are_earlier 0 g.provenances && (are_below (length g.provenances) g.references && list_all (is_known (length g.sources)) g.provenances)

-- a bound on the number of provenances: a block begins with at most 64 references, and each of its 4,096 instructions makes at most two
-- provenances
abbrev pub most_provenances : ℕ
most_provenances = 8320

-- ---- changes

abbrev pub a_reference : Node → ℕ → Reference
a_reference node provenance = record { node = node; provenance = provenance }

-- no edge leads out of the node any more
abbrev pub severed : Node → ProvenanceGraph → ProvenanceGraph
severed n g = record { sources = map (but_at n) g.sources; provenances = g.provenances; references = g.references }

-- nor into it
abbrev pub gone : Node → ProvenanceGraph → ProvenanceGraph
gone n g = record { sources = map (but_at n) g.sources; provenances = g.provenances; references = filter (λ (r : Reference). not (same_node r.node n)) g.references }

-- the same of each of these nodes
abbrev pub gone_each : List Node → ProvenanceGraph → ProvenanceGraph
gone_each nodes g = fold (λ h n. gone n h) g nodes

-- a reference with the new node in place of the old one
abbrev pub moved_reference : Node → Node → Reference → Reference
moved_reference old new r = a_reference (renamed_node old new r.node) r.provenance

-- the new node in place of the old one
abbrev pub moved : Node → Node → ProvenanceGraph → ProvenanceGraph
moved old new g = record {
  sources = map (option_map (renamed_node old new)) g.sources;
  provenances = g.provenances;
  references = map (moved_reference old new) g.references;
}

-- one source more
abbrev pub with_source : Node → ProvenanceGraph → ProvenanceGraph
with_source node g = record { sources = g.sources ++ Some node ∷ []; provenances = g.provenances; references = g.references }

-- one provenance more
abbrev pub with_provenance : Provenance → ProvenanceGraph → ProvenanceGraph
with_provenance provenance g = record { sources = g.sources; provenances = g.provenances ++ provenance ∷ []; references = g.references }

-- one reference more
abbrev pub with_reference : Node → ℕ → ProvenanceGraph → ProvenanceGraph
with_reference node provenance g = record { sources = g.sources; provenances = g.provenances; references = g.references ++ a_reference node provenance ∷ [] }

-- one reference more, with a provenance of its own
abbrev pub referred : Node → Provenance → ProvenanceGraph → ProvenanceGraph
referred node provenance g = record { sources = g.sources; provenances = g.provenances ++ provenance ∷ []; references = g.references ++ a_reference node (length g.provenances) ∷ [] }

-- some references more
abbrev pub with_references : List Reference → ProvenanceGraph → ProvenanceGraph
with_references references g = record { sources = g.sources; provenances = g.provenances; references = g.references ++ references }

-- the references of one node for another one
abbrev pub copied : Node → Node → List Reference → List Reference
copied old new references = map (λ (r : Reference). a_reference new r.provenance) (filter (λ (r : Reference). same_node r.node old) references)

-- the provenances of a node
abbrev pub provenances_at : Node → List Reference → List ℕ
provenances_at n references = map (λ (r : Reference). r.provenance) (filter (λ (r : Reference). same_node r.node n) references)

-- a number more, unless it is there
abbrev pub added_once : List ℕ → ℕ → List ℕ
added_once provenances provenance = if list_any (λ k. k == provenance) provenances then provenances else (provenances ++ provenance ∷ [])

-- the edges of each reference
abbrev pub edge_lists : ProvenanceGraph → List (List Edge)
edge_lists g = map (reference_edges g.sources (all_origins g.provenances)) g.references

-- an edge into a node with one position more
abbrev pub extended_into : ℕ → Node → Edge → Edge
extended_into position n e = if same_node e.to n then an_edge e.from (extended position e.label) n else e

-- the sources that there were are where they were
pub record HasMoreSources (before after : List (Option Node)) : Type 0 where
  pub more : length before ≤ length after
  pub kept : (k : ℕ) → k < length before → source_at after k ≡ source_at before k

-- there are more provenances, and all else is as it was
pub record HasMoreProvenances (before after : ProvenanceGraph) : Type 0 where
  pub more : length before.provenances ≤ length after.provenances
  pub kept : (k : ℕ) → k < length before.provenances → origins_at (all_origins after.provenances) k ≡ origins_at (all_origins before.provenances) k
  pub sources : after.sources ≡ before.sources
  pub references : after.references ≡ before.references

-- the edges that a provenance makes into a node
abbrev pub edges_by : ProvenanceGraph → Node → ℕ → List Edge
edges_by g to provenance = flat_map (origin_edges g.sources to) (origins_at (all_origins g.provenances) provenance)

-- by a provenance leads what some nodes give: what leads into them, opened
pub record IsGivenBy (before after : ProvenanceGraph) (givers : List Node) (provenance : ℕ) : Type 0 where
  pub below : provenance < length after.provenances
  pub edges : (to : Node) → sorted (edges_by after to provenance) ≡ sorted (flat_map (λ n. inherited opened n to (edges_of before)) givers)

-- edges given to each of some reborrows, opened
abbrev pub opened_into : List Reborrow → List (List Edge) → List Edge
opened_into [] given = []
opened_into (h ∷ reborrows) [] = []
opened_into (h ∷ reborrows) (es ∷ given) = map (λ (e : Edge). an_edge e.from (opened e.label) h.node) es ++ opened_into reborrows given
