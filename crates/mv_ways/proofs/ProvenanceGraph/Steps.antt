-- What becomes of the edges of a graph of provenances where it is changed: what the rules make of a list of them.
use Rattle.mv_edges.proofs.Common.{[], ℕ, ◌&&◌, ◌∙◌, ◌∷◌, ◌≡◌, Bool, List, None, Option, Some, ap, cond, false, filter, flat_map, map, not, option_map, refl, sym}
use Rattle.mv_edges.proofs.Common.{true, flat_map-map, option_map_or, Node, Edge, Label, an_edge, but_out_of, inherited, renamed, renamed_node, same_node, without}
use Rattle.mv_ways.specs.Between.{but_at}
use Rattle.mv_edges.specs.Edges.{renamed_edge}
use Rattle.std.proofs.lemmas.Option.{slice_get-map}
use Rattle.mv_edges.proofs.Common.{slice_get}
use Rattle.mv_ways.proofs.Piecewise.{filter_piecewise, map_piecewise, inherited_piecewise, flat_map_nothing, flat_map-filter, through}
use Rattle.mv_ways.specs.declared.provenances.Reference.{Reference}
use Rattle.mv_ways.specs.Origins.{Origin}
use Rattle.mv_ways.specs.Provenances.{ProvenanceGraph, an_origin, all_origins, changed_origins, edges_of, gone, origin_edges, origins_at, moved, moved_reference, reference_edges, severed, source_at, provenances_at}

-- where a source is after a change of all of them
source_at-map : (h : Option Node → Option Node) → h None ≡ None → (sources : List (Option Node)) (number : ℕ) → source_at (map h sources) number ≡ h (source_at sources number)
source_at-map h none sources number = ap (λ o. option_map_or (λ s. s) o None) (slice_get-map h sources number) ∙ by_case (slice_get sources number)
  where
    by_case : (o : Option (Option Node)) → option_map_or (λ s. s) (option_map h o) None ≡ h (option_map_or (λ s. s) o None)
    by_case None = sym none
    by_case (Some s) = refl

-- ---- no edge out of a node

origin_edges-severed : (n : Node) (sources : List (Option Node)) (to : Node) (origin : Origin) → origin_edges (map (but_at n) sources) to origin ≡ but_out_of n (origin_edges sources to origin)
origin_edges-severed n sources to origin = ap (λ o. option_map_or edge o []) (source_at-map (but_at n) refl sources origin.source) ∙ by_source (source_at sources origin.source)
  where
    edge : Node → List Edge
    edge from = an_edge from origin.label to ∷ []

    by_source : (o : Option Node) → option_map_or edge (but_at n o) [] ≡ but_out_of n (option_map_or edge o [])
    by_source None = refl
    by_source (Some m) = by_case (same_node m n)
      where
        by_case : (b : Bool) → option_map_or edge (cond b None (Some m)) [] ≡ cond (not b) (edge m) []
        by_case true = refl
        by_case false = refl

origins-severed : (n : Node) (sources : List (Option Node)) (to : Node) (origins : List Origin)
    → flat_map (origin_edges (map (but_at n) sources) to) origins ≡ but_out_of n (flat_map (origin_edges sources to) origins)
origins-severed n sources to origins =
    through (but_out_of n) (filter_piecewise (λ e. not (same_node e.from n))) (origin_edges sources to) (origin_edges (map (but_at n) sources) to) (origin_edges-severed n sources to) origins

pub edges_of-severed : (n : Node) (g : ProvenanceGraph) → edges_of (severed n g) ≡ but_out_of n (edges_of g)
edges_of-severed n g =
    through (but_out_of n) (filter_piecewise (λ e. not (same_node e.from n))) (reference_edges g.sources (all_origins g.provenances)) (reference_edges (map (but_at n) g.sources) (all_origins g.provenances))
    (λ r. origins-severed n g.sources r.node (origins_at (all_origins g.provenances) r.provenance)) g.references

-- ---- no edge at a node

origin_edges-gone : (n : Node) (sources : List (Option Node)) (to : Node) (origin : Origin)
    → cond (not (same_node to n)) (origin_edges (map (but_at n) sources) to origin) [] ≡ without n (origin_edges sources to origin)
origin_edges-gone n sources to origin =
    ap (λ es. cond (not (same_node to n)) es []) (ap (λ o. option_map_or edge o []) (source_at-map (but_at n) refl sources origin.source)) ∙ by_source (source_at sources origin.source)
  where
    edge : Node → List Edge
    edge from = an_edge from origin.label to ∷ []

    by_source : (o : Option Node) → cond (not (same_node to n)) (option_map_or edge (but_at n o) []) [] ≡ without n (option_map_or edge o [])
    by_source None = by_case (same_node to n) []
      where
        by_case : (b : Bool) (es : List Edge) → cond (not b) es es ≡ es
        by_case true es = refl
        by_case false es = refl
    by_source (Some m) = by_case (same_node m n) (same_node to n)
      where
        by_case : (b d : Bool) → cond (not d) (option_map_or edge (cond b None (Some m)) []) [] ≡ cond (not b && not d) (edge m) []
        by_case true true = refl
        by_case true false = refl
        by_case false true = refl
        by_case false false = refl

reference_edges-gone : (n : Node) (sources : List (Option Node)) (listed : List (List Origin)) (r : Reference)
    → cond (not (same_node r.node n)) (reference_edges (map (but_at n) sources) listed r) [] ≡ without n (reference_edges sources listed r)
reference_edges-gone n sources listed r = by_case (same_node r.node n) (origin_edges-gone n sources r.node)
  where
    origins : List Origin
    origins = origins_at listed r.provenance

    by_case : (x : Bool) → ((origin : Origin) → cond (not x) (origin_edges (map (but_at n) sources) r.node origin) [] ≡ without n (origin_edges sources r.node origin))
        → cond (not x) (flat_map (origin_edges (map (but_at n) sources) r.node) origins) [] ≡ without n (flat_map (origin_edges sources r.node) origins)
    by_case true h =
        sym (flat_map_nothing (λ (l : Origin). []) (λ l. refl) origins)
        ∙ through (without n) (filter_piecewise (λ e. not (same_node e.from n) && not (same_node e.to n))) (origin_edges sources r.node) (λ l. []) h origins
    by_case false h =
        through (without n) (filter_piecewise (λ e. not (same_node e.from n) && not (same_node e.to n))) (origin_edges sources r.node) (origin_edges (map (but_at n) sources) r.node) h origins

pub edges_of-gone : (n : Node) (g : ProvenanceGraph) → edges_of (gone n g) ≡ without n (edges_of g)
edges_of-gone n g =
    flat_map-filter (λ (r : Reference). not (same_node r.node n)) (reference_edges (map (but_at n) g.sources) (all_origins g.provenances)) g.references
    ∙ through (without n) (filter_piecewise (λ e. not (same_node e.from n) && not (same_node e.to n))) (reference_edges g.sources (all_origins g.provenances))
    (λ r. cond (not (same_node r.node n)) (reference_edges (map (but_at n) g.sources) (all_origins g.provenances) r) []) (reference_edges-gone n g.sources (all_origins g.provenances)) g.references

-- ---- one node in place of another

module _ (old new : Node) where
  origin_edges-moved : (sources : List (Option Node)) (to : Node) (origin : Origin)
      → origin_edges (map (option_map (renamed_node old new)) sources) (renamed_node old new to) origin ≡ renamed old new (origin_edges sources to origin)
  origin_edges-moved sources to origin =
      ap (λ o. option_map_or (λ from. an_edge from origin.label (renamed_node old new to) ∷ []) o []) (source_at-map (option_map (renamed_node old new)) refl sources origin.source)
      ∙ by_source (source_at sources origin.source)
    where
      by_source : (o : Option Node) → option_map_or (λ from. an_edge from origin.label (renamed_node old new to) ∷ []) (option_map (renamed_node old new) o) []
          ≡ renamed old new (option_map_or (λ from. an_edge from origin.label to ∷ []) o [])
      by_source None = refl
      by_source (Some m) = refl

  pub edges_of-moved : (g : ProvenanceGraph) → edges_of (moved old new g) ≡ renamed old new (edges_of g)
  edges_of-moved g =
      flat_map-map (reference_edges (map (option_map (renamed_node old new)) g.sources) (all_origins g.provenances)) (moved_reference old new) g.references
      ∙ through (renamed old new) (map_piecewise (renamed_edge old new)) (reference_edges g.sources (all_origins g.provenances))
      (λ r. reference_edges (map (option_map (renamed_node old new)) g.sources) (all_origins g.provenances) (moved_reference old new r))
      (λ r. through (renamed old new) (map_piecewise (renamed_edge old new)) (origin_edges g.sources r.node) (origin_edges (map (option_map (renamed_node old new)) g.sources) (renamed_node old new r.node))
      (origin_edges-moved g.sources r.node) (origins_at (all_origins g.provenances) r.provenance))
      g.references

-- ---- what a node takes over

origin_edges-taken : (change : Label → Label) (n to : Node) (sources : List (Option Node)) (node : Node) (origin : Origin)
    → cond (same_node node n) (origin_edges sources to (an_origin origin.source (change origin.label))) [] ≡ inherited change n to (origin_edges sources node origin)
origin_edges-taken change n to sources node origin = by_source (source_at sources origin.source)
  where
    by_source : (o : Option Node)
        → cond (same_node node n) (option_map_or (λ from. an_edge from (change origin.label) to ∷ []) o []) [] ≡ inherited change n to (option_map_or (λ from. an_edge from origin.label node ∷ []) o [])
    by_source None = by_case (same_node node n) []
      where
        by_case : (b : Bool) (es : List Edge) → cond b es es ≡ es
        by_case true es = refl
        by_case false es = refl
    by_source (Some m) = by_case (same_node node n)
      where
        by_case : (b : Bool) → cond b (an_edge m (change origin.label) to ∷ []) [] ≡ map (λ (e : Edge). an_edge e.from (change e.label) to) (cond b (an_edge m origin.label node ∷ []) [])
        by_case true = refl
        by_case false = refl

-- the edges of a provenance's origins with a change made to their labels
abbrev pub provenance_edges : (Label → Label) → List (Option Node) → List (List Origin) → Node → ℕ → List Edge
provenance_edges change sources listed to provenance = flat_map (origin_edges sources to) (changed_origins change (origins_at listed provenance))

pub edges_of-taken : (change : Label → Label) (n to : Node) (g : ProvenanceGraph)
    → flat_map (provenance_edges change g.sources (all_origins g.provenances) to) (provenances_at n g.references) ≡ inherited change n to (edges_of g)
edges_of-taken change n to g =
    flat_map-map (provenance_edges change g.sources listed to) (λ (r : Reference). r.provenance) (filter (λ (r : Reference). same_node r.node n) g.references)
    ∙ flat_map-filter (λ (r : Reference). same_node r.node n) (λ r. provenance_edges change g.sources listed to r.provenance) g.references
    ∙ through (inherited change n to) (inherited_piecewise change n to) (reference_edges g.sources listed) (λ r. cond (same_node r.node n) (provenance_edges change g.sources listed to r.provenance) []) one g.references
  where
    listed : List (List Origin)
    listed = all_origins g.provenances

    one : (r : Reference) → cond (same_node r.node n) (provenance_edges change g.sources listed to r.provenance) [] ≡ inherited change n to (reference_edges g.sources listed r)
    one r = by_case (same_node r.node n) (origin_edges-taken change n to g.sources r.node)
      where
        origins : List Origin
        origins = origins_at listed r.provenance

        by_case : (x : Bool) → ((origin : Origin) → cond x (origin_edges g.sources to (an_origin origin.source (change origin.label))) [] ≡ inherited change n to (origin_edges g.sources r.node origin))
            → cond x (flat_map (origin_edges g.sources to) (changed_origins change origins)) [] ≡ inherited change n to (flat_map (origin_edges g.sources r.node) origins)
        by_case true h =
            flat_map-map (origin_edges g.sources to) (λ (l : Origin). an_origin l.source (change l.label)) origins
            ∙ through (inherited change n to) (inherited_piecewise change n to) (origin_edges g.sources r.node) (λ l. origin_edges g.sources to (an_origin l.source (change l.label))) h origins
        by_case false h =
            sym (flat_map_nothing (λ (l : Origin). []) (λ l. refl) origins)
            ∙ through (inherited change n to) (inherited_piecewise change n to) (origin_edges g.sources r.node) (λ l. []) h origins
