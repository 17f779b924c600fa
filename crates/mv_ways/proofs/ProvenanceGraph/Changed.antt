-- What becomes of the edges where a graph of provenances is changed, and what changes keep.
use Rattle.mv_edges.proofs.Common.{[], ℕ, ◌++◌, ◌+◌, ◌<◌, ◌∙◌, ◌∷◌, ◌≡◌, List, None, Option, Some, ap, append-nil, arith, filter, append_assoc, flat_map, get_or_from_slice_get, length, option_map_or, refl, slice_get, slice_get_within, sym, take, take_all, take_more, ◌-◌, an_edge, here}
use Rattle.mv_edges.proofs.Common.{but_out_of, inherited, renamed, same_node, sorted, without, Edge, Node, flat_map-append, flat_map-map}
use Rattle.mv_ways.specs.declared.provenances.Provenance.TheVariants.{Lent}
use Rattle.mv_ways.specs.declared.provenances.Reference.{Reference}
use Rattle.mv_ways.specs.Origins.{Origin}
use Rattle.mv_ways.specs.Provenances.{ProvenanceGraph, an_origin, a_reference, all_origins, changed_origins, copied, edges_by, edges_of, gone, origins_at, origins_of, origin_edges, moved, reference_edges, severed, source_at, provenances_at, with_references}
use Rattle.mv_ways.proofs.ProvenanceGraph.Steps.{edges_of-gone, edges_of-moved, edges_of-severed, edges_of-taken, provenance_edges}
use Rattle.mv_ways.proofs.Piecewise.{flat_map_alike}

pub edges_severed : (n : Node) (g after : ProvenanceGraph) → after ≡ severed n g → edges_of after ≡ but_out_of n (edges_of g)
edges_severed n g after e = ap edges_of e ∙ edges_of-severed n g

pub edges_gone : (n : Node) (g left after : ProvenanceGraph) → left ≡ gone n g → edges_of after ≡ edges_of left → edges_of after ≡ without n (edges_of g)
edges_gone n g left after e same = same ∙ ap edges_of e ∙ edges_of-gone n g

pub edges_moved : (old new : Node) (g after : ProvenanceGraph) → after ≡ moved old new g → edges_of after ≡ renamed old new (edges_of g)
edges_moved old new g after e = ap edges_of e ∙ edges_of-moved old new g

-- no change
unchanged : (origins : List Origin) → changed_origins (λ label. label) origins ≡ origins
unchanged [] = refl
unchanged (l ∷ origins) = ap (λ ls. l ∷ ls) (unchanged origins)

-- the edges of copies
edges-copied : (old new : Node) (g : ProvenanceGraph) → flat_map (reference_edges g.sources (all_origins g.provenances)) (copied old new g.references) ≡ inherited (λ label. label) old new (edges_of g)
edges-copied old new g =
    flat_map-map (reference_edges g.sources (all_origins g.provenances)) (λ (r : Reference). record { node = new; provenance = r.provenance }) (filter (λ (r : Reference). same_node r.node old) g.references)
    ∙ sym (flat_map-map (edges_by g new) (λ (r : Reference). r.provenance) (filter (λ (r : Reference). same_node r.node old) g.references))
    ∙ flat_map_alike (edges_by g new) (provenance_edges (λ label. label) g.sources (all_origins g.provenances) new) (λ provenance. ap (flat_map (origin_edges g.sources new)) (sym (unchanged (origins_at (all_origins g.provenances) provenance)))) (provenances_at old g.references)
    ∙ edges_of-taken (λ label. label) old new g

pub edges_shared : (old new : Node) (g after : ProvenanceGraph) → after ≡ with_references (copied old new g.references) g
    → sorted (edges_of after) ≡ sorted (edges_of g ++ inherited (λ label. label) old new (edges_of g))
edges_shared old new g after e =
    ap (λ x. sorted (edges_of x)) e
    ∙ ap sorted (flat_map-append (reference_edges g.sources (all_origins g.provenances)) g.references (copied old new g.references) ∙ ap (λ es. edges_of g ++ es) (edges-copied old new g))

pub edges_lent : (from to : Node) (g mid popped after : ProvenanceGraph) (source : ℕ) (over : Option ℕ) → edges_of mid ≡ edges_of g → source_at mid.sources source ≡ Some from
    → mid ≡ record { sources = popped.sources; provenances = popped.provenances; references = popped.references ++ option_map_or (λ provenance. a_reference to provenance ∷ []) over [] }
    → edges_of after ≡ edges_of popped ++ flat_map (origin_edges popped.sources to) (origins_of (all_origins popped.provenances) (Lent source over))
    → sorted (edges_of after) ≡ sorted (edges_of g ++ an_edge from here to ∷ [])
edges_lent from to g mid popped after source over same at before e = ap sorted (e ∙ by_over over before ∙ ap (λ es. es ++ an_edge from here to ∷ []) same)
  where
    own : source_at popped.sources source ≡ Some from → origin_edges popped.sources to (an_origin source here) ≡ an_edge from here to ∷ []
    own h = ap (λ o. option_map_or (λ m. an_edge m here to ∷ []) o []) h

    by_over : (o : Option ℕ) → mid ≡ record { sources = popped.sources; provenances = popped.provenances; references = popped.references ++ option_map_or (λ provenance. a_reference to provenance ∷ []) o [] }
        → edges_of popped ++ flat_map (origin_edges popped.sources to) (origins_of (all_origins popped.provenances) (Lent source o)) ≡ edges_of mid ++ an_edge from here to ∷ []
    by_over None was =
        let there : source_at popped.sources source ≡ Some from = ap (λ (x : ProvenanceGraph). source_at x.sources source) (sym was) ∙ at in
        ap (λ es. edges_of popped ++ es) (append-nil (origin_edges popped.sources to (an_origin source here)) ∙ own there)
        ∙ ap (λ es. es ++ an_edge from here to ∷ [])
        (ap (flat_map (reference_edges popped.sources (all_origins popped.provenances))) (sym (append-nil popped.references)) ∙ ap edges_of (sym was))
    by_over (Some provenance) was =
        let there : source_at popped.sources source ≡ Some from = ap (λ (x : ProvenanceGraph). source_at x.sources source) (sym was) ∙ at in
        let copied_edges : List Edge = flat_map (origin_edges popped.sources to) (origins_at (all_origins popped.provenances) provenance) in
        ap (λ es. edges_of popped ++ es)
        (flat_map-append (origin_edges popped.sources to) (origins_at (all_origins popped.provenances) provenance) (an_origin source here ∷ [])
        ∙ ap (λ es. copied_edges ++ es) (append-nil (origin_edges popped.sources to (an_origin source here)) ∙ own there))
        ∙ sym (append_assoc (edges_of popped) copied_edges (an_edge from here to ∷ []))
        ∙ ap (λ es. es ++ an_edge from here to ∷ [])
        (ap (λ es. edges_of popped ++ es) (sym (append-nil copied_edges))
        ∙ sym (flat_map-append (reference_edges popped.sources (all_origins popped.provenances)) popped.references (a_reference to provenance ∷ []))
        ∙ ap edges_of (sym was))

-- the last reference
pub last_reference : (rs left : List Reference) (count : ℕ) (r : Reference) → count ≡ length rs → slice_get rs (length rs - 1) ≡ Some r → left ≡ take (count - 1) rs → rs ≡ left ++ r ∷ []
last_reference rs left count r long at is =
    let i = length rs - 1 in
    let inside : i < length rs = slice_get_within rs i r at in
    sym (take_all (i + 1) rs (omega (arith, inside)))
    ∙ take_more rs i r inside
    ∙ ap (λ x. take i rs ++ x ∷ []) (get_or_from_slice_get rs i r r at)
    ∙ ap (λ xs. xs ++ r ∷ []) (ap (λ n. take (n - 1) rs) (sym long) ∙ sym is)
