-- What becomes of the edges where references are made ones to a field.
use Rattle.mv_edges.proofs.Common.{[], ℕ, ◌&&◌, ◌++◌, ◌<◌, ◌∙◌, ◌∷◌, ◌≡◌, ◌≤◌, Bool, Contains, List, None, Option, Some, ap, arith, cond, drop, false, flat_map, get_or}
use Rattle.mv_edges.proofs.Common.{inl, inr, length, length-append, length-drop, length-take-le, map, not, refl, set, subst, sym, take, true, true≢false, Contains-append_cases, Contains-append_left, Contains-append_right}
use Rattle.mv_edges.proofs.Common.{and_from, and_parts, flat_map-map, ltb-true, option_map_or, but_out_of, extended, inherited, into, same_node, same_node_decides, sorted, without, an_edge, Edge, Node}
use Rattle.mv_ways.specs.Between.{any_between}
use Rattle.std.specs.Prelude.{nat_lt}
use Rattle.std.specs.List.{list_all}
use Rattle.std.proofs.lemmas.Bool.{not-true}
use Rattle.std.proofs.lemmas.List.{get_or-map, length-map, map-set, set-get_or}
use Rattle.mv_edges.proofs.Changes.{contains-filter, contains-map, contains_from_filter, contains_from_map}
use Rattle.mv_ways.proofs.Piecewise.{map_piecewise, through}
use Rattle.mv_edges.proofs.Related.{list_any_from}
use Rattle.mv_edges.proofs.Sorting.{sorted_alike}
use Rattle.mv_ways.specs.declared.provenances.Reference.{Reference}
use Rattle.mv_ways.specs.Origins.{Origin}
use Rattle.mv_ways.specs.Provenances.{ProvenanceGraph, HasMoreProvenances, an_origin, a_reference, all_origins, are_below, changed_origins, edge_lists, edges_of, extended_into, origin_edges, origins_at, reference_edges, source_at}

-- ---- the edges of one reference

module _ (sources : List (Option Node)) (f : ℕ) (n : Node) where
  one_extended : (origin : Origin) → origin_edges sources n (an_origin origin.source (extended f origin.label)) ≡ map (extended_into f n) (origin_edges sources n origin)
  one_extended origin = by_source (source_at sources origin.source) (same_node n n) ((same_node_decides n n).1 refl)
    where
      by_source : (o : Option Node) (b : Bool) → b ≡ true
          → option_map_or (λ from. an_edge from (extended f origin.label) n ∷ []) o []
          ≡ map (λ (e : Edge). cond (same_node e.to n) (an_edge e.from (extended f e.label) n) e) (option_map_or (λ from. an_edge from origin.label n ∷ []) o [])
      by_source None b h = refl
      by_source (Some m) b h = ap (λ t. cond t (an_edge m (extended f origin.label) n) (an_edge m origin.label n) ∷ []) (sym ((same_node_decides n n).1 refl))

  pub edges-extended : (origins : List Origin) → flat_map (origin_edges sources n) (changed_origins (extended f) origins) ≡ map (extended_into f n) (flat_map (origin_edges sources n) origins)
  edges-extended origins =
      flat_map-map (origin_edges sources n) (λ (l : Origin). an_origin l.source (extended f l.label)) origins
      ∙ through (map (extended_into f n)) (map_piecewise (extended_into f n)) (origin_edges sources n) (λ l. origin_edges sources n (an_origin l.source (extended f l.label))) one_extended origins

  other_stays : (to : Node) → same_node to n ≡ false → (origin : Origin) → origin_edges sources to origin ≡ map (extended_into f n) (origin_edges sources to origin)
  other_stays to h origin = by_source (source_at sources origin.source)
    where
      by_source : (o : Option Node) → option_map_or (λ from. an_edge from origin.label to ∷ []) o []
          ≡ map (λ (e : Edge). cond (same_node e.to n) (an_edge e.from (extended f e.label) n) e) (option_map_or (λ from. an_edge from origin.label to ∷ []) o [])
      by_source None = refl
      by_source (Some m) = ap (λ t. cond t (an_edge m (extended f origin.label) n) (an_edge m origin.label to) ∷ []) (sym h)

  pub others-stay : (to : Node) → same_node to n ≡ false → (origins : List Origin) → flat_map (origin_edges sources to) origins ≡ map (extended_into f n) (flat_map (origin_edges sources to) origins)
  others-stay to h origins = through (map (extended_into f n)) (map_piecewise (extended_into f n)) (origin_edges sources to) (origin_edges sources to) (other_stays to h) origins

-- ---- lists

map_passing : {X Y : Type 0} (p : X → Bool) (f g : X → Y) → ((x : X) → p x ≡ true → f x ≡ g x) → (xs : List X) → list_all p xs ≡ true → map f xs ≡ map g xs
map_passing p f g h [] all = refl
map_passing p f g h (x ∷ xs) all =
    let parts = and_parts (p x) (list_all p xs) all in
    (λ i. h x parts.0 i ∷ map_passing p f g h xs parts.1 i)

-- ---- a step

-- the lists of edges stay where there are more provenances
pub lists-more : (g after : ProvenanceGraph) → are_below (length g.provenances) g.references ≡ true → HasMoreProvenances g after → edge_lists after ≡ edge_lists g
lists-more g after b m =
    (λ i. map (reference_edges (m.sources i) (all_origins after.provenances)) (m.references i))
    ∙ map_passing (λ (r : Reference). nat_lt r.provenance (length g.provenances)) (reference_edges g.sources (all_origins after.provenances)) (reference_edges g.sources (all_origins g.provenances))
    (λ r h. ap (flat_map (origin_edges g.sources r.node)) (m.kept r.provenance (ltb-true r.provenance (length g.provenances) h))) g.references b

-- a reference of the node
pub extended_there : (f : ℕ) (n : Node) (g mid after : ProvenanceGraph) (place provenance : ℕ) (r : Reference) → are_below (length g.provenances) g.references ≡ true → place < length g.references
    → r ≡ get_or g.references place r → same_node r.node n ≡ true → HasMoreProvenances g mid
    → origins_at (all_origins mid.provenances) provenance ≡ changed_origins (extended f) (origins_at (all_origins g.provenances) r.provenance)
    → after ≡ record { sources = mid.sources; provenances = mid.provenances; references = set mid.references place (a_reference n provenance) }
    → edge_lists after ≡ set (edge_lists g) place (map (extended_into f n) (get_or (edge_lists g) place []))
extended_there f n g mid after place provenance r b inside at same m origins e =
    let there : get_or (edge_lists g) place [] ≡ reference_edges g.sources (all_origins g.provenances) r =
    get_or-map (reference_edges g.sources (all_origins g.provenances)) g.references place r [] inside ∙ ap (reference_edges g.sources (all_origins g.provenances)) (sym at) in
    let node : r.node ≡ n = (same_node_decides r.node n).0 same in
    let new : reference_edges mid.sources (all_origins mid.provenances) (a_reference n provenance) ≡ map (extended_into f n) (get_or (edge_lists g) place []) =
    (λ i. flat_map (origin_edges (m.sources i) n) (origins i))
    ∙ edges-extended g.sources f n (origins_at (all_origins g.provenances) r.provenance)
    ∙ ap (λ to. map (extended_into f n) (flat_map (origin_edges g.sources to) (origins_at (all_origins g.provenances) r.provenance))) (sym node)
    ∙ ap (map (extended_into f n)) (sym there) in
    ap edge_lists e
    ∙ map-set (reference_edges mid.sources (all_origins mid.provenances)) mid.references place (a_reference n provenance)
    ∙ (λ i. set (lists-more g mid b m i) place (new i))

-- another one
pub extended_elsewhere : (f : ℕ) (n : Node) (g : ProvenanceGraph) (place : ℕ) (r : Reference) → place < length g.references → r ≡ get_or g.references place r → same_node r.node n ≡ false
    → edge_lists g ≡ set (edge_lists g) place (map (extended_into f n) (get_or (edge_lists g) place []))
extended_elsewhere f n g place r inside at other =
    let there : get_or (edge_lists g) place [] ≡ reference_edges g.sources (all_origins g.provenances) r =
    get_or-map (reference_edges g.sources (all_origins g.provenances)) g.references place r [] inside ∙ ap (reference_edges g.sources (all_origins g.provenances)) (sym at) in
    sym (set-get_or (edge_lists g) place [])
    ∙ ap (set (edge_lists g) place) (there ∙ others-stay g.sources f n r.node other (origins_at (all_origins g.provenances) r.provenance) ∙ ap (map (extended_into f n)) (sym there))

-- ---- all steps

pub length_in_place : {X : Type 0} (f : X → X) (xs ys : List X) (i : ℕ) → i ≤ length xs → ys ≡ map f (take i xs) ++ drop i xs → length ys ≡ length xs
length_in_place f xs ys i h e =
    let whole = ap length e in
    let first = length-append (map f (take i xs)) (drop i xs) in
    let mapped = length-map (take i xs) f in
    let taken = length-take-le i xs h in
    let dropped = length-drop i xs in
    omega (arith, whole, first, mapped, taken, dropped, h)

pub lists_done : (f : ℕ) (n : Node) (g after : ProvenanceGraph) → edge_lists after ≡ map (map (extended_into f n)) (edge_lists g) → edges_of after ≡ map (extended_into f n) (edges_of g)
lists_done f n g after e =
    sym (flat_map-map (λ es. es) (reference_edges after.sources (all_origins after.provenances)) after.references)
    ∙ ap (flat_map (λ (es : List Edge). es)) e
    ∙ flat_map-map (λ (es : List Edge). es) (map (extended_into f n)) (edge_lists g)
    ∙ through (map (extended_into f n)) (map_piecewise (extended_into f n)) (λ (es : List Edge). es) (map (extended_into f n)) (λ es. refl) (edge_lists g)
    ∙ ap (map (extended_into f n)) (flat_map-map (λ es. es) (reference_edges g.sources (all_origins g.provenances)) g.references)

-- ---- what the rule says

module _ (f : ℕ) (n : Node) (es : List Edge) (free : any_between (λ m. same_node m n) None (λ m. same_node m n) es ≡ false) where
  -- no edge leads from the node to itself
  apart : (e : Edge) → Contains es e → same_node e.to n ≡ true → same_node e.from n ≡ false
  apart e c to = by_case (same_node e.from n) refl
    where
      by_case : (b : Bool) → same_node e.from n ≡ b → b ≡ false
      by_case false h = refl
      by_case true h =
          absurd (true≢false (sym (list_any_from (λ x. same_node x.from n && (true && same_node x.to n)) es e c (and_from (same_node e.from n) (true && same_node e.to n) h (and_from true (same_node e.to n) refl to))) ∙ free))

  abbrev reborrow : Edge → Edge
  reborrow e = an_edge e.from (extended f e.label) n

  extended_is : (e : Edge) → same_node e.to n ≡ true → extended_into f n e ≡ reborrow e
  extended_is e h = ap (λ b. cond b (reborrow e) e) h

  stays_is : (e : Edge) → same_node e.to n ≡ false → extended_into f n e ≡ e
  stays_is e h = ap (λ b. cond b (reborrow e) e) h

  to_rule : (z : Edge) → Contains (but_out_of n (map (extended_into f n) es)) z → Contains (without n es ++ inherited (extended f) n n es) z
  to_rule z c =
      let at = contains_from_filter (λ e. not (same_node e.from n)) (map (extended_into f n) es) z c in
      let made = contains_from_map (extended_into f n) es z at.0 in
      by_case made.0 made.1.0 made.1.1 at.1 (same_node made.0.to n) refl
    where
      by_case : (e : Edge) → Contains es e → extended_into f n e ≡ z → not (same_node z.from n) ≡ true → (b : Bool) → same_node e.to n ≡ b
          → Contains (without n es ++ inherited (extended f) n n es) z
      by_case e there is out true h =
          Contains-append_right (without n es) (inherited (extended f) n n es) z
          (subst (Contains (inherited (extended f) n n es)) (sym (extended_is e h) ∙ is) (contains-map reborrow (into n es) e (contains-filter (λ x. same_node x.to n) es e there h)))
      by_case e there is out false h =
          let same : e ≡ z = sym (stays_is e h) ∙ is in
          Contains-append_left (without n es) (inherited (extended f) n n es) z
          (subst (Contains (without n es)) same
          (contains-filter (λ x. not (same_node x.from n) && not (same_node x.to n)) es e there
          (and_from (not (same_node e.from n)) (not (same_node e.to n)) (ap (λ (x : Edge). not (same_node x.from n)) same ∙ out) (ap not h))))

  from_rule : (z : Edge) → Contains (without n es ++ inherited (extended f) n n es) z → Contains (but_out_of n (map (extended_into f n) es)) z
  from_rule z c =
      elim (Contains-append_cases (without n es) (inherited (extended f) n n es) z c) [
        | inl d ↦
            let at = contains_from_filter (λ x. not (same_node x.from n) && not (same_node x.to n)) es z d in
            let parts = and_parts (not (same_node z.from n)) (not (same_node z.to n)) at.1 in
            contains-filter (λ e. not (same_node e.from n)) (map (extended_into f n) es) z
            (subst (Contains (map (extended_into f n) es)) (stays_is z (not-true (same_node z.to n) parts.1)) (contains-map (extended_into f n) es z at.0)) parts.0
        | inr d ↦
            let made = contains_from_map reborrow (into n es) z d in
            let at = contains_from_filter (λ x. same_node x.to n) es made.0 made.1.0 in
            contains-filter (λ e. not (same_node e.from n)) (map (extended_into f n) es) z
            (subst (Contains (map (extended_into f n) es)) (extended_is made.0 at.1 ∙ made.1.1) (contains-map (extended_into f n) es made.0 at.0))
            (ap (λ (x : Edge). not (same_node x.from n)) (sym made.1.1) ∙ ap not (apart made.0 at.0 at.1))
      ]

  pub extended_alike : sorted (but_out_of n (map (extended_into f n) es)) ≡ sorted (without n es ++ inherited (extended f) n n es)
  extended_alike = sorted_alike (but_out_of n (map (extended_into f n) es)) (without n es ++ inherited (extended f) n n es) (λ z. (to_rule z, from_rule z))

pub edges_extended : (f : ℕ) (n : Node) (g mid after : ProvenanceGraph) → any_between (λ m. same_node m n) None (λ m. same_node m n) (edges_of g) ≡ false
    → edges_of mid ≡ map (extended_into f n) (edges_of g) → edges_of after ≡ but_out_of n (edges_of mid)
    → sorted (edges_of after) ≡ sorted (without n (edges_of g) ++ inherited (extended f) n n (edges_of g))
edges_extended f n g mid after free made out = ap sorted (out ∙ ap (but_out_of n) made) ∙ extended_alike f n (edges_of g) free
