-- What changes of a graph of provenances keep: provenances go over earlier ones, begin with sources that there are, and are those of
-- references.
use Rattle.mv_edges.proofs.Common.{[], ℕ, ◌&&◌, ◌++◌, ◌+◌, ◌<◌, ◌∙◌, ◌∷◌, ◌≡◌, ◌≤◌, Bool, List, None, Option, Some, ap, arith, drop, filter, flat_map, get_or, length, map, not, option_map, refl, subst, suc, sym}
use Rattle.mv_edges.proofs.Common.{take, take-append-drop, true, zero, and_from, and_parts, extended, here, length-append, list_all, list_all-append, list_all-map, lt-ltb, ltb-true, opened}
use Rattle.mv_ways.specs.Between.{but_at}
use Rattle.mv_edges.proofs.Common.{append-nil, flat_map-append, get_or_from_slice_get, option_map_or, renamed_node, same_node, set, slice_get, slice_get-get_or, slice_get_within, take_more, Node}
use Rattle.std.specs.Prelude.{nat_lt}
use Rattle.std.proofs.lemmas.List.{length-map}
use Rattle.std.proofs.lemmas.List.Sums.{fold-append}
use Rattle.std.proofs.Math.ListN.{get_or-append}
use Rattle.mv_edges.proofs.Insertion.{all_filter, all_weaker}
use Rattle.mv_ways.proofs.Piecewise.{flat_map_passing}
use Rattle.mv_ways.specs.declared.provenances.Reference.{Reference}
use Rattle.mv_ways.specs.declared.provenances.Provenance.{Provenance}
use Rattle.mv_ways.specs.declared.provenances.Provenance.TheVariants.{Stated, Lent, Field, Returned}
use Rattle.mv_ways.specs.Origins.{Origin}
use Rattle.mv_ways.specs.Provenances.{ProvenanceGraph, HasMoreSources, an_origin, all_origins, are_below, are_earlier, changed_origins, edges_of, goes_below, is_known, is_whole, origin_edges, origins_at, origins_of, moved_reference}
use Rattle.mv_ways.specs.Provenances.{HasMoreProvenances, a_reference, reference_edges, with_origins_of, with_reference, with_provenance}
use Rattle.mv_ways.proofs.ProvenanceGraph.Listing.{origins-kept, origins_at-earlier, origins_at-last, origins_at-provenance, length-all_origins}
use Rattle.mv_ways.proofs.ProvenanceGraph.Opened.{field_of_returned, returned_again}
use Rattle.std.proofs.Common.{Vec, Global}

-- ---- the parts of the invariant

pub record IsWhole (g : ProvenanceGraph) : Type 0 where
  pub earlier : are_earlier 0 g.provenances ≡ true
  pub below : are_below (length g.provenances) g.references ≡ true
  pub known : list_all (is_known (length g.sources)) g.provenances ≡ true

pub whole_parts : (g : ProvenanceGraph) → is_whole g ≡ true → IsWhole g
whole_parts g h =
    let parts = and_parts (are_earlier 0 g.provenances) (are_below (length g.provenances) g.references && list_all (is_known (length g.sources)) g.provenances) h in
    let rest = and_parts (are_below (length g.provenances) g.references) (list_all (is_known (length g.sources)) g.provenances) parts.1 in
    record { earlier = parts.0; below = rest.0; known = rest.1 }

pub whole_from : (g : ProvenanceGraph) → IsWhole g → is_whole g ≡ true
whole_from g w =
    and_from (are_earlier 0 g.provenances) (are_below (length g.provenances) g.references && list_all (is_known (length g.sources)) g.provenances) w.earlier
    (and_from (are_below (length g.provenances) g.references) (list_all (is_known (length g.sources)) g.provenances) w.below w.known)

-- ---- numbers

abbrev pub is_origin_known : ℕ → Origin → Bool
is_origin_known count l = nat_lt l.source count

pub less_more : (k m n : ℕ) → k ≤ m → nat_lt n k ≡ true → nat_lt n m ≡ true
less_more k m n le h = lt-ltb n m (omega (arith, ltb-true n k h))

pub origins_more : (k m : ℕ) (origins : List Origin) → k ≤ m → list_all (is_origin_known k) origins ≡ true → list_all (is_origin_known m) origins ≡ true
origins_more k m origins le = all_weaker (is_origin_known k) (is_origin_known m) (λ l. less_more k m l.source le) origins

known_more : (k m : ℕ) (provenance : Provenance) → k ≤ m → is_known k provenance ≡ true → is_known m provenance ≡ true
known_more k m (Stated origins) le h = origins_more k m origins.items le h
known_more k m (Lent source over) le h = less_more k m source le h
known_more k m (Field over position) le h = refl
known_more k m (Returned provenances) le h = refl

pub all_known_more : (k m : ℕ) (provenances : List Provenance) → k ≤ m → list_all (is_known k) provenances ≡ true → list_all (is_known m) provenances ≡ true
all_known_more k m provenances le = all_weaker (is_known k) (is_known m) (λ provenance. known_more k m provenance le) provenances

pub below_more : (k m : ℕ) (rs : List Reference) → k ≤ m → are_below k rs ≡ true → are_below m rs ≡ true
below_more k m rs le = all_weaker (λ (r : Reference). nat_lt r.provenance k) (λ (r : Reference). nat_lt r.provenance m) (λ r. less_more k m r.provenance le) rs

-- ---- provenances more, and fewer

pub earlier_push : (place : ℕ) (provenances : List Provenance) (provenance : Provenance) → are_earlier place provenances ≡ true → goes_below (place + length provenances) provenance ≡ true → are_earlier place (provenances ++ provenance ∷ []) ≡ true
earlier_push place [] provenance e h =
    let same : place + 0 ≡ place = omega arith in
    and_from (goes_below place provenance) true (subst (λ k. goes_below k provenance ≡ true) same h) refl
earlier_push place (w ∷ provenances) provenance e h =
    let parts = and_parts (goes_below place w) (are_earlier (place + 1) provenances) e in
    let next : place + length (w ∷ provenances) ≡ place + 1 + length provenances = omega arith in
    and_from (goes_below place w) (are_earlier (place + 1) (provenances ++ provenance ∷ [])) parts.0 (earlier_push (place + 1) provenances provenance parts.1 (subst (λ k. goes_below k provenance ≡ true) next h))

earlier_front : (place : ℕ) (provenances more : List Provenance) → are_earlier place (provenances ++ more) ≡ true → are_earlier place provenances ≡ true
earlier_front place [] more e = refl
earlier_front place (w ∷ provenances) more e =
    let parts = and_parts (goes_below place w) (are_earlier (place + 1) (provenances ++ more)) e in
    and_from (goes_below place w) (are_earlier (place + 1) provenances) parts.0 (earlier_front (place + 1) provenances more parts.1)

pub earlier_take : (count : ℕ) (provenances : List Provenance) → are_earlier 0 provenances ≡ true → are_earlier 0 (take count provenances) ≡ true
earlier_take count provenances e = earlier_front 0 (take count provenances) (drop count provenances) (subst (λ ws. are_earlier 0 ws ≡ true) (sym (take-append-drop count provenances)) e)

pub all_take : {X : Type 0} (p : X → Bool) (count : ℕ) (xs : List X) → list_all p xs ≡ true → list_all p (take count xs) ≡ true
all_take p count xs h =
    (and_parts (list_all p (take count xs)) (list_all p (drop count xs)) (sym (list_all-append p (take count xs) (drop count xs)) ∙ ap (list_all p) (take-append-drop count xs) ∙ h)).0

pub all_push : {X : Type 0} (p : X → Bool) (xs : List X) (x : X) → list_all p xs ≡ true → p x ≡ true → list_all p (xs ++ x ∷ []) ≡ true
all_push p xs x h g = list_all-append p xs (x ∷ []) ∙ and_from (list_all p xs) (list_all p (x ∷ [])) h (and_from (p x) true g refl)

-- ---- the changes

pub with_source_whole : (source : Option Node) (g : ProvenanceGraph) (sources : List (Option Node)) → sources ≡ g.sources ++ source ∷ [] → is_whole g ≡ true
    → is_whole (record { sources = sources; provenances = g.provenances; references = g.references }) ≡ true
with_source_whole source g sources e h =
    let w = whole_parts g h in
    let more : length g.sources ≤ length sources = omega (arith, ap length e, length-append g.sources (source ∷ [])) in
    whole_from (record { sources = sources; provenances = g.provenances; references = g.references }) (record { earlier = w.earlier; below = w.below; known = all_known_more (length g.sources) (length sources) g.provenances more w.known })

pub with_provenance_whole : (provenance : Provenance) (g : ProvenanceGraph) (provenances : List Provenance) → provenances ≡ g.provenances ++ provenance ∷ [] → goes_below (length g.provenances) provenance ≡ true → is_known (length g.sources) provenance ≡ true → is_whole g ≡ true
    → is_whole (record { sources = g.sources; provenances = provenances; references = g.references }) ≡ true
with_provenance_whole provenance g provenances e b k h =
    let w = whole_parts g h in
    let more : length g.provenances ≤ length provenances = omega (arith, ap length e, length-append g.provenances (provenance ∷ [])) in
    let at : 0 + length g.provenances ≡ length g.provenances = omega arith in
    whole_from (record { sources = g.sources; provenances = provenances; references = g.references })
    (record {
      earlier = ap (are_earlier 0) e ∙ earlier_push 0 g.provenances provenance w.earlier (subst (λ n. goes_below n provenance ≡ true) (sym at) b);
      below = below_more (length g.provenances) (length provenances) g.references more w.below;
      known = ap (list_all (is_known (length g.sources))) e ∙ all_push (is_known (length g.sources)) g.provenances provenance w.known k;
    })

-- other references, each with a provenance that there is
pub with_references_whole : (g : ProvenanceGraph) (references : List Reference) → are_below (length g.provenances) references ≡ true → is_whole g ≡ true
    → is_whole (record { sources = g.sources; provenances = g.provenances; references = references }) ≡ true
with_references_whole g references b h =
    let w = whole_parts g h in
    whole_from (record { sources = g.sources; provenances = g.provenances; references = references }) (record { earlier = w.earlier; below = b; known = w.known })

-- as many sources
pub with_sources_whole : (g : ProvenanceGraph) (sources : List (Option Node)) → length sources ≡ length g.sources → is_whole g ≡ true
    → is_whole (record { sources = sources; provenances = g.provenances; references = g.references }) ≡ true
with_sources_whole g sources e h =
    let w = whole_parts g h in
    whole_from (record { sources = sources; provenances = g.provenances; references = g.references }) (record { earlier = w.earlier; below = w.below; known = ap (λ n. list_all (is_known n) g.provenances) e ∙ w.known })

pub severed_whole : (n : Node) (g : ProvenanceGraph) (sources : List (Option Node)) → sources ≡ map (but_at n) g.sources → is_whole g ≡ true
    → is_whole (record { sources = sources; provenances = g.provenances; references = g.references }) ≡ true
severed_whole n g sources e h = with_sources_whole g sources (ap length e ∙ length-map g.sources (but_at n)) h

pub gone_whole : (n : Node) (g : ProvenanceGraph) (sources : List (Option Node)) (references : List Reference) → sources ≡ map (but_at n) g.sources
    → references ≡ filter (λ (r : Reference). not (same_node r.node n)) g.references → is_whole g ≡ true
    → is_whole (record { sources = sources; provenances = g.provenances; references = references }) ≡ true
gone_whole n g sources references e f h =
    with_references_whole (record { sources = sources; provenances = g.provenances; references = g.references }) references
    (ap (are_below (length g.provenances)) f ∙ all_filter (λ (r : Reference). not (same_node r.node n)) (λ (r : Reference). nat_lt r.provenance (length g.provenances)) g.references (whole_parts g h).below)
    (severed_whole n g sources e h)

pub moved_whole : (old new : Node) (g : ProvenanceGraph) (sources : List (Option Node)) (references : List Reference) → sources ≡ map (option_map (renamed_node old new)) g.sources
    → references ≡ map (moved_reference old new) g.references → is_whole g ≡ true
    → is_whole (record { sources = sources; provenances = g.provenances; references = references }) ≡ true
moved_whole old new g sources references e f h =
    with_references_whole (record { sources = sources; provenances = g.provenances; references = g.references }) references
    (ap (are_below (length g.provenances)) f ∙ list_all-map (λ (r : Reference). nat_lt r.provenance (length g.provenances)) (moved_reference old new) g.references ∙ (whole_parts g h).below)
    (with_sources_whole g sources (ap length e ∙ length-map g.sources (option_map (renamed_node old new))) h)

-- the first provenances, among which are all that references have
pub kept_whole : (count : ℕ) (g : ProvenanceGraph) (provenances : List Provenance) → provenances ≡ take count g.provenances → count ≤ length g.provenances → are_below count g.references ≡ true → is_whole g ≡ true
    → is_whole (record { sources = g.sources; provenances = provenances; references = g.references }) ≡ true
kept_whole count g provenances e le b h =
    let w = whole_parts g h in
    let long : length provenances ≡ count = ap length e ∙ Rattle.mv_edges.proofs.Common.length-take-le count g.provenances le in
    whole_from (record { sources = g.sources; provenances = provenances; references = g.references })
    (record {
      earlier = ap (are_earlier 0) e ∙ earlier_take count g.provenances w.earlier;
      below = ap (λ n. are_below n g.references) long ∙ b;
      known = ap (list_all (is_known (length g.sources))) e ∙ all_take (is_known (length g.sources)) count g.provenances w.known;
    })

-- ---- the edges stay

-- with more sources where those that there were are where they were
all_get_or : {X : Type 0} (p : X → Bool) (xs : List X) (k : ℕ) (d : X) → list_all p xs ≡ true → p d ≡ true → p (get_or xs k d) ≡ true
all_get_or p [] k d h g = g
all_get_or p (x ∷ xs) zero d h g = (and_parts (p x) (list_all p xs) h).0
all_get_or p (x ∷ xs) (suc k) d h g = all_get_or p xs k d (and_parts (p x) (list_all p xs) h).1 g

module _ (count : ℕ) where
  abbrev are_origins_known : List Origin → Bool
  are_origins_known origins = list_all (is_origin_known count) origins

  changed_known : (change : Rattle.mv_edges.specs.Edges.Label → Rattle.mv_edges.specs.Edges.Label) (origins : List Origin) → are_origins_known origins ≡ true → are_origins_known (changed_origins change origins) ≡ true
  changed_known change origins h = list_all-map (is_origin_known count) (λ (l : Origin). an_origin l.source (change l.label)) origins ∙ h

  origins_of_known : (listed : List (List Origin)) (provenance : Provenance) → list_all are_origins_known listed ≡ true → is_known count provenance ≡ true → are_origins_known (origins_of listed provenance) ≡ true
  origins_of_known listed (Stated origins) h k = k
  origins_of_known listed (Lent source None) h k = and_from (nat_lt source count) true k refl
  origins_of_known listed (Lent source (Some over)) h k = all_push (is_origin_known count) (origins_at listed over) (an_origin source here) (all_get_or are_origins_known listed over [] h refl) k
  origins_of_known listed (Field over position) h k = changed_known (extended position) (origins_at listed over) (all_get_or are_origins_known listed over [] h refl)
  origins_of_known listed (Returned provenances) h k = each provenances.items
    where
      each : (ks : List ℕ) → are_origins_known (flat_map (λ over. changed_origins opened (origins_at listed over)) ks) ≡ true
      each [] = refl
      each (j ∷ ks) =
          list_all-append (is_origin_known count) (changed_origins opened (origins_at listed j)) (flat_map (λ over. changed_origins opened (origins_at listed over)) ks)
          ∙ and_from (are_origins_known (changed_origins opened (origins_at listed j))) (are_origins_known (flat_map (λ over. changed_origins opened (origins_at listed over)) ks))
          (changed_known opened (origins_at listed j) (all_get_or are_origins_known listed j [] h refl)) (each ks)

  all_origins_known : (listed : List (List Origin)) (provenances : List Provenance) → list_all are_origins_known listed ≡ true → list_all (is_known count) provenances ≡ true
      → list_all are_origins_known (Rattle.mv_edges.proofs.Common.fold with_origins_of listed provenances) ≡ true
  all_origins_known listed [] h k = h
  all_origins_known listed (provenance ∷ provenances) h k =
      let parts = and_parts (is_known count provenance) (list_all (is_known count) provenances) k in
      all_origins_known (with_origins_of listed provenance) provenances (all_push are_origins_known listed (origins_of listed provenance) h (origins_of_known listed provenance h parts.0)) parts.1

  -- what leads to a provenance begins with sources that there are
  pub origins_known : (provenances : List Provenance) (place : ℕ) → list_all (is_known count) provenances ≡ true → list_all (is_origin_known count) (origins_at (all_origins provenances) place) ≡ true
  origins_known provenances place k = all_get_or are_origins_known (all_origins provenances) place [] (all_origins_known [] provenances refl k) refl

pub origin_edges-more : (before after : List (Option Node)) → HasMoreSources before after → (to : Node) (origins : List Origin) → list_all (is_origin_known (length before)) origins ≡ true
    → flat_map (origin_edges after to) origins ≡ flat_map (origin_edges before to) origins
origin_edges-more before after m to origins h =
    flat_map_passing (is_origin_known (length before)) (origin_edges after to) (origin_edges before to)
    (λ l k. ap (λ o. option_map_or (λ from. Rattle.mv_edges.specs.Edges.an_edge from l.label to ∷ []) o []) (m.kept l.source (ltb-true l.source (length before) k))) origins h

pub edges_of-more : (g : ProvenanceGraph) (after : List (Option Node)) → list_all (is_known (length g.sources)) g.provenances ≡ true → HasMoreSources g.sources after
    → edges_of (record { sources = after; provenances = g.provenances; references = g.references }) ≡ edges_of g
edges_of-more g after k m =
    Rattle.mv_ways.proofs.Piecewise.flat_map_alike (reference_edges after (all_origins g.provenances)) (reference_edges g.sources (all_origins g.provenances))
    (λ r. origin_edges-more g.sources after m r.node (origins_at (all_origins g.provenances) r.provenance) (origins_known (length g.sources) g.provenances r.provenance k)) g.references

pub more_sources : (sources : List (Option Node)) (source : Option Node) → HasMoreSources sources (sources ++ source ∷ [])
more_sources sources source = record {
  more = omega (arith, length-append sources (source ∷ []));
  kept = λ k h. ap (λ o. option_map_or (λ s. s) o None) (
      slice_get-get_or (sources ++ source ∷ []) k None (omega (arith, h, length-append sources (source ∷ [])))
      ∙ ap Some (get_or-append sources (source ∷ []) None k h) ∙ sym (slice_get-get_or sources k None h)
      );
}

-- what leads to the first provenances is the same with fewer behind them
pub origins_at-front : (provenances more : List Provenance) (k : ℕ) → k < length provenances → origins_at (all_origins (provenances ++ more)) k ≡ origins_at (all_origins provenances) k
origins_at-front provenances more k h =
    ap (λ listed. origins_at listed k) (fold-append with_origins_of [] provenances more)
    ∙ origins-kept (all_origins provenances) more k (let long = length-all_origins provenances in omega (arith, h, long))

pub edges_of-kept : (g : ProvenanceGraph) (count : ℕ) → count ≤ length g.provenances → are_below count g.references ≡ true
    → edges_of (record { sources = g.sources; provenances = take count g.provenances; references = g.references }) ≡ edges_of g
edges_of-kept g count le b =
    flat_map_passing (λ (r : Reference). nat_lt r.provenance count) (reference_edges g.sources (all_origins (take count g.provenances))) (reference_edges g.sources (all_origins g.provenances)) one g.references b
  where
    one : (r : Reference) → nat_lt r.provenance count ≡ true → reference_edges g.sources (all_origins (take count g.provenances)) r ≡ reference_edges g.sources (all_origins g.provenances) r
    one r h =
        let long = Rattle.mv_edges.proofs.Common.length-take-le count g.provenances le in
        let inside = ltb-true r.provenance count h in
        ap (flat_map (origin_edges g.sources r.node))
        (sym (origins_at-front (take count g.provenances) (drop count g.provenances) r.provenance (omega (arith, long, inside)))
        ∙ ap (λ ws. origins_at (all_origins ws) r.provenance) (take-append-drop count g.provenances))

-- ---- provenances more

pub same_provenances : (g : ProvenanceGraph) → HasMoreProvenances g g
same_provenances g = record { more = omega arith; kept = λ k h. refl; sources = refl; references = refl }

pub more_provenances : (provenance : Provenance) (g after : ProvenanceGraph) → after ≡ with_provenance provenance g → HasMoreProvenances g after
more_provenances provenance g after e = record {
  more = omega (arith, ap (λ (x : ProvenanceGraph). length x.provenances) e, length-append g.provenances (provenance ∷ []));
  kept = λ k h. ap (λ (x : ProvenanceGraph). origins_at (all_origins x.provenances) k) e ∙ origins_at-earlier g.provenances provenance k h;
  sources = ap (λ (x : ProvenanceGraph). x.sources) e;
  references = ap (λ (x : ProvenanceGraph). x.references) e;
}

pub edges_of-more_provenances : (g after : ProvenanceGraph) → are_below (length g.provenances) g.references ≡ true → HasMoreProvenances g after → edges_of after ≡ edges_of g
edges_of-more_provenances g after b m =
    (λ i. flat_map (reference_edges (m.sources i) (all_origins after.provenances)) (m.references i))
    ∙ flat_map_passing (λ (r : Reference). nat_lt r.provenance (length g.provenances)) (reference_edges g.sources (all_origins after.provenances)) (reference_edges g.sources (all_origins g.provenances))
    (λ r h. ap (flat_map (origin_edges g.sources r.node)) (m.kept r.provenance (ltb-true r.provenance (length g.provenances) h))) g.references b

pub origins_at-pushed : (provenance : Provenance) (g after : ProvenanceGraph) → after ≡ with_provenance provenance g → origins_at (all_origins after.provenances) (length g.provenances) ≡ origins_of (all_origins g.provenances) provenance
origins_at-pushed provenance g after e = ap (λ (x : ProvenanceGraph). origins_at (all_origins x.provenances) (length g.provenances)) e ∙ origins_at-last g.provenances provenance

-- a reference more, with a provenance of its own
pub edges_referred : (node : Node) (provenance : Provenance) (g mid after : ProvenanceGraph) (place : ℕ) → place ≡ length g.provenances → mid ≡ with_provenance provenance g → edges_of mid ≡ edges_of g → after ≡ with_reference node place mid
    → edges_of after ≡ edges_of g ++ flat_map (origin_edges g.sources node) (origins_of (all_origins g.provenances) provenance)
edges_referred node provenance g mid after place at pushed same e =
    ap edges_of e
    ∙ flat_map-append (reference_edges mid.sources (all_origins mid.provenances)) mid.references (a_reference node place ∷ [])
    ∙ ap (λ es. es ++ (reference_edges mid.sources (all_origins mid.provenances) (a_reference node place) ++ [])) same
    ∙ ap (λ es. edges_of g ++ es)
    (append-nil (reference_edges mid.sources (all_origins mid.provenances) (a_reference node place))
    ∙ ap (λ k. flat_map (origin_edges mid.sources node) (origins_at (all_origins mid.provenances) k)) at
    ∙ ap (λ (x : ProvenanceGraph). flat_map (origin_edges x.sources node) (origins_at (all_origins x.provenances) (length g.provenances))) pushed
    ∙ ap (flat_map (origin_edges g.sources node)) (origins_at-last g.provenances provenance))

-- ---- a count of the provenances that references have

pub used_more : (count next : ℕ) (rs : List Reference) (i : ℕ) (d r : Reference) → i < length rs → r ≡ get_or rs i d → count ≤ next → r.provenance < next → are_below count (take i rs) ≡ true → are_below next (take (i + 1) rs) ≡ true
used_more count next rs i d r h is le lt before =
    ap (are_below next) (take_more rs i d h ∙ ap (λ x. take i rs ++ x ∷ []) (sym is))
    ∙ all_push (λ (x : Reference). nat_lt x.provenance next) (take i rs) r (below_more count next (take i rs) le before) (lt-ltb r.provenance next lt)

-- ---- references at places

pub all_at : {X : Type 0} (p : X → Bool) (xs : List X) (i : ℕ) (d : X) → i < length xs → list_all p xs ≡ true → p (get_or xs i d) ≡ true
all_at p [] i d h g = absurd (omega (arith, h))
all_at p (x ∷ xs) zero d h g = (and_parts (p x) (list_all p xs) g).0
all_at p (x ∷ xs) (suc i) d h g = all_at p xs i d (omega (arith, h)) (and_parts (p x) (list_all p xs) g).1

pub all_set : {X : Type 0} (p : X → Bool) (xs : List X) (i : ℕ) (y : X) → list_all p xs ≡ true → p y ≡ true → list_all p (set xs i y) ≡ true
all_set p [] i y g h = refl
all_set p (x ∷ xs) zero y g h = and_from (p y) (list_all p xs) h (and_parts (p x) (list_all p xs) g).1
all_set p (x ∷ xs) (suc i) y g h = let parts = and_parts (p x) (list_all p xs) g in and_from (p x) (list_all p (set xs i y)) parts.0 (all_set p xs i y parts.1 h)

pub provenance_below : (count : ℕ) (rs : List Reference) (i : ℕ) (d : Reference) → i < length rs → are_below count rs ≡ true → (get_or rs i d).provenance < count
provenance_below count rs i d h g = ltb-true (get_or rs i d).provenance count (all_at (λ (r : Reference). nat_lt r.provenance count) rs i d h g)

pub provenance_below_at : (count : ℕ) (rs : List Reference) (i : ℕ) (r : Reference) → slice_get rs i ≡ Some r → are_below count rs ≡ true → r.provenance < count
provenance_below_at count rs i r at g =
    subst (λ (x : Reference). x.provenance < count) (get_or_from_slice_get rs i r r at) (provenance_below count rs i r (slice_get_within rs i r at) g)

pub put_whole : (g : ProvenanceGraph) (place provenance : ℕ) (node : Node) → provenance < length g.provenances → is_whole g ≡ true
    → is_whole (record { sources = g.sources; provenances = g.provenances; references = set g.references place (a_reference node provenance) }) ≡ true
put_whole g place provenance node lt h =
    with_references_whole g (set g.references place (a_reference node provenance))
    (all_set (λ (r : Reference). nat_lt r.provenance (length g.provenances)) g.references place (a_reference node provenance) (whole_parts g h).below (lt-ltb provenance (length g.provenances) lt)) h

-- all sources are forgotten where there are no references
pub edges_forgotten : (count : ℕ) (g after : ProvenanceGraph) → are_below count g.references ≡ true → count ≡ 0 → after ≡ record { sources = []; provenances = g.provenances; references = g.references } → edges_of after ≡ edges_of g
edges_forgotten count g after b none e = ap edges_of e ∙ each g.references (subst (λ k. are_below k g.references ≡ true) none b)
  where
    each : (rs : List Reference) → are_below 0 rs ≡ true → flat_map (reference_edges [] (all_origins g.provenances)) rs ≡ flat_map (reference_edges g.sources (all_origins g.provenances)) rs
    each [] h = refl
    each (r ∷ rs) h = absurd (omega (arith, ltb-true r.provenance 0 (and_parts (nat_lt r.provenance 0) (are_below 0 rs) h).0))

-- ---- provenances that a function returned

pub returned_at : (provenances : List Provenance) (place : ℕ) (provenance : Provenance) (givers : Vec ℕ Global) → are_earlier 0 provenances ≡ true → place < length provenances → provenance ≡ get_or provenances place provenance → provenance ≡ Returned givers
    → origins_at (all_origins provenances) place ≡ origins_of (all_origins provenances) (Returned givers)
returned_at provenances place provenance givers e h at is =
    origins_at-provenance provenances e place provenance (slice_get-get_or provenances place provenance h ∙ ap Some (sym at)) ∙ ap (origins_of (all_origins provenances)) is

pub returned_fields : (provenances : List Provenance) (place : ℕ) (provenance : Provenance) (givers : Vec ℕ Global) → are_earlier 0 provenances ≡ true → place < length provenances → provenance ≡ get_or provenances place provenance → provenance ≡ Returned givers → (f : ℕ)
    → changed_origins (extended f) (origins_at (all_origins provenances) place) ≡ origins_at (all_origins provenances) place
returned_fields provenances place provenance givers e h at is f =
    let same = returned_at provenances place provenance givers e h at is in
    ap (changed_origins (extended f)) same ∙ field_of_returned (all_origins provenances) givers f ∙ sym same

pub returned_opened : (provenances : List Provenance) (place : ℕ) (provenance : Provenance) (givers : Vec ℕ Global) → are_earlier 0 provenances ≡ true → place < length provenances → provenance ≡ get_or provenances place provenance → provenance ≡ Returned givers
    → changed_origins opened (origins_at (all_origins provenances) place) ≡ origins_at (all_origins provenances) place
returned_opened provenances place provenance givers e h at is =
    let same = returned_at provenances place provenance givers e h at is in
    ap (changed_origins opened) same ∙ returned_again (all_origins provenances) givers ∙ sym same
