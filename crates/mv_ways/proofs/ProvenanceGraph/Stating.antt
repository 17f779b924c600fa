-- What is stated anew of a node: the edges that lead into others.
use Rattle.mv_edges.proofs.Common.{[], ℕ, ◌++◌, ◌+◌, ◌<◌, ◌∙◌, ◌∷◌, ◌≡◌, Bool, List, None, Option, Some, ap, append-nil, append_assoc, arith, cond, false, flat_map, flat_map-append, get_or, length, list_all, map, option_map_or, refl, map-append}
use Rattle.mv_edges.proofs.Common.{sym, suc, take, take_all, take_more, true, zero, ◌≤◌, an_edge, changed, extended, inherited, into, opened, same_node, sorted, without, without_each, Edge, Label, Node}
use Rattle.mv_edges.specs.declared.label.Change.{Change}
use Rattle.mv_edges.specs.declared.label.Change.TheVariants.{Extended}
use Rattle.mv_ways.specs.Graph.{taken_over, Reborrow}
use Rattle.std.specs.Prelude.{nat_lt}
use Rattle.mv_ways.proofs.Piecewise.{filter_piecewise, flat_map_nothing, map_piecewise, through}
use Rattle.mv_edges.proofs.AsSets.{sorted-append, sorted-map}
use Rattle.mv_ways.specs.declared.provenances.Reference.{Reference}
use Rattle.mv_ways.specs.Origins.{Origin}
use Rattle.mv_ways.specs.Telling.{edges_at, edges_into}
use Rattle.mv_ways.specs.Provenances.{ProvenanceGraph, HasMoreSources, an_origin, all_origins, edges_of, gone, gone_each, origin_edges, origins_at, opened_into, reference_edges, source_at}
use Rattle.mv_ways.proofs.ProvenanceGraph.Kept.{all_push, is_origin_known, origin_edges-more, origins_more}
use Rattle.mv_ways.proofs.ProvenanceGraph.Steps.{edges_of-gone}
use Rattle.mv_ways.proofs.ProvenanceGraph.Tying.{edges_of-gone_each}

-- ---- the edges that lead into a node

one_into : (sources : List (Option Node)) (to n : Node) (b : Bool) → same_node to n ≡ b → (origin : Origin) → cond b (origin_edges sources to origin) [] ≡ into n (origin_edges sources to origin)
one_into sources to n b h origin = by_source (source_at sources origin.source) b h
  where
    by_source : (o : Option Node) (t : Bool) → same_node to n ≡ t → cond t (option_map_or (λ from. an_edge from origin.label to ∷ []) o []) [] ≡ into n (option_map_or (λ from. an_edge from origin.label to ∷ []) o [])
    by_source None true g = refl
    by_source None false g = refl
    by_source (Some m) true g = ap (λ x. cond x (an_edge m origin.label to ∷ []) []) (sym g)
    by_source (Some m) false g = ap (λ x. cond x (an_edge m origin.label to ∷ []) []) (sym g)

-- of a reference
reference_into : (sources : List (Option Node)) (listed : List (List Origin)) (n : Node) (r : Reference) (b : Bool) → same_node r.node n ≡ b
    → cond b (reference_edges sources listed r) [] ≡ into n (reference_edges sources listed r)
reference_into sources listed n r true h =
    through (into n) (filter_piecewise (λ e. same_node e.to n)) (origin_edges sources r.node) (origin_edges sources r.node) (one_into sources r.node n true h) (origins_at listed r.provenance)
reference_into sources listed n r false h =
    sym (flat_map_nothing (λ (l : Origin). []) (λ l. refl) (origins_at listed r.provenance))
    ∙ through (into n) (filter_piecewise (λ e. same_node e.to n)) (origin_edges sources r.node) (λ l. []) (one_into sources r.node n false h) (origins_at listed r.provenance)

module _ (g : ProvenanceGraph) (n : Node) where
  abbrev by_reference : Reference → List Edge
  by_reference = reference_edges g.sources (all_origins g.provenances)

  each_into : (rs : List Reference) → flat_map (edges_at (λ m. same_node m n) g) rs ≡ into n (flat_map by_reference rs)
  each_into [] = refl
  each_into (r ∷ rs) =
      (λ i. reference_into g.sources (all_origins g.provenances) n r (same_node r.node n) refl i ++ each_into rs i)
      ∙ sym ((filter_piecewise (λ (e : Edge). same_node e.to n)).joined (by_reference r) (flat_map by_reference rs))

  -- the edges that lead into one node
  pub into_one : edges_into (λ m. same_node m n) g ≡ into n (edges_of g)
  into_one = each_into g.references

-- the edges that lead into any
pub into_all : (g : ProvenanceGraph) → edges_into (λ m. true) g ≡ edges_of g
into_all g = refl

-- one node more
pub nodes_more : (es all after : List Edge) (nodes : List Node) (i : ℕ) (d n : Node) → i < length nodes → n ≡ get_or nodes i d
    → sorted all ≡ sorted (flat_map (λ m. into m es) (take i nodes)) → sorted after ≡ sorted (all ++ into n es)
    → sorted after ≡ sorted (flat_map (λ m. into m es) (take (i + 1) nodes))
nodes_more es all after nodes i d n h is before e =
    e
    ∙ sorted-append all (flat_map (λ m. into m es) (take i nodes)) (into n es) (into n es) before refl
    ∙ ap sorted (ap (λ fs. flat_map (λ m. into m es) (take i nodes) ++ fs) (sym (append-nil (into n es))) ∙ sym (flat_map-append (λ m. into m es) (take i nodes) (n ∷ [])))
    ∙ ap (λ m. sorted (flat_map (λ k. into k es) (take i nodes ++ m ∷ []))) is
    ∙ ap (λ ms. sorted (flat_map (λ m. into m es) ms)) (sym (take_more nodes i d h))

-- ---- origins

pub origins_pushed : (before after : List (Option Node)) (origins new : List Origin) (source : ℕ) (label : Label) (from to : Node) → HasMoreSources before after
    → list_all (is_origin_known (length before)) origins ≡ true → source_at after source ≡ Some from → new ≡ origins ++ an_origin source label ∷ []
    → flat_map (origin_edges after to) new ≡ flat_map (origin_edges before to) origins ++ an_edge from label to ∷ []
origins_pushed before after origins new source label from to m known at e =
    ap (flat_map (origin_edges after to)) e
    ∙ flat_map-append (origin_edges after to) origins (an_origin source label ∷ [])
    ∙ (λ i. origin_edges-more before after m to origins known i ++ (option_map_or (λ x. an_edge x label to ∷ []) (at i) [] ++ []))

pub origins_known_more : (k m : ℕ) (origins new : List Origin) (origin : Origin) → k ≤ m → list_all (is_origin_known k) origins ≡ true → nat_lt origin.source m ≡ true → new ≡ origins ++ origin ∷ []
    → list_all (is_origin_known m) new ≡ true
origins_known_more k m origins new origin le known h e = ap (list_all (is_origin_known m)) e ∙ all_push (is_origin_known m) origins origin (origins_more k m origins le known) h

abbrev pub changed_edge : Change → Node → Edge → Edge
changed_edge change to e = an_edge e.from (changed change e.label) to

pub origins_made : (change : Change) (to : Node) (edges made after : List Edge) (i : ℕ) (d e : Edge) → i < length edges → e ≡ get_or edges i d
    → made ≡ map (changed_edge change to) (take i edges) → after ≡ made ++ changed_edge change to e ∷ []
    → after ≡ map (changed_edge change to) (take (i + 1) edges)
origins_made change to edges made after i d e h is before new =
    new ∙ ap (λ es. es ++ changed_edge change to e ∷ []) before
    ∙ sym (map-append (changed_edge change to) (take i edges) (e ∷ []))
    ∙ ap (λ x. map (changed_edge change to) (take i edges ++ x ∷ [])) is
    ∙ ap (map (changed_edge change to)) (sym (take_more edges i d h))

-- ---- what is stated

pub extended_anew : (f : ℕ) (n : Node) (g mid after : ProvenanceGraph) (edges : List Edge) → edges ≡ sorted (flat_map (λ m. into m (edges_of g)) (n ∷ [])) → mid ≡ gone n g
    → edges_of after ≡ edges_of mid ++ map (changed_edge (Extended f) n) edges
    → sorted (edges_of after) ≡ sorted (without n (edges_of g) ++ inherited (extended f) n n (edges_of g))
extended_anew f n g mid after edges led is e =
    let h : Edge → Edge = changed_edge (Extended f) n in
    ap sorted e
    ∙ sorted-append (edges_of mid) (without n (edges_of g)) (map h edges) (inherited (extended f) n n (edges_of g))
    (ap (λ x. sorted (edges_of x)) is ∙ ap sorted (edges_of-gone n g))
    (ap (λ es. sorted (map h es)) led ∙ sorted-map h (flat_map (λ m. into m (edges_of g)) (n ∷ [])) ∙ ap (λ es. sorted (map h es)) (append-nil (into n (edges_of g))))

-- what is given to reborrows
abbrev pub given_to : List Edge → Reborrow → List Edge
given_to es reborrow = sorted (flat_map (λ n. into n es) reborrow.givers)

opened_alike : (es : List Edge) (reborrows : List Reborrow) → sorted (opened_into reborrows (map (given_to es) reborrows)) ≡ sorted (taken_over reborrows es)
opened_alike es [] = refl
opened_alike es (h ∷ reborrows) =
    let change : Edge → Edge = λ e. an_edge e.from (opened e.label) h.node in
    sorted-append (map change (given_to es h)) (flat_map (λ n. inherited opened n h.node es) h.givers) (opened_into reborrows (map (given_to es) reborrows)) (taken_over reborrows es)
    (sorted-map change (flat_map (λ n. into n es) h.givers)
    ∙ ap sorted (sym (through (map change) (map_piecewise change) (λ n. into n es) (λ n. inherited opened n h.node es) (λ n. refl) h.givers)))
    (opened_alike es reborrows)

pub tied_anew : (taken : List Node) (reborrows : List Reborrow) (g mid after : ProvenanceGraph) (given : List (List Edge)) → given ≡ map (given_to (edges_of g)) reborrows → mid ≡ gone_each taken g
    → edges_of after ≡ edges_of mid ++ opened_into reborrows given
    → sorted (edges_of after) ≡ sorted (without_each taken (edges_of g) ++ taken_over reborrows (edges_of g))
tied_anew taken reborrows g mid after given made is e =
    ap sorted e
    ∙ sorted-append (edges_of mid) (without_each taken (edges_of g)) (opened_into reborrows given) (taken_over reborrows (edges_of g))
    (ap (λ x. sorted (edges_of x)) is ∙ ap sorted (edges_of-gone_each taken g))
    (ap (λ x. sorted (opened_into reborrows x)) made ∙ opened_alike (edges_of g) reborrows)

-- one reborrow more
pub opened_more : (reborrows : List Reborrow) (given : List (List Edge)) (i : ℕ) (d : Reborrow) (x : List Edge) → i < length reborrows → i < length given
    → opened_into (take (i + 1) reborrows) (take (i + 1) given) ≡ opened_into (take i reborrows) (take i given) ++ map (λ (e : Edge). an_edge e.from (opened e.label) (get_or reborrows i d).node) (get_or given i x)
opened_more [] given i d x h g = absurd (omega (arith, h))
opened_more (k ∷ reborrows) [] i d x h g = absurd (omega (arith, g))
opened_more (k ∷ reborrows) (es ∷ given) zero d x h g = append-nil (map (λ (e : Edge). an_edge e.from (opened e.label) k.node) es)
opened_more (k ∷ reborrows) (es ∷ given) (suc i) d x h g =
    let change : Edge → Edge = λ e. an_edge e.from (opened e.label) k.node in
    let next : suc i + 1 ≡ suc (i + 1) = omega arith in
    ap (λ j. opened_into (take j (k ∷ reborrows)) (take j (es ∷ given))) next
    ∙ ap (λ fs. map change es ++ fs) (opened_more reborrows given i d x (omega (arith, h)) (omega (arith, g)))
    ∙ sym (append_assoc (map change es) (opened_into (take i reborrows) (take i given)) (map (λ (e : Edge). an_edge e.from (opened e.label) (get_or reborrows i d).node) (get_or given i x)))

pub stated_more : (reborrows : List Reborrow) (given : List (List Edge)) (i : ℕ) (d reborrow : Reborrow) (x edges : List Edge) (first mid after : List Edge) (node : Node) → i < length reborrows → i < length given
    → node ≡ (get_or reborrows i d).node → edges ≡ get_or given i x
    → mid ≡ first ++ opened_into (take i reborrows) (take i given) → after ≡ mid ++ map (λ (e : Edge). an_edge e.from (opened e.label) node) edges
    → after ≡ first ++ opened_into (take (i + 1) reborrows) (take (i + 1) given)
stated_more reborrows given i d reborrow x edges first mid after node h g is_node is before e =
    e
    ∙ (λ k. before k ++ map (λ (y : Edge). an_edge y.from (opened y.label) (is_node k)) (is k))
    ∙ append_assoc first (opened_into (take i reborrows) (take i given)) (map (λ (y : Edge). an_edge y.from (opened y.label) (get_or reborrows i d).node) (get_or given i x))
    ∙ ap (λ es. first ++ es) (sym (opened_more reborrows given i d x h g))

pub stated_all : (reborrows : List Reborrow) (given : List (List Edge)) (i : ℕ) (first after : List Edge) → length reborrows ≤ i → length given ≤ i
    → after ≡ first ++ opened_into (take i reborrows) (take i given) → after ≡ first ++ opened_into reborrows given
stated_all reborrows given i first after h g e = e ∙ (λ k. first ++ opened_into (take_all i reborrows h k) (take_all i given g k))

pub stated_edges : (change : Change) (to : Node) (g mid after : ProvenanceGraph) (origins : List Origin) (edges all : List Edge) → edges_of mid ≡ edges_of g
    → flat_map (origin_edges mid.sources to) origins ≡ map (changed_edge change to) edges → edges ≡ all → edges_of after ≡ edges_of mid ++ flat_map (origin_edges mid.sources to) origins
    → edges_of after ≡ edges_of g ++ map (changed_edge change to) all
stated_edges change to g mid after origins edges all same made is e = e ∙ (λ i. same i ++ made i) ∙ ap (λ es. edges_of g ++ map (changed_edge change to) es) is

pub given_more : (es : List Edge) (reborrows : List Reborrow) (i : ℕ) (d reborrow : Reborrow) (given after : List (List Edge)) (edges : List Edge) (givers : List Node) → i < length reborrows → reborrow ≡ get_or reborrows i d
    → givers ≡ reborrow.givers → given ≡ map (given_to es) (take i reborrows) → edges ≡ sorted (flat_map (λ n. into n es) givers) → after ≡ given ++ edges ∷ []
    → after ≡ map (given_to es) (take (i + 1) reborrows)
given_more es reborrows i d reborrow given after edges givers h is are before led e =
    e
    ∙ (λ k. before k ++ (led ∙ ap (λ ns. sorted (flat_map (λ n. into n es) ns)) are) k ∷ [])
    ∙ sym (map-append (given_to es) (take i reborrows) (reborrow ∷ []))
    ∙ ap (λ x. map (given_to es) (take i reborrows ++ x ∷ [])) is
    ∙ ap (map (given_to es)) (sym (take_more reborrows i d h))
