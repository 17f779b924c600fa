-- What becomes of the edges where references are handed to functions.
use Rattle.mv_edges.proofs.Common.{[], ℕ, ◌&&◌, ◌++◌, ◌+◌, ◌<◌, ◌==◌, ◌||◌, ◌∙◌, ◌∷◌, ◌≡◌, ◌≤◌, ◌⊎◌, Bool, Contains, List, None, ap, append-nil, append_assoc, arith, cases_lt, cond, eqb-true, false, Contains-append_cases, lt-ltb}
use Rattle.mv_edges.proofs.Common.{filter, flat_map, flat_map-append, fold, get_or, get_or_default, inl, inr, length, length-append, list_all, list_all-append, list_all-map, list_any, list_any-append, map, not, or_parts, refl, subst, suc, sym}
use Rattle.mv_edges.proofs.Common.{take, take_all, take_more, true, true≢false, zero, and_from, and_parts, Contains-append_left, Contains-append_right, an_edge, but_out_of, inherited, into, opened, same_node}
use Rattle.mv_ways.specs.Between.{any_between, but_at}
use Rattle.mv_edges.proofs.Common.{same_node_decides, sorted, without_each, Edge, Label, Node, Slot}
use Rattle.mv_ways.specs.Graph.{taken_over, Reborrow}
use Rattle.std.specs.Prelude.{nat_lt}
use Rattle.std.proofs.lemmas.Bool.{not-true, or_from}
use Rattle.std.proofs.lemmas.List.{get_or_append_left}
use Rattle.std.proofs.Math.Seq.{get_or-append_seam}
use Rattle.std.proofs.Common.{Vec, Global}
use Rattle.mv_ways.proofs.Piecewise.{flat_map_alike}
use Rattle.mv_edges.proofs.Insertion.{all_filter, all_from_contains, contains_cases, contains_none}
use Rattle.mv_edges.proofs.Related.{passing, list_any_from}
use Rattle.mv_edges.proofs.AsSets.{any-sorted, sorted-append}
use Rattle.mv_edges.proofs.Sorting.{sorted_alike}
use Rattle.mv_ways.specs.declared.provenances.Reference.{Reference}
use Rattle.mv_ways.specs.declared.provenances.Provenance.TheVariants.{Returned}
use Rattle.mv_ways.specs.Provenances.{ProvenanceGraph, HasMoreProvenances, IsGivenBy, added_once, all_origins, are_below, changed_origins, edges_by, edges_of, gone, gone_each, origin_edges, origins_at, origins_of, reference_edges, provenances_at, with_references, with_provenance}
use Rattle.mv_ways.proofs.ProvenanceGraph.Kept.{all_push, origins_at-pushed, more_provenances}
use Rattle.mv_ways.proofs.ProvenanceGraph.Steps.{edges_of-gone, edges_of-severed, edges_of-taken, provenance_edges}

-- ---- provenances each once

contains_again : (f : ℕ → List Edge) (ws : List ℕ) (w : ℕ) (z : Edge) → list_any (λ k. k == w) ws ≡ true → Contains (f w) z → Contains (flat_map f ws) z
contains_again f [] w z h c = absurd (true≢false (sym h))
contains_again f (k ∷ ws) w z h c = by_case (k == w) refl h (λ g. contains_again f ws w z g c)
  where
    by_case : (b : Bool) → (k == w) ≡ b → (b || list_any (λ j. j == w) ws) ≡ true → (list_any (λ j. j == w) ws ≡ true → Contains (flat_map f ws) z) → Contains (f k ++ flat_map f ws) z
    by_case true same g rest = Contains-append_left (f k) (flat_map f ws) z (subst (λ j. Contains (f j) z) (sym (eqb-true k w same)) c)
    by_case false other g rest = Contains-append_right (f k) (flat_map f ws) z (rest g)

sorted_again : (f : ℕ → List Edge) (ws : List ℕ) (w : ℕ) → list_any (λ k. k == w) ws ≡ true → sorted (flat_map f (ws ++ w ∷ [])) ≡ sorted (flat_map f ws)
sorted_again f ws w h =
    ap sorted (flat_map-append f ws (w ∷ []) ∙ ap (λ es. flat_map f ws ++ es) (append-nil (f w)))
    ∙ sorted_alike (flat_map f ws ++ f w) (flat_map f ws)
    (λ z. (
      λ c. elim (Contains-append_cases (flat_map f ws) (f w) z c) [ inl d ↦ d | inr d ↦ contains_again f ws w z h d ],
      λ c. Contains-append_left (flat_map f ws) (f w) z c,
    ))

-- edges by provenances that stand once are those by all
pub each_once : (f : ℕ → List Edge) (ws ks : List ℕ) → sorted (flat_map f (fold added_once ws ks)) ≡ sorted (flat_map f (ws ++ ks))
each_once f ws [] = ap (λ xs. sorted (flat_map f xs)) (sym (append-nil ws))
each_once f ws (k ∷ ks) = each_once f (added_once ws k) ks ∙ by_case (list_any (λ j. j == k) ws) refl
  where
    by_case : (b : Bool) → list_any (λ j. j == k) ws ≡ b → sorted (flat_map f (cond b ws (ws ++ k ∷ []) ++ ks)) ≡ sorted (flat_map f (ws ++ k ∷ ks))
    by_case false h = ap (λ xs. sorted (flat_map f xs)) (append_assoc ws (k ∷ []) ks)
    by_case true h =
        ap sorted (flat_map-append f ws ks)
        ∙ sorted-append (flat_map f ws) (flat_map f (ws ++ k ∷ [])) (flat_map f ks) (flat_map f ks) (sym (sorted_again f ws k h)) refl
        ∙ ap sorted (sym (flat_map-append f (ws ++ k ∷ []) ks))
        ∙ ap (λ xs. sorted (flat_map f xs)) (append_assoc ws (k ∷ []) ks)

-- what holds of all holds of those that stand once
pub all_once : (p : ℕ → Bool) (ws ks : List ℕ) → list_all p ws ≡ true → list_all p ks ≡ true → list_all p (fold added_once ws ks) ≡ true
all_once p ws [] h g = h
all_once p ws (k ∷ ks) h g =
    let parts = and_parts (p k) (list_all p ks) g in
    all_once p (added_once ws k) ks (by_case (list_any (λ j. j == k) ws) parts.0) parts.1
  where
    by_case : (b : Bool) → p k ≡ true → list_all p (cond b ws (ws ++ k ∷ [])) ≡ true
    by_case true one = h
    by_case false one = all_push p ws k h one

-- the provenances of nodes are provenances that there are
pub provenances_below : (count : ℕ) (nodes : List Node) (rs : List Reference) → are_below count rs ≡ true → list_all (λ k. nat_lt k count) (flat_map (λ n. provenances_at n rs) nodes) ≡ true
provenances_below count [] rs h = refl
provenances_below count (n ∷ nodes) rs h =
    list_all-append (λ k. nat_lt k count) (provenances_at n rs) (flat_map (λ m. provenances_at m rs) nodes)
    ∙ and_from (list_all (λ k. nat_lt k count) (provenances_at n rs)) (list_all (λ k. nat_lt k count) (flat_map (λ m. provenances_at m rs) nodes))
    (list_all-map (λ k. nat_lt k count) (λ (r : Reference). r.provenance) (filter (λ (r : Reference). same_node r.node n) rs)
    ∙ all_filter (λ (r : Reference). same_node r.node n) (λ (r : Reference). nat_lt r.provenance count) rs h)
    (provenances_below count nodes rs h)

pub once_below : (count : ℕ) (nodes : List Node) (rs : List Reference) (ws : List ℕ) → are_below count rs ≡ true → ws ≡ fold added_once [] (flat_map (λ n. provenances_at n rs) nodes)
    → list_all (λ k. nat_lt k count) ws ≡ true
once_below count nodes rs ws h e =
    ap (list_all (λ k. nat_lt k count)) e ∙ all_once (λ k. nat_lt k count) [] (flat_map (λ n. provenances_at n rs) nodes) refl (provenances_below count nodes rs h)

-- ---- what a function returns

flat_map-flat_map : {X Y Z : Type 0} (f : Y → List Z) (h : X → List Y) (xs : List X) → flat_map f (flat_map h xs) ≡ flat_map (λ x. flat_map f (h x)) xs
flat_map-flat_map f h [] = refl
flat_map-flat_map f h (x ∷ xs) = flat_map-append f (h x) (flat_map h xs) ∙ ap (λ ys. flat_map f (h x) ++ ys) (flat_map-flat_map f h xs)

-- what some nodes give is what their provenances make, opened
given_provenances : (g : ProvenanceGraph) (givers : List Node) (to : Node) (ws : List ℕ) → ws ≡ fold added_once [] (flat_map (λ n. provenances_at n g.references) givers)
    → sorted (flat_map (provenance_edges opened g.sources (all_origins g.provenances) to) ws) ≡ sorted (flat_map (λ n. inherited opened n to (edges_of g)) givers)
given_provenances g givers to ws e =
    let f : ℕ → List Edge = provenance_edges opened g.sources (all_origins g.provenances) to in
    ap (λ ks. sorted (flat_map f ks)) e
    ∙ each_once f [] (flat_map (λ n. provenances_at n g.references) givers)
    ∙ ap sorted
    (flat_map-flat_map f (λ n. provenances_at n g.references) givers
    ∙ flat_map_alike (λ n. flat_map f (provenances_at n g.references)) (λ n. inherited opened n to (edges_of g)) (λ n. edges_of-taken opened n to g) givers)

-- a provenance of its own
pub given_anew : (g after : ProvenanceGraph) (givers : List Node) (provenance : ℕ) (provenances : Vec ℕ Global) → provenances.items ≡ fold added_once [] (flat_map (λ n. provenances_at n g.references) givers)
    → provenance < length after.provenances → HasMoreProvenances g after → origins_at (all_origins after.provenances) provenance ≡ origins_of (all_origins g.provenances) (Returned provenances)
    → IsGivenBy g after givers provenance
given_anew g after givers provenance provenances e below m origins = record {
  below = below;
  edges = λ to.
      ap sorted
      ((λ i. flat_map (origin_edges (m.sources i) to) (origins i))
      ∙ flat_map-flat_map (origin_edges g.sources to) (λ over. changed_origins opened (origins_at (all_origins g.provenances) over)) provenances.items)
      ∙ given_provenances g givers to provenances.items e;
}

pub given_pushed : (g after : ProvenanceGraph) (givers : List Node) (provenance : ℕ) (provenances : Vec ℕ Global) → provenances.items ≡ fold added_once [] (flat_map (λ n. provenances_at n g.references) givers)
    → provenance ≡ length g.provenances → after ≡ with_provenance (Returned provenances) g → IsGivenBy g after givers provenance
given_pushed g after givers provenance provenances e at pushed =
    let long = length-append g.provenances (Returned provenances ∷ []) in
    let all = ap (λ (x : ProvenanceGraph). length x.provenances) pushed in
    given_anew g after givers provenance provenances e (omega (arith, long, all, at)) (more_provenances (Returned provenances) g after pushed)
    (ap (origins_at (all_origins after.provenances)) at ∙ origins_at-pushed (Returned provenances) g after pushed)

-- the provenance that a function returned alone
pub given_again : (g : ProvenanceGraph) (givers : List Node) (provenance : ℕ) (ws : List ℕ) → ws ≡ fold added_once [] (flat_map (λ n. provenances_at n g.references) givers) → ws ≡ provenance ∷ []
    → provenance < length g.provenances → changed_origins opened (origins_at (all_origins g.provenances) provenance) ≡ origins_at (all_origins g.provenances) provenance
    → IsGivenBy g g givers provenance
given_again g givers provenance ws e only below opens = record {
  below = below;
  edges = λ to.
      ap (λ ls. sorted (flat_map (origin_edges g.sources to) ls)) (sym opens)
      ∙ ap sorted (sym (append-nil (provenance_edges opened g.sources (all_origins g.provenances) to provenance)))
      ∙ ap (λ ks. sorted (flat_map (provenance_edges opened g.sources (all_origins g.provenances) to) ks)) (sym only)
      ∙ given_provenances g givers to ws e;
}

-- ---- what reborrows take over

pub given_later : (g mid after : ProvenanceGraph) (givers : List Node) (provenance : ℕ) → IsGivenBy g mid givers provenance → HasMoreProvenances mid after → IsGivenBy g after givers provenance
given_later g mid after givers provenance given m = record {
  below = let b = given.below in let more = m.more in omega (arith, b, more);
  edges = λ to. ap sorted (λ i. flat_map (origin_edges (m.sources i) to) (m.kept provenance given.below i)) ∙ given.edges to;
}

-- by what was given where there were fewer provenances
pub given_earlier : (g mid after : ProvenanceGraph) (givers : List Node) (provenance : ℕ) → edges_of mid ≡ edges_of g → IsGivenBy mid after givers provenance → IsGivenBy g after givers provenance
given_earlier g mid after givers provenance same given = record {
  below = given.below;
  edges = λ to. given.edges to ∙ ap (λ es. sorted (flat_map (λ n. inherited opened n to es) givers)) same;
}

pub record AreGiven (g after : ProvenanceGraph) (reborrows : List Reborrow) (count : ℕ) (new : List Reference) : Type 0 where
  pub long : length new ≡ count
  pub nodes : (k : ℕ) (d : Reborrow) (r : Reference) → k < count → (get_or new k r).node ≡ (get_or reborrows k d).node
  pub provenances : (k : ℕ) (d : Reborrow) (r : Reference) → k < count → IsGivenBy g after (get_or reborrows k d).givers (get_or new k r).provenance

-- one reborrow more
pub one_given : (g mid after : ProvenanceGraph) (reborrows : List Reborrow) (i : ℕ) (new all : List Reference) (r : Reference) → AreGiven g mid reborrows i new → HasMoreProvenances mid after → i < length reborrows
    → all ≡ new ++ r ∷ [] → ((d : Reborrow) → r.node ≡ (get_or reborrows i d).node) → ((d : Reborrow) → IsGivenBy g after (get_or reborrows i d).givers r.provenance)
    → AreGiven g after reborrows (i + 1) all
one_given g mid after reborrows i new all r are m inside e node given = record {
  long = let more = length-append new (r ∷ []) in let count = are.long in ap length e ∙ omega (arith, more, count);
  nodes = λ k d x below. subst (λ xs. (get_or xs k x).node ≡ (get_or reborrows k d).node) (sym e) (node_at k d x below (cases_lt k i));
  provenances = λ k d x below. subst (λ xs. IsGivenBy g after (get_or reborrows k d).givers (get_or xs k x).provenance) (sym e) (provenance_at k d x below (cases_lt k i));
}
  where
    last : (k : ℕ) (x : Reference) → k ≡ i → get_or (new ++ r ∷ []) k x ≡ r
    last k x same = ap (λ j. get_or (new ++ r ∷ []) j x) (same ∙ sym are.long) ∙ get_or-append_seam new r [] x

    earlier : (k : ℕ) (x : Reference) → k < i → get_or (new ++ r ∷ []) k x ≡ get_or new k x
    earlier k x less = get_or_append_left new (r ∷ []) x k (let count = are.long in omega (arith, less, count))

    node_at : (k : ℕ) (d : Reborrow) (x : Reference) → k < i + 1 → (k < i) ⊎ (i ≤ k) → (get_or (new ++ r ∷ []) k x).node ≡ (get_or reborrows k d).node
    node_at k d x below (inl less) = ap (λ (y : Reference). y.node) (earlier k x less) ∙ are.nodes k d x less
    node_at k d x below (inr more) =
        let same : k ≡ i = omega (arith, below, more) in
        ap (λ (y : Reference). y.node) (last k x same) ∙ node d ∙ ap (λ j. (get_or reborrows j d).node) (sym same)

    provenance_at : (k : ℕ) (d : Reborrow) (x : Reference) → k < i + 1 → (k < i) ⊎ (i ≤ k) → IsGivenBy g after (get_or reborrows k d).givers (get_or (new ++ r ∷ []) k x).provenance
    provenance_at k d x below (inl less) =
        subst (λ (y : Reference). IsGivenBy g after (get_or reborrows k d).givers y.provenance) (sym (earlier k x less)) (given_later g mid after (get_or reborrows k d).givers (get_or new k x).provenance (are.provenances k d x less) m)
    provenance_at k d x below (inr more) =
        let same : k ≡ i = omega (arith, below, more) in
        subst (λ (y : Reference). IsGivenBy g after (get_or reborrows k d).givers y.provenance) (sym (last k x same))
        (subst (λ j. IsGivenBy g after (get_or reborrows j d).givers r.provenance) (sym same) (given d))

-- a reborrow that takes over of the same nodes as one before
pub reborrow_again : (g mid after : ProvenanceGraph) (reborrows : List Reborrow) (i before : ℕ) (new : List Reference) (provenance : ℕ) (r : Reference) → AreGiven g mid reborrows i new → before < i
    → ((d : Reborrow) → (get_or reborrows before d).givers ≡ (get_or reborrows i d).givers) → after ≡ mid → provenance ≡ (get_or new before r).provenance
    → (d : Reborrow) → IsGivenBy g after (get_or reborrows i d).givers provenance
reborrow_again g mid after reborrows i before new provenance r are lt alike same is d =
    subst (λ (x : ProvenanceGraph). IsGivenBy g x (get_or reborrows i d).givers provenance) (sym same)
    (subst (λ k. IsGivenBy g mid (get_or reborrows i d).givers k) (sym is) (subst (λ ns. IsGivenBy g mid ns (get_or new before r).provenance) (alike d) (are.provenances before d r lt)))

-- another one
pub reborrow_anew : (g mid after : ProvenanceGraph) (reborrows : List Reborrow) (i : ℕ) (givers : List Node) (provenance : ℕ) (reborrow : Reborrow) → i < length reborrows → reborrow ≡ get_or reborrows i reborrow → givers ≡ reborrow.givers
    → edges_of mid ≡ edges_of g → IsGivenBy mid after givers provenance
    → (d : Reborrow) → IsGivenBy g after (get_or reborrows i d).givers provenance
reborrow_anew g mid after reborrows i givers provenance reborrow inside at is same given d =
    subst (λ ns. IsGivenBy g after ns provenance) (is ∙ ap (λ (h : Reborrow). h.givers) (at ∙ get_or_default reborrows i reborrow d inside)) (given_earlier g mid after givers provenance same given)

pub node_of_reborrow : (reborrows : List Reborrow) (i : ℕ) (node : Node) (reborrow : Reborrow) → i < length reborrows → reborrow ≡ get_or reborrows i reborrow → node ≡ reborrow.node → (d : Reborrow) → node ≡ (get_or reborrows i d).node
node_of_reborrow reborrows i node reborrow inside at is d = is ∙ ap (λ (h : Reborrow). h.node) (at ∙ get_or_default reborrows i reborrow d inside)

-- all of them
pub given_edges : (g after : ProvenanceGraph) (reborrows : List Reborrow) (new : List Reference) → AreGiven g after reborrows (length reborrows) new
    → sorted (flat_map (reference_edges after.sources (all_origins after.provenances)) new) ≡ sorted (taken_over reborrows (edges_of g))
given_edges g after reborrows new are =
    let count = are.long in
    ap (λ rs. sorted (flat_map (reference_edges after.sources (all_origins after.provenances)) rs)) (sym (take_all (length reborrows) new (omega (arith, count))))
    ∙ front (length reborrows) (omega arith)
    ∙ ap (λ hs. sorted (taken_over hs (edges_of g))) (take_all (length reborrows) reborrows (omega arith))
  where
    none : Reborrow
    none = record { node = Slot 0; givers = [] }

    nothing : Reference
    nothing = record { node = Slot 0; provenance = 0 }

    inherits : Reborrow → List Edge
    inherits h = flat_map (λ n. inherited opened n h.node (edges_of g)) h.givers

    front : (c : ℕ) → c ≤ length reborrows → sorted (flat_map (reference_edges after.sources (all_origins after.provenances)) (take c new)) ≡ sorted (taken_over (take c reborrows) (edges_of g))
    front zero h = refl
    front (suc c) h =
        let count = are.long in
        let next : suc c ≡ c + 1 = omega arith in
        let inside : c < length reborrows = omega (arith, h) in
        let r : Reference = get_or new c nothing in
        let reborrow : Reborrow = get_or reborrows c none in
        let edges : sorted (reference_edges after.sources (all_origins after.provenances) r) ≡ sorted (inherits reborrow) =
        ap (λ to. sorted (edges_by after to r.provenance)) (are.nodes c none nothing inside) ∙ (are.provenances c none nothing inside).edges reborrow.node in
        ap (λ j. sorted (flat_map (reference_edges after.sources (all_origins after.provenances)) (take j new))) next
        ∙ ap (λ rs. sorted (flat_map (reference_edges after.sources (all_origins after.provenances)) rs)) (take_more new c nothing (omega (arith, count, inside)))
        ∙ ap sorted (flat_map-append (reference_edges after.sources (all_origins after.provenances)) (take c new) (r ∷ []) ∙ ap (λ es. flat_map (reference_edges after.sources (all_origins after.provenances)) (take c new) ++ es) (append-nil (reference_edges after.sources (all_origins after.provenances) r)))
        ∙ sorted-append (flat_map (reference_edges after.sources (all_origins after.provenances)) (take c new)) (taken_over (take c reborrows) (edges_of g)) (reference_edges after.sources (all_origins after.provenances) r) (inherits reborrow) (front c (omega (arith, h))) edges
        ∙ ap sorted (ap (λ es. taken_over (take c reborrows) (edges_of g) ++ es) (sym (append-nil (inherits reborrow))) ∙ sym (flat_map-append inherits (take c reborrows) (reborrow ∷ [])))
        ∙ ap (λ hs. sorted (taken_over hs (edges_of g))) (sym (take_more reborrows c none inside))
        ∙ ap (λ j. sorted (taken_over (take j reborrows) (edges_of g))) (sym next)

pub given_below : (g after : ProvenanceGraph) (reborrows : List Reborrow) (new : List Reference) → AreGiven g after reborrows (length reborrows) new → are_below (length after.provenances) new ≡ true
given_below g after reborrows new are =
    let count = are.long in
    ap (are_below (length after.provenances)) (sym (take_all (length reborrows) new (omega (arith, count)))) ∙ front (length reborrows) (omega arith)
  where
    none : Reborrow
    none = record { node = Slot 0; givers = [] }

    nothing : Reference
    nothing = record { node = Slot 0; provenance = 0 }

    front : (c : ℕ) → c ≤ length reborrows → are_below (length after.provenances) (take c new) ≡ true
    front zero h = refl
    front (suc c) h =
        let count = are.long in
        let next : suc c ≡ c + 1 = omega arith in
        let inside : c < length reborrows = omega (arith, h) in
        ap (λ j. are_below (length after.provenances) (take j new)) next
        ∙ ap (are_below (length after.provenances)) (take_more new c nothing (omega (arith, count, inside)))
        ∙ all_push (λ (r : Reference). nat_lt r.provenance (length after.provenances)) (take c new) (get_or new c nothing) (front c (omega (arith, h)))
        (lt-ltb (get_or new c nothing).provenance (length after.provenances) (are.provenances c none nothing inside).below)

-- ---- no edge leads out of some nodes

-- whether an edge leads out of a node
abbrev any_out : Node → List Edge → Bool
any_out n es = any_between (λ m. same_node m n) None (λ m. true) es

any_contains : {X : Type 0} (p : X → Bool) (xs : List X) (x : X) → Contains xs x → p x ≡ true → list_any p xs ≡ true
any_contains p [] x c h = absurd (contains_none x c)
any_contains p (y ∷ xs) x c h =
    elim (contains_cases y xs x c) [
      | inl same ↦ ap (λ b. b || list_any p xs) (ap p same ∙ h)
      | inr there ↦ by_case (p y) (any_contains p xs x there h)
    ]
  where
    by_case : (b : Bool) → list_any p xs ≡ true → (b || list_any p xs) ≡ true
    by_case true g = refl
    by_case false g = g

-- of all at once, and of each
free_each : (taken : List Node) (es : List Edge) → any_between (λ m. list_any (λ n. same_node n m) taken) None (λ m. true) es ≡ false → list_all (λ n. not (any_out n es)) taken ≡ true
free_each taken es free = all_from_contains (λ n. not (any_out n es)) taken (λ n c. by_case n c (any_out n es) refl)
  where
    by_case : (n : Node) → Contains taken n → (b : Bool) → any_out n es ≡ b → not b ≡ true
    by_case n c false h = refl
    by_case n c true h =
        let p = passing (λ e. same_node e.from n && (true && true)) es h in
        let same : p.edge.from ≡ n = (same_node_decides p.edge.from n).0 (and_parts (same_node p.edge.from n) (true && true) p.passes).0 in
        let found : list_any (λ m. same_node m p.edge.from) taken ≡ true = any_contains (λ m. same_node m p.edge.from) taken n c ((same_node_decides n p.edge.from).1 (sym same)) in
        absurd (true≢false (sym (list_any_from (λ e. list_any (λ m. same_node m e.from) taken && (true && true)) es p.edge p.there (and_from (list_any (λ m. same_node m p.edge.from) taken) (true && true) found refl)) ∙ free))

-- where none does, there is nothing to take away
none_taken : (n : Node) (es : List Edge) → any_out n es ≡ false → but_out_of n es ≡ es
none_taken n [] h = refl
none_taken n (e ∷ es) h =
    let parts = or_parts (same_node e.from n && true) (any_out n es) h in
    by_case (same_node e.from n) parts.0 (none_taken n es parts.1)
  where
    by_case : (b : Bool) → (b && true) ≡ false → but_out_of n es ≡ es → cond (not b) (e ∷ but_out_of n es) (but_out_of n es) ≡ e ∷ es
    by_case true g same = absurd (true≢false g)
    by_case false g same = ap (λ xs. e ∷ xs) same

-- nor does any of what is taken over
none_out-inherited : (m : Node) (h : Label → Label) (n to : Node) (es : List Edge) → any_out m es ≡ false → any_out m (inherited h n to es) ≡ false
none_out-inherited m h n to [] g = refl
none_out-inherited m h n to (e ∷ es) g =
    let parts = or_parts (same_node e.from m && true) (any_out m es) g in
    by_case (same_node e.to n) parts.0 (none_out-inherited m h n to es parts.1)
  where
    by_case : (b : Bool) → (same_node e.from m && true) ≡ false → any_out m (inherited h n to es) ≡ false
        → any_out m (map (λ (x : Edge). an_edge x.from (h x.label) to) (cond b (e ∷ into n es) (into n es))) ≡ false
    by_case true here rest = or_from (same_node e.from m && true) (any_out m (inherited h n to es)) here rest
    by_case false here rest = rest

none_out-flat_map : {X : Type 0} (m : Node) (f : X → List Edge) → ((x : X) → any_out m (f x) ≡ false) → (xs : List X) → any_out m (flat_map f xs) ≡ false
none_out-flat_map m f h [] = refl
none_out-flat_map m f h (x ∷ xs) =
    list_any-append (λ e. same_node e.from m && true) (f x) (flat_map f xs)
    ∙ or_from (any_out m (f x)) (any_out m (flat_map f xs)) (h x) (none_out-flat_map m f h xs)

none_out-taken_over : (m : Node) (reborrows : List Reborrow) (es : List Edge) → any_out m es ≡ false → any_out m (taken_over reborrows es) ≡ false
none_out-taken_over m reborrows es h =
    none_out-flat_map m (λ (reborrow : Reborrow). flat_map (λ n. inherited opened n reborrow.node es) reborrow.givers)
    (λ reborrow. none_out-flat_map m (λ n. inherited opened n reborrow.node es) (λ n. none_out-inherited m opened n reborrow.node es h) reborrow.givers) reborrows

-- in any order
none_out-alike : (m : Node) (es fs : List Edge) → sorted es ≡ sorted fs → any_out m fs ≡ false → any_out m es ≡ false
none_out-alike m es fs alike h =
    let origins : Edge → Bool = λ e. same_node e.from m && true in
    sym (any-sorted origins es) ∙ ap (list_any origins) alike ∙ any-sorted origins fs ∙ h

all_free : (nodes : List Node) (reborrows : List Reborrow) (es fs : List Edge) → sorted fs ≡ sorted (taken_over reborrows es)
    → list_all (λ n. not (any_out n es)) nodes ≡ true → list_all (λ n. not (any_out n fs)) nodes ≡ true
all_free [] reborrows es fs alike h = refl
all_free (n ∷ nodes) reborrows es fs alike h =
    let parts = and_parts (not (any_out n es)) (list_all (λ m. not (any_out m es)) nodes) h in
    let none : any_out n fs ≡ false = none_out-alike n fs (taken_over reborrows es) alike (none_out-taken_over n reborrows es (not-true (any_out n es) parts.0)) in
    ap (λ b. not b && list_all (λ m. not (any_out m fs)) nodes) none ∙ all_free nodes reborrows es fs alike parts.1

-- ---- nodes that are taken

pub edges_of-gone_each : (nodes : List Node) (g : ProvenanceGraph) → edges_of (gone_each nodes g) ≡ without_each nodes (edges_of g)
edges_of-gone_each [] g = refl
edges_of-gone_each (n ∷ nodes) g = edges_of-gone_each nodes (gone n g) ∙ ap (without_each nodes) (edges_of-gone n g)

pub provenances-gone_each : (nodes : List Node) (g : ProvenanceGraph) → (gone_each nodes g).provenances ≡ g.provenances
provenances-gone_each [] g = refl
provenances-gone_each (n ∷ nodes) g = provenances-gone_each nodes (gone n g)

-- the edges of references, of which none leads out of the nodes, are the same without these
edges-gone_each : (nodes : List Node) (rs : List Reference) (g : ProvenanceGraph)
    → list_all (λ n. not (any_out n (flat_map (reference_edges g.sources (all_origins g.provenances)) rs))) nodes ≡ true
    → flat_map (reference_edges (gone_each nodes g).sources (all_origins (gone_each nodes g).provenances)) rs ≡ flat_map (reference_edges g.sources (all_origins g.provenances)) rs
edges-gone_each [] rs g h = refl
edges-gone_each (n ∷ nodes) rs g h =
    let es : List Edge = flat_map (reference_edges g.sources (all_origins g.provenances)) rs in
    let parts = and_parts (not (any_out n es)) (list_all (λ m. not (any_out m es)) nodes) h in
    let same : flat_map (reference_edges (map (but_at n) g.sources) (all_origins g.provenances)) rs ≡ es =
    edges_of-severed n (record { sources = g.sources; provenances = g.provenances; references = rs }) ∙ none_taken n es (not-true (any_out n es) parts.0) in
    edges-gone_each nodes rs (gone n g) (subst (λ fs. list_all (λ m. not (any_out m fs)) nodes ≡ true) (sym same) parts.1) ∙ same

-- what reborrows take over is added to what is left
pub tied_edges : (taken : List Node) (reborrows : List Reborrow) (new : List Reference) (g mid left after last : ProvenanceGraph)
    → any_between (λ m. list_any (λ n. same_node n m) taken) None (λ m. true) (edges_of g) ≡ false
    → edges_of mid ≡ edges_of g
    → sorted (flat_map (reference_edges mid.sources (all_origins mid.provenances)) new) ≡ sorted (taken_over reborrows (edges_of g))
    → left ≡ gone_each taken mid → after ≡ with_references new left → edges_of last ≡ edges_of after
    → sorted (edges_of last) ≡ sorted (without_each taken (edges_of g) ++ taken_over reborrows (edges_of g))
tied_edges taken reborrows new g mid left after last free all given is_left is same =
    let es : List Edge = flat_map (reference_edges mid.sources (all_origins mid.provenances)) new in
    let bare : ProvenanceGraph = gone_each taken mid in
    ap sorted same
    ∙ ap (λ d. sorted (edges_of d)) is
    ∙ ap sorted (flat_map-append (reference_edges left.sources (all_origins left.provenances)) left.references new)
    ∙ ap (λ (d : ProvenanceGraph). sorted (edges_of d ++ flat_map (reference_edges d.sources (all_origins d.provenances)) new)) is_left
    ∙ sorted-append (edges_of bare) (without_each taken (edges_of g)) (flat_map (reference_edges bare.sources (all_origins bare.provenances)) new) (taken_over reborrows (edges_of g))
    (ap sorted (edges_of-gone_each taken mid ∙ ap (without_each taken) all))
    (ap sorted (edges-gone_each taken new mid (all_free taken reborrows (edges_of g) es given (free_each taken (edges_of g) free))) ∙ given)
