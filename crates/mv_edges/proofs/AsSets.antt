-- The order in which edges stand is nothing to what is asked of them, and to what is made of them where that is put in order.
use Rattle.mv_edges.proofs.Common.{[], ◌&&◌, ◌++◌, ◌∙◌, ◌∷◌, ◌≡◌, Bool, Contains, List, ap, false, filter, flat_map, inl, inr, map, not, refl, subst, sym, true, true≢false}
use Rattle.mv_edges.proofs.Common.{false_from_ne_true, Contains-append_cases, Contains-append_left, Contains-append_right, list_all, list_any, Node, Edge, Label, but_out_of, edge_leq}
use Rattle.mv_edges.proofs.Common.{edges_leq, inherited, into, renamed, renamed_node, same_node, without, sorted}
use Rattle.std.proofs.lemmas.List.Concat.{flat_map_single}
use Rattle.mv_edges.proofs.Insertion.{contains_cases, contains_here, contains_there, contains_none, all_contains, all_from_contains}
use Rattle.mv_edges.proofs.Related.{passing, list_any_from}
use Rattle.mv_edges.proofs.Changes.{contains-filter, contains_from_filter}
use Rattle.mv_edges.proofs.Sorting.{contains-sorted, sorted_alike, sorted-ascending, ascending-sorted, ascending-filter, sorted-append_swap, sorted-append_sorted}

-- ---- what is made of the edges

pub contains-flat_map : (f : Edge → List Edge) (es : List Edge) (e z : Edge) → Contains es e → Contains (f e) z → Contains (flat_map f es) z
contains-flat_map f [] e z c d = absurd (contains_none e c)
contains-flat_map f (x ∷ es) e z c d =
    elim (contains_cases x es e c) [
      | inl h ↦ Contains-append_left (f x) (flat_map f es) z (subst (λ y. Contains (f y) z) (sym h) d)
      | inr m ↦ Contains-append_right (f x) (flat_map f es) z (contains-flat_map f es e z m d)
    ]

pub contains_from_flat_map : (f : Edge → List Edge) (es : List Edge) (z : Edge) → Contains (flat_map f es) z → (e : Edge) × (Contains es e × Contains (f e) z)
contains_from_flat_map f [] z c = absurd (contains_none z c)
contains_from_flat_map f (x ∷ es) z c =
    elim (Contains-append_cases (f x) (flat_map f es) z c) [
      | inl d ↦ (x, (contains_here x es, d))
      | inr d ↦ let rest = contains_from_flat_map f es z d in (rest.0, (contains_there x es rest.0 rest.1.0, rest.1.1))
    ]

-- lists made of each edge
pub sorted-flat_map : (f : Edge → List Edge) (es : List Edge) → sorted (flat_map f (sorted es)) ≡ sorted (flat_map f es)
sorted-flat_map f es =
    sorted_alike (flat_map f (sorted es)) (flat_map f es)
    (λ z. (
      λ c. let at = contains_from_flat_map f (sorted es) z c in contains-flat_map f es at.0 z ((contains-sorted es at.0).0 at.1.0) at.1.1,
      λ c. let at = contains_from_flat_map f es z c in contains-flat_map f (sorted es) at.0 z ((contains-sorted es at.0).1 at.1.0) at.1.1,
    ))

-- an edge made of each
pub sorted-map : (h : Edge → Edge) (es : List Edge) → sorted (map h (sorted es)) ≡ sorted (map h es)
sorted-map h es = ap sorted (sym (flat_map_single h (sorted es))) ∙ sorted-flat_map (λ e. h e ∷ []) es ∙ ap sorted (flat_map_single h es)

-- those that pass a test
pub sorted-filter : (p : Edge → Bool) (es : List Edge) → filter p (sorted es) ≡ sorted (filter p es)
sorted-filter p es =
    sym (sorted-ascending (filter p (sorted es)) (ascending-filter p (sorted es) (ascending-sorted es)))
    ∙ sorted_alike (filter p (sorted es)) (filter p es)
    (λ z. (
      λ c. let at = contains_from_filter p (sorted es) z c in contains-filter p es z ((contains-sorted es z).0 at.0) at.1,
      λ c. let at = contains_from_filter p es z c in contains-filter p (sorted es) z ((contains-sorted es z).1 at.0) at.1,
    ))

-- what is put in order twice
pub sorted-sorted : (es : List Edge) → sorted (sorted es) ≡ sorted es
sorted-sorted es = sorted-ascending (sorted es) (ascending-sorted es)

-- a part behind that may stand in another order
pub sorted_behind_alike : (zs xs ys : List Edge) → sorted xs ≡ sorted ys → sorted (zs ++ xs) ≡ sorted (zs ++ ys)
sorted_behind_alike zs xs ys h = sym (sorted-append_sorted zs xs) ∙ ap (λ es. sorted (zs ++ es)) h ∙ sorted-append_sorted zs ys

-- two parts, each of which may stand in another order
pub sorted-append : (es es' fs fs' : List Edge) → sorted es ≡ sorted es' → sorted fs ≡ sorted fs' → sorted (es ++ fs) ≡ sorted (es' ++ fs')
sorted-append es es' fs fs' h g =
    sorted_behind_alike es fs fs' g ∙ sorted-append_swap es fs' ∙ sorted_behind_alike fs' es es' h ∙ sorted-append_swap fs' es'

-- and any number of them
pub sorted-flat_map_alike : {X : Type 0} (f g : X → List Edge) → ((x : X) → sorted (f x) ≡ sorted (g x)) → (xs : List X) → sorted (flat_map f xs) ≡ sorted (flat_map g xs)
sorted-flat_map_alike f g h [] = refl
sorted-flat_map_alike f g h (x ∷ xs) = sorted-append (f x) (g x) (flat_map f xs) (flat_map g xs) (h x) (sorted-flat_map_alike f g h xs)

-- ---- the changes that the rules make

pub sorted-but_out_of : (n : Node) (es : List Edge) → but_out_of n (sorted es) ≡ sorted (but_out_of n es)
sorted-but_out_of n = sorted-filter (λ e. not (same_node e.from n))

pub sorted-without : (n : Node) (es : List Edge) → without n (sorted es) ≡ sorted (without n es)
sorted-without n = sorted-filter (λ e. not (same_node e.from n) && not (same_node e.to n))

pub sorted-into : (n : Node) (es : List Edge) → into n (sorted es) ≡ sorted (into n es)
sorted-into n = sorted-filter (λ e. same_node e.to n)

pub sorted-renamed : (old new : Node) (es : List Edge) → sorted (renamed old new (sorted es)) ≡ sorted (renamed old new es)
sorted-renamed old new = sorted-map (λ e. record { from = renamed_node old new e.from; label = e.label; to = renamed_node old new e.to })

pub sorted-inherited : (h : Label → Label) (n to : Node) (es : List Edge) → sorted (inherited h n to (sorted es)) ≡ sorted (inherited h n to es)
sorted-inherited h n to es =
    let inherits : Edge → Edge = λ e. record { from = e.from; label = h e.label; to = to } in
    ap (λ fs. sorted (map inherits fs)) (sorted-into n es) ∙ sorted-map inherits (into n es)

-- of several nodes
pub sorted-inherited_all : (h : Label → Label) (nodes : List Node) (to : Node) (es : List Edge)
    → sorted (flat_map (λ n. inherited h n to (sorted es)) nodes) ≡ sorted (flat_map (λ n. inherited h n to es) nodes)
sorted-inherited_all h nodes to es = sorted-flat_map_alike (λ n. inherited h n to (sorted es)) (λ n. inherited h n to es) (λ n. sorted-inherited h n to es) nodes

-- ---- what is asked of the edges

pub same_truth : (a b : Bool) → (a ≡ true → b ≡ true) → (b ≡ true → a ≡ true) → a ≡ b
same_truth true b f g = sym (f refl)
same_truth false b f g = sym (false_from_ne_true b (λ h. true≢false (sym (g h))))

pub any-sorted : (q : Edge → Bool) (es : List Edge) → list_any q (sorted es) ≡ list_any q es
any-sorted q es =
    same_truth (list_any q (sorted es)) (list_any q es)
    (λ h. let p = passing q (sorted es) h in list_any_from q es p.edge ((contains-sorted es p.edge).0 p.there) p.passes)
    (λ h. let p = passing q es h in list_any_from q (sorted es) p.edge ((contains-sorted es p.edge).1 p.there) p.passes)

pub all-sorted : (q : Edge → Bool) (es : List Edge) → list_all q (sorted es) ≡ list_all q es
all-sorted q es =
    same_truth (list_all q (sorted es)) (list_all q es)
    (λ h. all_from_contains q es (λ e c. all_contains q (sorted es) e h ((contains-sorted es e).1 c)))
    (λ h. all_from_contains q (sorted es) (λ e c. all_contains q es e h ((contains-sorted es e).0 c)))

pub leq-sorted : (es us : List Edge) → edges_leq (sorted es) us ≡ edges_leq es us
leq-sorted es us = all-sorted (λ a. list_any (edge_leq a) us) es
