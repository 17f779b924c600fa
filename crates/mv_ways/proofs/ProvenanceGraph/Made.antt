-- Edges, each added to what leads to its node.
use Rattle.mv_edges.proofs.Common.{[], ℕ, zero, suc, ◌++◌, ◌+◌, ◌<◌, ◌∙◌, ◌∷◌, ◌≡◌, List, Option, Some, ap, append_assoc, arith, flat_map, get_or, length, lt-ltb, refl, set, sym, take, take_more, true}
use Rattle.mv_edges.proofs.Common.{Edge, Node, sorted}
use Rattle.mv_edges.proofs.Insertion.{all_weaker}
use Rattle.mv_edges.proofs.AsSets.{sorted-append, sorted_behind_alike}
use Rattle.mv_edges.proofs.Sorting.{sorted-append_swap}
use Rattle.mv_ways.specs.Made.{IsPlaced, are_inside, group_edges, grouped, is_inside}
use Rattle.mv_ways.specs.Provenances.{HasMoreSources, an_origin, origin_edges, source_at}
use Rattle.mv_ways.specs.declared.provenances.made.Group.{Group}
use Rattle.mv_ways.proofs.Piecewise.{flat_map_passing}
use Rattle.mv_ways.proofs.ProvenanceGraph.Kept.{all_at, all_set, origin_edges-more, origins_more}
use Rattle.mv_ways.proofs.ProvenanceGraph.Stating.{origins_known_more, origins_pushed}

-- edges more at one place
edges_more : {X : Type 0} (f : X → List Edge) (xs : List X) (k : ℕ) (d y : X) (more : List Edge) → k < length xs → f y ≡ f (get_or xs k d) ++ more → sorted (flat_map f (set xs k y)) ≡ sorted (flat_map f xs ++ more)
edges_more f [] k d y more h e = absurd (omega (arith, h))
edges_more f (x ∷ xs) zero d y more h e =
    ap (λ es. sorted (es ++ flat_map f xs)) e
    ∙ ap sorted (append_assoc (f x) more (flat_map f xs))
    ∙ sorted_behind_alike (f x) (more ++ flat_map f xs) (flat_map f xs ++ more) (sorted-append_swap more (flat_map f xs))
    ∙ ap sorted (sym (append_assoc (f x) (flat_map f xs) more))
edges_more f (x ∷ xs) (suc k) d y more h e =
    sorted_behind_alike (f x) (flat_map f (set xs k y)) (flat_map f xs ++ more) (edges_more f xs k d y more (omega (arith, h)) e)
    ∙ ap sorted (sym (append_assoc (f x) (flat_map f xs) more))

-- the first edges, as groups
pub record IsGrouped (sources : List (Option Node)) (groups : List Group) (es : List Edge) : Type 0 where
  pub edges : sorted (grouped sources groups) ≡ sorted es
  pub inside : are_inside (length sources) groups ≡ true

-- with an edge more
module _ (before after : List (Option Node)) (groups made : List Group) (more : HasMoreSources before after) where
  abbrev same : HasMoreSources after after
  same = record { more = omega arith; kept = λ k h. refl }

  inside_more : are_inside (length before) groups ≡ true → are_inside (length after) groups ≡ true
  inside_more h = all_weaker (is_inside (length before)) (is_inside (length after)) (λ (g : Group). origins_more (length before) (length after) g.origins.items more.more) groups h

  grouped_more : are_inside (length before) groups ≡ true → grouped after groups ≡ grouped before groups
  grouped_more h = flat_map_passing (is_inside (length before)) (group_edges after) (group_edges before) (λ (g : Group) k. origin_edges-more before after more g.to g.origins.items k) groups h

  pub edge_added : (source k : ℕ) (d y : Group) (e : Edge) (es : List Edge) (i : ℕ) → source_at after source ≡ Some e.from → source < length after → IsPlaced e.to groups made k
      → y.to ≡ (get_or made k d).to → y.origins.items ≡ (get_or made k d).origins.items ++ an_origin source e.label ∷ []
      → i < length es → e ≡ get_or es i e → IsGrouped before groups (take i es) → IsGrouped after (set made k y) (take (i + 1) es)
  edge_added source k d y e es i at known placed node origins inside is first =
      let z = get_or made k d in
      let there : z.to ≡ e.to = placed.at.there d in
      let all = placed.known (length after) (inside_more first.inside) in
      let its = all_at (is_inside (length after)) made k d placed.at.inside all in
      record {
        edges =
            edges_more (group_edges after) made k d y (e ∷ []) placed.at.inside
            (ap (λ n. flat_map (origin_edges after n) y.origins.items) (node ∙ there)
            ∙ origins_pushed after after z.origins.items y.origins.items source e.label e.from e.to same its at origins
            ∙ ap (λ n. flat_map (origin_edges after n) z.origins.items ++ e ∷ []) (sym there))
            ∙ ap (λ fs. sorted (fs ++ e ∷ [])) (placed.edges after ∙ grouped_more first.inside)
            ∙ sorted-append (grouped before groups) (take i es) (e ∷ []) (e ∷ []) first.edges refl
            ∙ ap sorted (ap (λ x. take i es ++ x ∷ []) is ∙ sym (take_more es i e inside));
        inside =
            all_set (is_inside (length after)) made k y all
            (origins_known_more (length after) (length after) z.origins.items y.origins.items (an_origin source e.label) (omega arith) its (lt-ltb source (length after) known) origins);
      }
