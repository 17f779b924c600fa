-- What is known of a graph is a list in its order: what changes of the edges that its provenances stand for make of it.
use Rattle.mv_edges.proofs.Common.{[], ℕ, ◌&&◌, ◌++◌, ◌∙◌, ◌∷◌, ◌≡◌, Bool, List, Option, ap, flat_map, refl, sym, true, list_all, Node}
use Rattle.mv_edges.proofs.Common.{agrees_if, are_ascending, Edge, an_edge, but_out_of, edges_leq, extended, here, inherited}
use Rattle.mv_ways.specs.Between.{any_between}
use Rattle.mv_edges.proofs.Common.{opened, renamed, without, without_each, sorted}
use Rattle.mv_ways.specs.Graph.{Reborrow, taken_over}
use Rattle.mv_edges.proofs.AsSets.{sorted-append, sorted-sorted, sorted-without, sorted-but_out_of, sorted-renamed, sorted-inherited, sorted-inherited_all, sorted-flat_map_alike}
use Rattle.mv_edges.proofs.Sorting.{ascending-sorted}
use Rattle.mv_edges.proofs.AsSets.{all-sorted, any-sorted, leq-sorted}

-- ---- changes: of these edges others are made

module _ (es fs : List Edge) where
  pub held_gone : (n : Node) → fs ≡ without n es → sorted fs ≡ without n (sorted es)
  held_gone n e = ap sorted e ∙ sym (sorted-without n es)

  pub held_severed : (n : Node) → fs ≡ but_out_of n es → sorted fs ≡ but_out_of n (sorted es)
  held_severed n e = ap sorted e ∙ sym (sorted-but_out_of n es)

  pub held_gone_in_order : (n : Node) → fs ≡ without n es → sorted fs ≡ sorted (without n (sorted es))
  held_gone_in_order n e = sym (sorted-sorted fs) ∙ ap sorted (held_gone n e)

  pub held_severed_in_order : (n : Node) → fs ≡ but_out_of n es → sorted fs ≡ sorted (but_out_of n (sorted es))
  held_severed_in_order n e = sym (sorted-sorted fs) ∙ ap sorted (held_severed n e)

  pub held_moved : (old new : Node) → fs ≡ renamed old new es → sorted fs ≡ sorted (renamed old new (sorted es))
  held_moved old new e = ap sorted e ∙ sym (sorted-renamed old new es)

  pub held_lent : (from to : Node) → sorted fs ≡ sorted (es ++ an_edge from here to ∷ []) → sorted fs ≡ sorted (sorted es ++ an_edge from here to ∷ [])
  held_lent from to e = e ∙ sorted-append es (sorted es) (an_edge from here to ∷ []) (an_edge from here to ∷ []) (sym (sorted-sorted es)) refl

  pub held_shared : (old new : Node) → sorted fs ≡ sorted (es ++ inherited (λ label. label) old new es)
      → sorted fs ≡ sorted (sorted es ++ inherited (λ label. label) old new (sorted es))
  held_shared old new e =
      e ∙ sorted-append es (sorted es) (inherited (λ label. label) old new es) (inherited (λ label. label) old new (sorted es))
      (sym (sorted-sorted es)) (sym (sorted-inherited (λ label. label) old new es))

-- a list without the edges at a node, in its order
without_sorted : (n : Node) (es : List Edge) → sorted (without n (sorted es)) ≡ sorted (without n es)
without_sorted n es = ap sorted (sorted-without n es) ∙ sorted-sorted (without n es)

pub held_extended : (es fs : List Edge) (f : ℕ) (n : Node) → sorted fs ≡ sorted (without n es ++ inherited (extended f) n n es)
    → sorted fs ≡ sorted (without n (sorted es) ++ inherited (extended f) n n (sorted es))
held_extended es fs f n e =
    e ∙ sorted-append (without n es) (without n (sorted es)) (inherited (extended f) n n es) (inherited (extended f) n n (sorted es))
    (sym (without_sorted n es)) (sym (sorted-inherited (extended f) n n es))

-- what is left without some nodes, and what reborrows take over, is the same of a list in another order
without_each-alike : (ns : List Node) (es fs : List Edge) → sorted es ≡ sorted fs → sorted (without_each ns es) ≡ sorted (without_each ns fs)
without_each-alike [] es fs e = e
without_each-alike (n ∷ ns) es fs e =
    without_each-alike ns (without n es) (without n fs) (sym (without_sorted n es) ∙ ap (λ x. sorted (without n x)) e ∙ without_sorted n fs)

taken_over-sorted : (hs : List Reborrow) (es : List Edge) → sorted (taken_over hs (sorted es)) ≡ sorted (taken_over hs es)
taken_over-sorted hs es =
    sorted-flat_map_alike (λ (h : Reborrow). flat_map (λ n. inherited opened n h.node (sorted es)) h.givers) (λ (h : Reborrow). flat_map (λ n. inherited opened n h.node es) h.givers)
    (λ h. sorted-inherited_all opened h.givers h.node es) hs

pub held_tied : (es fs : List Edge) (ns : List Node) (hs : List Reborrow) → sorted fs ≡ sorted (without_each ns es ++ taken_over hs es)
    → sorted fs ≡ sorted (without_each ns (sorted es) ++ taken_over hs (sorted es))
held_tied es fs ns hs e =
    e ∙ sorted-append (without_each ns es) (without_each ns (sorted es)) (taken_over hs es) (taken_over hs (sorted es))
    (without_each-alike ns es (sorted es) (sym (sorted-sorted es))) (sym (taken_over-sorted hs es))

-- ---- queries

module _ (es : List Edge) where
  pub held_between : (from to : Node → Bool) (position : Option ℕ) → any_between from position to es ≡ any_between from position to (sorted es)
  held_between from to position = sym (any-sorted (λ e. from e.from && (agrees_if position e.label && to e.to)) es)

  pub held_under : (us : List Edge) → edges_leq es us ≡ edges_leq (sorted es) us
  held_under us = sym (leq-sorted es us)

  pub held_ascending : are_ascending (sorted es) ≡ true
  held_ascending = ascending-sorted es

  pub held_passing : (test : Edge → Bool) → list_all test es ≡ list_all test (sorted es)
  held_passing test = sym (all-sorted test es)
