-- A call: the arguments' edges go, and the results lead from where the arguments did.
use Rattle.std.proofs.Common.{◌≡◌, ℕ, zero, suc, ◌+◌, ◌-◌, Bool, true, false, not, ◌&&◌, List, [], ◌∷◌, ◌++◌, length, reverse, slice_get}
use Rattle.std.proofs.Common.{refl, sym, ap, ◌∙◌, subst, arith, true≢false, ⊎_elim, inl, inr, Contains}
use Rattle.std.specs.Prelude.{if◌then◌else◌}
use Rattle.std.specs.List.{list_all, list_any}
use Rattle.std.specs.Option.{option_map_or}
use Rattle.std.proofs.lemmas.Bool.{and_parts, and_from, false≢true}
use Rattle.std.proofs.lemmas.List.{reverse-reverse, length-reverse, length-append}
use Rattle.std.proofs.lemmas.List.Elements.{Contains-append_left, Contains-append_right}
use Rattle.mv_move_types.specs.declared.borrow.Node.{Node}
use Rattle.mv_move_types.specs.declared.borrow.Node.TheVariants.{Slot, Own, Glob, Temp}
use Rattle.mv_move_types.specs.declared.token.Token.{Token}
use Rattle.mv_move_types.specs.declared.token.Token.TheVariants.{Plain, Reference, MutableReference}
use Rattle.mv_move_types.specs.Module.{Module, FunctionDefinition}
use Rattle.mv_type_rules.specs.TypeRules.{Types}
use Rattle.mv_type_rules.specs.TypesHold.{Point, point_at}
use Rattle.mv_edges.specs.Edges.{Edge, same_node, opened, inherited, without, without_each}
use Rattle.mv_edges.proofs.Insertion.{contains_here, contains_cases, all_contains, all_from_contains, all_filter}
use Rattle.mv_edges.proofs.Related.{list_any_from}
use Rattle.mv_edges.proofs.Sorting.{any_passes}
use Rattle.mv_certificate_rules.specs.BorrowRules.{is_mutable_token, is_reference_token, no_edge_out, reference_nodes, opened_edges, result_edges}
use Rattle.mv_certificate_rules.specs.Nodes.{has_place, leads_out, leads_in, edge_is_there, are_there}
use Rattle.mv_borrow_graph.specs.Laws.Places.{is_under, has_over, under_apart, out_stays, either_place}
use Rattle.mv_borrow_graph.specs.Laws.Shifts.{Shift}
use Rattle.mv_borrow_graph.specs.Laws.There.{node_itself, there_parts, there_from, each_append, each_inherited, each_flat, neither, edge_stays}
use Rattle.mv_edges.proofs.Moved.{all_pass}

-- a parameter that passes the test has its node among those that do
named : (test : Token → Bool) (k : ℕ) (ts : List Token) (j : ℕ)
    → option_map_or test (slice_get ts j) false ≡ true → Contains (reference_nodes test k ts) (Temp (k + j))
named test k [] j h = absurd (false≢true h)
named test k (t ∷ ts) zero h =
    let here : Contains (Temp k ∷ []) (Temp k) = contains_here (Temp k) [] in
    let first : Contains (if test t then (Temp k ∷ []) else []) (Temp k) =
    subst (λ (b : Bool). Contains (if b then (Temp k ∷ []) else []) (Temp k)) (sym h) here in
    let place : k ≡ k + 0 = omega arith in
    subst (λ n. Contains (reference_nodes test k (t ∷ ts)) (Temp n)) place
    (Contains-append_left (if test t then (Temp k ∷ []) else []) (reference_nodes test (k + 1) ts) (Temp k) first)
named test k (t ∷ ts) (suc j) h =
    let place : k + 1 + j ≡ k + suc j = omega arith in
    subst (λ n. Contains (reference_nodes test k (t ∷ ts)) (Temp n)) place
    (Contains-append_right (if test t then (Temp k ∷ []) else []) (reference_nodes test (k + 1) ts) (Temp (k + 1 + j)) (named test (k + 1) ts j h))

-- what all edges have, those have that are left
left_all : (q : Edge → Bool) (ns : List Node) (es : List Edge) → list_all q es ≡ true → list_all q (without_each ns es) ≡ true
left_all q [] es h = h
left_all q (n ∷ ns) es h = left_all q ns (without n es) (all_filter (λ e. not (same_node e.from n) && not (same_node e.to n)) q es h)

-- none of those left is at one of the nodes
left_free : (ns : List Node) (n : Node) (es : List Edge)
    → Contains ns n → list_all (λ e. not (same_node e.from n) && not (same_node e.to n)) (without_each ns es) ≡ true
left_free [] n es c = absurd (let h = c.1 in let no : ⊥ = omega (arith, h) in no)
left_free (x ∷ ns) n es c =
    elim (contains_cases x ns n c) [
      | inl same ↦ subst (λ y. list_all (λ e. not (same_node e.from y) && not (same_node e.to y)) (without_each ns (without x es)) ≡ true) same
          (left_all (λ e. not (same_node e.from x) && not (same_node e.to x)) ns (without x es)
          (all_pass (λ e. not (same_node e.from x) && not (same_node e.to x)) es))
      | inr there ↦ left_free ns n (without x es) there
    ]

-- no edge leads out of a node that is free
none_out : (n : Node) (es : List Edge) (e : Edge) → no_edge_out n es ≡ true → Contains es e → same_node e.from n ≡ false
none_out n es e free c = by_test (same_node e.from n) refl
  where
    by_test : (b : Bool) → same_node e.from n ≡ b → b ≡ false
    by_test false t = refl
    by_test true t =
        let any : list_any (λ x. same_node x.from n) es ≡ true = list_any_from (λ x. same_node x.from n) es e c t in
        absurd (true≢false (sym any ∙ any_passes (λ x. same_node x.from n) es ∙ ap not free))

-- the edge is there, and comes from under the arguments
abbrev comes_from_under : Point → ℕ → Edge → Bool
comes_from_under p b e = edge_is_there p e && is_under b e.from

module _ (m : Module) (d : FunctionDefinition) (params results rest : Types) where
  abbrev before : Point
  before = point_at m d (reverse params ++ rest)

  abbrev after : Point
  after = point_at m d (reverse results ++ rest)

  abbrev b : ℕ
  b = length rest

  abbrev mutable : List Node
  mutable = reference_nodes is_mutable_token b params

  abbrev all : List Node
  all = reference_nodes is_reference_token b params

  -- an argument stands where its parameter does
  argument : (test : Token → Bool) (j : ℕ) → has_place test (reverse params) j ≡ true → Contains (reference_nodes test b params) (Temp (b + j))
  argument test j h = named test b params j (ap (λ ts. option_map_or test (slice_get ts j) false) (sym (reverse-reverse params)) ∙ h)

  -- a node of an edge, if it is none of these arguments, is under them
  out_low : (n : Node) → leads_out before n ≡ true → ((j : ℕ) → Contains mutable (Temp (b + j)) → same_node n (Temp (b + j)) ≡ false) → is_under b n ≡ true
  out_low (Slot l) h free = refl
  out_low (Own l) h free = refl
  out_low (Glob t) h free = refl
  out_low (Temp k) h free =
      ⊎_elim (λ u. u)
      (λ at. absurd (true≢false (sym (ap (same_node (Temp k)) (ap Temp (sym at.1.0)) ∙ node_itself (Temp k))
      ∙ free at.0 (argument is_mutable_token at.0 at.1.1))))
      (either_place (reverse params) rest is_mutable_token k h)

  in_low : (n : Node) → leads_in before n ≡ true → ((j : ℕ) → Contains all (Temp (b + j)) → same_node n (Temp (b + j)) ≡ false) → is_under b n ≡ true
  in_low (Slot l) h free = refl
  in_low (Own l) h free = refl
  in_low (Glob t) h free = refl
  in_low (Temp k) h free =
      ⊎_elim (λ u. u)
      (λ at. absurd (true≢false (sym (ap (same_node (Temp k)) (ap Temp (sym at.1.0)) ∙ node_itself (Temp k))
      ∙ free at.0 (argument is_reference_token at.0 at.1.1))))
      (either_place (reverse params) rest is_reference_token k h)

  module _ (es : List Edge) (there : are_there before es ≡ true) (needed : list_all (λ n. no_edge_out n es) mutable ≡ true) where
    -- edges come from under the arguments, since none leads out of a mutable one
    from_low : (e : Edge) → Contains es e → is_under b e.from ≡ true
    from_low e c =
        let was = there_parts before e (all_contains (edge_is_there before) es e there c) in
        out_low e.from was.out (λ j here. none_out (Temp (b + j)) es e (all_contains (λ n. no_edge_out n es) mutable (Temp (b + j)) needed here) c)

    all_from_low : list_all (comes_from_under before b) es ≡ true
    all_from_low =
        all_from_contains (comes_from_under before b) es
        (λ e c. and_from (edge_is_there before e) (is_under b e.from) (all_contains (edge_is_there before) es e there c) (from_low e c))

    -- those left are under the arguments
    rest_there : are_there after (without_each all es) ≡ true
    rest_there =
        all_from_contains (edge_is_there after) (without_each all es)
        (λ e c.
        let both = and_parts (edge_is_there before e) (is_under b e.from)
        (all_contains (comes_from_under before b) (without_each all es) e (left_all (comes_from_under before b) all es all_from_low) c) in
        let was = there_parts before e both.0 in
        edge_stays m d (reverse params) (reverse results) rest e was both.1
        (in_low e.to was.into (λ j here. (neither (Temp (b + j)) e
        (all_contains (λ x. not (same_node x.from (Temp (b + j))) && not (same_node x.to (Temp (b + j)))) (without_each all es) e
        (left_free all (Temp (b + j)) es here) c)).1)))

    -- a result's edges
    opened_there : (ns : List Node) (j : ℕ) → leads_in after (Temp (b + j)) ≡ true → are_there after (opened_edges ns (Temp (b + j)) es) ≡ true
    opened_there ns j into =
        each_flat (edge_is_there after) (λ n. inherited opened n (Temp (b + j)) es)
        (λ n. each_inherited (comes_from_under before b) (edge_is_there after) opened n (Temp (b + j))
        (λ e t _.
        let both = and_parts (edge_is_there before e) (is_under b e.from) t in
        let was = there_parts before e both.0 in
        there_from after (record { from = e.from; label = opened e.label; to = Temp (b + j) })
        (record {
          out = out_stays m d (reverse params) (reverse results) rest e.from was.out both.1;
          into = into;
          apart = under_apart b j e.from both.1;
          small = was.small;
        }))
        es all_from_low)
        ns

    -- the results from one on
    results_there : (j : ℕ) (ts : List Token)
        → ((i : ℕ) → option_map_or is_reference_token (slice_get ts i) false ≡ true → leads_in after (Temp (b + (j + i))) ≡ true)
        → (ms al : List Node) → are_there after (result_edges ms al (b + j) ts es) ≡ true
    results_there j [] into ms al = refl
    results_there j (t ∷ ts) into ms al =
        let next : b + j + 1 ≡ b + (j + 1) = omega arith in
        let more : are_there after (result_edges ms al (b + j + 1) ts es) ≡ true =
        subst (λ k. are_there after (result_edges ms al k ts es) ≡ true) (sym next)
        (results_there (j + 1) ts (λ i h. let place : j + suc i ≡ j + 1 + i = omega arith in
        subst (λ k. leads_in after (Temp (b + k)) ≡ true) place (into (suc i) h)) ms al) in
        let here : j + 0 ≡ j = omega arith in
        by_token t (λ r. subst (λ k. leads_in after (Temp (b + k)) ≡ true) here (into 0 r)) more
      where
        by_token : (t : Token)
            → (is_reference_token t ≡ true → leads_in after (Temp (b + j)) ≡ true) → are_there after (result_edges ms al (b + j + 1) ts es) ≡ true
            → are_there after (result_edges ms al (b + j) (t ∷ ts) es) ≡ true
        by_token (Plain v) f more = more
        by_token (Reference v) f more =
            each_append (edge_is_there after) (opened_edges al (Temp (b + j)) es) (result_edges ms al (b + j + 1) ts es) (opened_there al j (f refl)) more
        by_token (MutableReference v) f more =
            each_append (edge_is_there after) (opened_edges ms (Temp (b + j)) es) (result_edges ms al (b + j + 1) ts es) (opened_there ms j (f refl)) more

    result_place : (i : ℕ) → option_map_or is_reference_token (slice_get results i) false ≡ true → leads_in after (Temp (b + (0 + i))) ≡ true
    result_place i h =
        let place : 0 + i ≡ i = omega arith in
        ap (λ k. leads_in after (Temp (b + k))) place ∙ has_over (reverse results) rest is_reference_token i
        ∙ ap (λ ts. option_map_or is_reference_token (slice_get ts i) false) (reverse-reverse results) ∙ h

    called_there : are_there after (without_each all es ++ result_edges mutable all b results es) ≡ true
    called_there =
        let first : b + 0 ≡ b = omega arith in
        each_append (edge_is_there after) (without_each all es) (result_edges mutable all b results es) rest_there
        (subst (λ k. are_there after (result_edges mutable all k results es) ≡ true) first (results_there 0 results result_place mutable all))

-- after a call each edge leads between nodes that are there
pub call_row : (m : Module) (d : FunctionDefinition) (params results : List Token) (s t : Types)
    → Shift s t (reverse params) (reverse results) → (base : ℕ) → base ≡ length s - length params
    → (es : List Edge)
    → list_all (λ n. no_edge_out n es) (reference_nodes is_mutable_token base params) ≡ true → are_there (point_at m d s) es ≡ true
    → are_there (point_at m d t) (without_each (reference_nodes is_reference_token base params) es
    ++ result_edges (reference_nodes is_mutable_token base params) (reference_nodes is_reference_token base params) base results es) ≡ true
call_row m d params results s t h base is es needed there =
    let low : base ≡ length h.rest = below h.before in
    subst (λ x. are_there (point_at m d x) (without_each (reference_nodes is_reference_token base params) es
    ++ result_edges (reference_nodes is_mutable_token base params) (reference_nodes is_reference_token base params) base results es) ≡ true) (sym h.after)
    (subst (λ k. are_there (point_at m d (reverse results ++ h.rest)) (without_each (reference_nodes is_reference_token k params) es
    ++ result_edges (reference_nodes is_mutable_token k params) (reference_nodes is_reference_token k params) k results es) ≡ true) (sym low)
    (called_there m d params results h.rest es (subst (λ x. are_there (point_at m d x) es ≡ true) h.before there)
    (subst (λ k. list_all (λ n. no_edge_out n es) (reference_nodes is_mutable_token k params) ≡ true) low needed)))
  where
    below : s ≡ reverse params ++ h.rest → base ≡ length h.rest
    below e = omega (arith, is, ap length e, length-append (reverse params) h.rest, length-reverse params)
