-- What a call's results take over, result by result.
use Rattle.std.proofs.Common.{◌≡◌, ℕ, List, [], ◌∷◌, ◌++◌, length, drop, get_or, ◌+◌, ◌<◌, ◌≤◌, sym, ap, ◌∙◌, arith, append-nil, append_assoc}
use Rattle.std.proofs.lemmas.List.{drop_more, drop_all}
use Rattle.mv_move_types.specs.declared.borrow.Node.{Node}
use Rattle.mv_move_types.specs.declared.token.Token.{Token}
use Rattle.mv_edges.specs.Edges.{Edge}
use Rattle.mv_ways.specs.Graph.{Reborrow, taken_over}
use Rattle.mv_certificate_rules.specs.BorrowRules.{result_edges}
use Rattle.mv_borrow_graph.proofs.Rows.{result_edges-first}

-- one result more
pub reborrows_more : (mutable all : List Node) (place i : ℕ) (results : List Token) (d : Token) (hs new : List Reborrow) (es : List Edge) → i < length results
    → taken_over new es ≡ taken_over hs es ++ result_edges mutable all (place + i) (get_or results i d ∷ []) es
    → taken_over hs es ++ result_edges mutable all (place + i) (drop i results) es ≡ result_edges mutable all place results es
    → taken_over new es ++ result_edges mutable all (place + (i + 1)) (drop (i + 1) results) es ≡ result_edges mutable all place results es
reborrows_more mutable all place i results d hs new es h is rest =
    let one = result_edges mutable all (place + i) (get_or results i d ∷ []) es in
    let others = result_edges mutable all (place + (i + 1)) (drop (i + 1) results) es in
    let next : place + i + 1 ≡ place + (i + 1) = omega arith in
    let both : result_edges mutable all (place + i) (drop i results) es ≡ one ++ others =
    ap (λ ts. result_edges mutable all (place + i) ts es) (drop_more results i d h)
    ∙ result_edges-first mutable all (place + i) (get_or results i d) (drop (i + 1) results) es
    ∙ ap (λ k. one ++ result_edges mutable all k (drop (i + 1) results) es) next in
    ap (λ x. x ++ others) is ∙ append_assoc (taken_over hs es) one others ∙ ap (λ x. taken_over hs es ++ x) (sym both) ∙ rest

-- no result is left
pub reborrows_all : (mutable all : List Node) (place i : ℕ) (results : List Token) (hs : List Reborrow) (es : List Edge) → length results ≤ i
    → taken_over hs es ++ result_edges mutable all (place + i) (drop i results) es ≡ result_edges mutable all place results es
    → taken_over hs es ≡ result_edges mutable all place results es
reborrows_all mutable all place i results hs es h rest =
    sym (append-nil (taken_over hs es)) ∙ ap (λ ts. taken_over hs es ++ result_edges mutable all (place + i) ts es) (sym (drop_all i results h)) ∙ rest
