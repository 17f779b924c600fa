-- Comparisons of lists of numbers and of edges, by the words of the definitions.
use Rattle.mv_edges.proofs.Common.{[], ℕ, ◌&&◌, ◌||◌, ◌∙◌, ◌∷◌, ◌≡◌, Bool, List, ap, cond, eqb, false, ltb, not, refl, slice_get, sym, true, true≢false, and_from, and_parts}
use Rattle.mv_edges.proofs.Common.{beq, nat_eq_equiv, bytes_decides, option_map_or, bytes_eq, begins, edge_before, edge_order, list_before, nodes_code, Edge, Label, agrees}
use Rattle.mv_edges.proofs.Common.{an_edge, same_node, same_node_decides}
use Rattle.std.proofs.Common.{Ordering, Less, Equal, Greater, nat_cmp, is_lt}
use Rattle.std.specs.Ordering.{ordering_then, bool_cmp, is_eq}
use Rattle.std.specs.Cmp.Lexicographic.{slice_cmp}
use Rattle.std.specs.List.{starts_with}
use Rattle.mv_edges.proofs.EdgeOrder.{edge_strict, same_edges}
use Rattle.std.proofs.lemmas.Map.Text.{is_eq-slice_cmp}
use Rattle.std.specs.Cmp.{booleans_Decides}

-- `starts_with`
pub starts_with_begins : (xs ys : List ℕ) → starts_with eqb ys xs ≡ begins xs ys
starts_with_begins [] ys = refl
starts_with_begins (x ∷ xs) [] = refl
starts_with_begins (x ∷ xs) (y ∷ ys) = ap (λ b. eqb x y && b) (starts_with_begins xs ys)

-- the first position alone decides
pub agrees_first : (f : ℕ) (label : Label) → agrees f label ≡ option_map_or (λ p. eqb p f) (slice_get label.path 0) true
agrees_first f label = by_path label.path
  where
    tests : (a b c : Bool) → b ≡ a → (a && c || b && true) ≡ a
    tests true b true h = refl
    tests true b false h = ap (λ d. d && true) h
    tests false b c h = ap (λ d. d && true) h

    by_path : (path : List ℕ) → (begins path (f ∷ []) || begins (f ∷ []) path) ≡ option_map_or (λ p. eqb p f) (slice_get path 0) true
    by_path [] = refl
    by_path (p ∷ ps) = tests (eqb p f) (eqb f p) (begins ps []) (nat_eq_equiv.symm f p)

-- `<` of lists
pub list_order_before : (xs ys : List ℕ) → is_lt (slice_cmp nat_cmp xs ys) ≡ list_before xs ys
list_order_before [] [] = refl
list_order_before [] (y ∷ ys) = refl
list_order_before (x ∷ xs) [] = refl
list_order_before (x ∷ xs) (y ∷ ys) = first (ltb x y) (eqb x y) (slice_cmp nat_cmp xs ys) ∙ ap (λ b. ltb x y || eqb x y && b) (list_order_before xs ys)
  where
    first : (a b : Bool) (rest : Ordering) → is_lt (ordering_then (cond a Less (cond b Equal Greater)) rest) ≡ (a || b && is_lt rest)
    first true b rest = refl
    first false true rest = refl
    first false false rest = refl

-- one comparison after another
then_before : (o r : Ordering) → is_lt (ordering_then o r) ≡ (is_lt o || is_eq o && is_lt r)
then_before Less r = refl
then_before o r = refl

then_same : (o r : Ordering) → is_eq (ordering_then o r) ≡ (is_eq o && is_eq r)
then_same Less r = refl
then_same o r = refl

bool_before : (c a b : Bool) → (c && is_lt (bool_cmp a b)) ≡ (c && not a && b)
bool_before true true true = refl
bool_before true true false = refl
bool_before true false true = refl
bool_before true false false = refl
bool_before false a b = refl

bool_same : (a b : Bool) → is_eq (bool_cmp a b) ≡ beq a b
bool_same true true = refl
bool_same true false = refl
bool_same false true = refl
bool_same false false = refl

-- the comparison of edges is by the order of edges
pub order_before : (a b : Edge) → is_lt (edge_order a b) ≡ edge_before a b
order_before a b =
    let nodes = slice_cmp nat_cmp (nodes_code a) (nodes_code b) in
    let paths = slice_cmp nat_cmp a.label.path b.label.path in
    let opens = bool_cmp a.label.is_open b.label.is_open in
    let inner : is_lt (ordering_then paths opens) ≡ (list_before a.label.path b.label.path || bytes_eq a.label.path b.label.path && not a.label.is_open && b.label.is_open) =
    then_before paths opens ∙ ap (λ c. c || is_eq paths && is_lt opens) (list_order_before a.label.path b.label.path)
    ∙ ap (λ c. list_before a.label.path b.label.path || c && is_lt opens) (is_eq-slice_cmp a.label.path b.label.path)
    ∙ ap (λ c. list_before a.label.path b.label.path || c) (bool_before (bytes_eq a.label.path b.label.path) a.label.is_open b.label.is_open) in
    then_before nodes (ordering_then paths opens) ∙ ap (λ c. c || is_eq nodes && is_lt (ordering_then paths opens)) (list_order_before (nodes_code a) (nodes_code b))
    ∙ ap (λ c. list_before (nodes_code a) (nodes_code b) || c && is_lt (ordering_then paths opens)) (is_eq-slice_cmp (nodes_code a) (nodes_code b))
    ∙ ap (λ c. list_before (nodes_code a) (nodes_code b) || bytes_eq (nodes_code a) (nodes_code b) && c) inner

-- and its ties are by the parts
order_ties : (a b : Edge) → is_eq (edge_order a b) ≡ (bytes_eq (nodes_code a) (nodes_code b) && (bytes_eq a.label.path b.label.path && beq a.label.is_open b.label.is_open))
order_ties a b =
    let nodes = slice_cmp nat_cmp (nodes_code a) (nodes_code b) in
    let paths = slice_cmp nat_cmp a.label.path b.label.path in
    let opens = bool_cmp a.label.is_open b.label.is_open in
    then_same nodes (ordering_then paths opens) ∙ ap (λ c. c && is_eq (ordering_then paths opens)) (is_eq-slice_cmp (nodes_code a) (nodes_code b))
    ∙ ap (λ c. bytes_eq (nodes_code a) (nodes_code b) && c)
    (then_same paths opens ∙ ap (λ c. c && is_eq opens) (is_eq-slice_cmp a.label.path b.label.path) ∙ ap (λ c. bytes_eq a.label.path b.label.path && c) (bool_same a.label.is_open b.label.is_open))

-- edges that tie are one
pub order_same : (a b : Edge) → edge_order a b ≡ Equal → a ≡ b
order_same a b h =
    let ties : (bytes_eq (nodes_code a) (nodes_code b) && (bytes_eq a.label.path b.label.path && beq a.label.is_open b.label.is_open)) ≡ true = sym (order_ties a b) ∙ ap is_eq h in
    let parts = and_parts (bytes_eq (nodes_code a) (nodes_code b)) (bytes_eq a.label.path b.label.path && beq a.label.is_open b.label.is_open) ties in
    let label = and_parts (bytes_eq a.label.path b.label.path) (beq a.label.is_open b.label.is_open) parts.1 in
    same_edges a b ((bytes_decides (nodes_code a) (nodes_code b)).0 parts.0) ((bytes_decides a.label.path b.label.path).0 label.0) ((booleans_Decides a.label.is_open b.label.is_open).0 label.1)

order_itself : (a : Edge) → is_eq (edge_order a a) ≡ true
order_itself a =
    order_ties a a
    ∙ and_from (bytes_eq (nodes_code a) (nodes_code a)) (bytes_eq a.label.path a.label.path && beq a.label.is_open a.label.is_open) ((bytes_decides (nodes_code a) (nodes_code a)).1 refl)
    (and_from (bytes_eq a.label.path a.label.path) (beq a.label.is_open a.label.is_open) ((bytes_decides a.label.path a.label.path).1 refl) ((booleans_Decides a.label.is_open a.label.is_open).1 refl))

pub order_less : (a b : Edge) → edge_order a b ≡ Less → edge_before a b ≡ true
order_less a b h = sym (order_before a b) ∙ ap is_lt h

pub order_greater : (a b : Edge) → edge_order a b ≡ Greater → edge_before b a ≡ true
order_greater a b h = by_test (edge_before b a) refl
  where
    by_test : (c : Bool) → edge_before b a ≡ c → c ≡ true
    by_test true e = refl
    by_test false e =
        let same : a ≡ b = edge_strict.total a b (sym (order_before a b) ∙ ap is_lt h) e in
        absurd (true≢false (sym (order_itself a) ∙ ap (λ x. is_eq (edge_order a x)) same ∙ ap is_eq h))

-- equal edges compare alike
pub order_of_views : (v x w y : Edge) → v ≡ x → w ≡ y → edge_order x y ≡ edge_order v w
order_of_views v x w y h g = ap (λ z. edge_order z y) (sym h) ∙ ap (edge_order v) (sym g)

-- edges with the same nodes tie by them
pub order_of_same_nodes : (a b : Edge) → same_node a.from b.from ≡ true → same_node a.to b.to ≡ true → slice_cmp nat_cmp (nodes_code a) (nodes_code b) ≡ Equal
order_of_same_nodes a b h g =
    ap (slice_cmp nat_cmp (nodes_code a)) (sym same) ∙ (let code = nodes_code a in by_order (slice_cmp nat_cmp code code) (is_eq-slice_cmp code code ∙ (bytes_decides code code).1 refl))
  where
    same : nodes_code a ≡ nodes_code b
    same =
        let from : a.from ≡ b.from = (same_node_decides a.from b.from).0 h in
        let to : a.to ≡ b.to = (same_node_decides a.to b.to).0 g in
        λ i. nodes_code (an_edge (from i) a.label (to i))

    by_order : (o : Ordering) → is_eq o ≡ true → o ≡ Equal
    by_order Less e = absurd (true≢false (sym e))
    by_order Equal e = refl
    by_order Greater e = absurd (true≢false (sym e))
