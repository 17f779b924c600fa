-- A search by nodes, which are compared as numbers.
use Rattle.mv_edges.proofs.Common.{[], ℕ, ◌&&◌, ◌++◌, ◌<◌, ◌∙◌, ◌∷◌, ◌≡◌, ◌≤◌, ◌||◌, Bool, List, ap, arith, cases_lt, false, false_from_ne_true, get_or, get_or_default, inl, inr, length, not}
use Rattle.mv_edges.proofs.Common.{Edge, Glob, Node, Own, Slot, Temp, an_edge, are_ascending, bytes_eq, edge_before, edge_leq, here, label_leq, list_any, list_before, node_code, nodes_code}
use Rattle.mv_edges.proofs.Common.{lt-ltb, ltb, ltb-true, refl, subst, suc, sym, true, true≢false, zero, ◌+◌}
use Rattle.std.proofs.Common.{◌*◌}
use Rattle.std.proofs.lemmas.List.Elements.{AllWithin-more}
use Rattle.std.proofs.lemmas.List.Folds.{list_any_none}
use Rattle.std.specs.List.{AllPairs, AllWithin}
use Rattle.mv_edges.specs.Ascending.{node_index, node_kind}
use Rattle.mv_edges.specs.Numbers.{nodes_number}
use Rattle.mv_edges.proofs.EdgeOrder.{edge_strict, not_later, same_start}
use Rattle.mv_edges.proofs.Insertion.{all_contains}
use Rattle.mv_edges.proofs.Lexicographic.{before_cases, before_first, before_later, total}
use Rattle.mv_edges.proofs.Related.{related_parts}
use Rattle.mv_edges.proofs.AsSets.{same_truth}
use Rattle.mv_edges.proofs.Sorting.{ascending_above, ascending_tail}

kind_few : (n : Node) → node_kind n ≤ 3
kind_few (Slot l) = omega arith
kind_few (Own l) = omega arith
kind_few (Glob l) = omega arith
kind_few (Temp l) = omega arith

code_is : (n : Node) → node_code n ≡ node_kind n ∷ node_index n ∷ []
code_is (Slot l) = refl
code_is (Own l) = refl
code_is (Glob l) = refl
code_is (Temp l) = refl

-- ---- four numbers as one

abbrev four : ℕ → ℕ → ℕ → ℕ → ℕ
four a b c d = 262144 * (65536 * a + b) + (65536 * c + d)

module _ (a b c d w x y z : ℕ) (few_c : c ≤ 3) (few_y : y ≤ 3) (low_b : b < 65536) (low_d : d < 65536) (low_x : x < 65536) (low_z : z < 65536) where
  abbrev left : List ℕ
  left = a ∷ b ∷ c ∷ d ∷ []

  abbrev right : List ℕ
  right = w ∷ x ∷ y ∷ z ∷ []

  four_before : four a b c d < four w x y z → list_before left right ≡ true
  four_before h = elim (cases_lt a w) [
    | inl l ↦ before_first a (b ∷ c ∷ d ∷ []) w (x ∷ y ∷ z ∷ []) l
    | inr g ↦
        let e : a ≡ w = omega (arith, h, g, few_c, few_y, low_b, low_d, low_x, low_z) in
        before_later a (b ∷ c ∷ d ∷ []) w (x ∷ y ∷ z ∷ []) e (elim (cases_lt b x) [
          | inl l ↦ before_first b (c ∷ d ∷ []) x (y ∷ z ∷ []) l
          | inr k ↦
              let f : b ≡ x = omega (arith, h, e, k, few_c, few_y, low_d, low_z) in
              before_later b (c ∷ d ∷ []) x (y ∷ z ∷ []) f (elim (cases_lt c y) [
                | inl l ↦ before_first c (d ∷ []) y (z ∷ []) l
                | inr m ↦
                    let i : c ≡ y = omega (arith, h, e, f, m, low_d, low_z) in
                    before_later c (d ∷ []) y (z ∷ []) i (let l : d < z = omega (arith, h, e, f, i) in before_first d [] z [] l)
              ])
        ])
  ]

  before_four : list_before left right ≡ true → four a b c d < four w x y z
  before_four h = elim (before_cases a (b ∷ c ∷ d ∷ []) w (x ∷ y ∷ z ∷ []) h) [
    | inl l ↦ omega (arith, l, few_c, low_b, low_d)
    | inr p ↦
        let e = p.0 in
        elim (before_cases b (c ∷ d ∷ []) x (y ∷ z ∷ []) p.1) [
          | inl l ↦ omega (arith, e, l, few_c, low_d)
          | inr q ↦
              let f = q.0 in
              elim (before_cases c (d ∷ []) y (z ∷ []) q.1) [
                | inl l ↦ omega (arith, e, f, l, low_d)
                | inr r ↦
                    let i = r.0 in
                    elim (before_cases d [] z [] r.1) [
                      | inl l ↦ omega (arith, e, f, i, l)
                      | inr s ↦ absurd (true≢false (sym s.1))
                    ]
              ]
        ]
  ]

-- ---- the order of nodes

codes_are : (e : Edge) → nodes_code e ≡ node_kind e.from ∷ node_index e.from ∷ node_kind e.to ∷ node_index e.to ∷ []
codes_are e = λ i. code_is e.from i ++ code_is e.to i

nothing_before : (xs : List ℕ) → list_before xs [] ≡ false
nothing_before [] = refl
nothing_before (x ∷ xs) = refl

-- the first edge that is possible between the nodes of one
abbrev pub first_of : Edge → Edge
first_of e = an_edge e.from here e.to

same_codes : (a b : Edge) → a.from ≡ b.from → a.to ≡ b.to → nodes_code a ≡ nodes_code b
same_codes a b h g = ap (λ n. nodes_code (an_edge n here a.to)) h ∙ ap (λ n. nodes_code (an_edge b.from here n)) g

-- before the first edge between two nodes is what has earlier nodes
before_first_of : (e f : Edge) → edge_before e (first_of f) ≡ list_before (nodes_code e) (nodes_code f)
before_first_of e f =
    ap (λ b. list_before (nodes_code e) (nodes_code f) || bytes_eq (nodes_code e) (nodes_code f) && (b || bytes_eq e.label.path [] && not e.label.is_open && false)) (nothing_before e.label.path)
    ∙ by_case (list_before (nodes_code e) (nodes_code f)) (bytes_eq (nodes_code e) (nodes_code f)) (bytes_eq e.label.path []) (not e.label.is_open)
  where
    by_case : (a b c d : Bool) → (a || b && (false || c && d && false)) ≡ a
    by_case true b c d = refl
    by_case false false c d = refl
    by_case false true false d = refl
    by_case false true true false = refl
    by_case false true true true = refl

module _ (e f : Edge) (from : node_index e.from < 65536) (to : node_index e.to < 65536) (its_from : node_index f.from < 65536) (its_to : node_index f.to < 65536) where
  before_by_number : ltb (nodes_number e.from e.to) (nodes_number f.from f.to) ≡ edge_before e (first_of f)
  before_by_number =
      same_truth (ltb (nodes_number e.from e.to) (nodes_number f.from f.to)) (list_before (nodes_code e) (nodes_code f))
      (λ h. (λ i. list_before (codes_are e i) (codes_are f i)) ∙ four_before (node_kind e.from) (node_index e.from) (node_kind e.to) (node_index e.to) (node_kind f.from) (node_index f.from) (node_kind f.to) (node_index f.to)
      (kind_few e.to) (kind_few f.to) from to its_from its_to (ltb-true (nodes_number e.from e.to) (nodes_number f.from f.to) h))
      (λ h. lt-ltb (nodes_number e.from e.to) (nodes_number f.from f.to) (before_four (node_kind e.from) (node_index e.from) (node_kind e.to) (node_index e.to) (node_kind f.from) (node_index f.from) (node_kind f.to) (node_index f.to)
      (kind_few e.to) (kind_few f.to) from to its_from its_to ((λ i. list_before (sym (codes_are e) i) (sym (codes_are f) i)) ∙ h)))
      ∙ sym (before_first_of e f)

-- numbers of these nodes, wherever they come from
module _ (e f : Edge) (from to : Node) (from_is : from ≡ e.from) (to_is : to ≡ e.to) (n m : ℕ) (n_is : n ≡ nodes_number from to) (m_is : m ≡ nodes_number f.from f.to) where
  pub before_by : node_index from < 65536 → node_index to < 65536 → node_index f.from < 65536 → node_index f.to < 65536 → ltb n m ≡ edge_before e (first_of f)
  before_by a b c d =
      (λ i. ltb (n_is i) (m_is i)) ∙ (λ i. ltb (nodes_number (from_is i) (to_is i)) (nodes_number f.from f.to))
      ∙ before_by_number e f (subst (λ k. node_index k < 65536) from_is a) (subst (λ k. node_index k < 65536) to_is b) c d

-- ---- a search among ascending edges

-- each comes before all later ones
ascending_pairs : (es : List Edge) → are_ascending es ≡ true → AllPairs (λ (e : Edge) (f : Edge). edge_before e f ≡ true) es
ascending_pairs [] h i j d l k = absurd (omega (arith, k))
ascending_pairs (e ∷ es) h zero zero d l k = absurd (omega (arith, l))
ascending_pairs (e ∷ es) h (suc i) zero d l k = absurd (omega (arith, l))
ascending_pairs (e ∷ es) h zero (suc j) d l k =
    let inside : j < length es = omega (arith, k) in
    all_contains (edge_before e) es (get_or es j d) (ascending_above e es h) (j, inside, get_or_default es j (get_or es j d) d inside)
ascending_pairs (e ∷ es) h (suc i) (suc j) d l k = ascending_pairs es (ascending_tail e es h) i j d (omega (arith, l)) (omega (arith, k))

module _ (f : Edge) (es : List Edge) (up : are_ascending es ≡ true) where
  abbrev IsBefore : Edge → Type 0
  IsBefore x = edge_before x f ≡ true

  abbrev IsBehind : Edge → Type 0
  IsBehind x = edge_before x f ≡ false

  at_any : (P : Edge → Type 0) (i : ℕ) (x : Edge) → i < length es → P (get_or es i x) → (d : Edge) → P (get_or es i d)
  at_any P i x inside h d = subst P (get_or_default es i x d inside) h

  -- where one is before another edge, all earlier ones are
  pub before_more : (i : ℕ) (x : Edge) → i < length es → IsBefore (get_or es i x) → AllWithin IsBefore es 0 (i + 1)
  before_more i x inside h k d _ below = elim (cases_lt k i) [
    | inl l ↦ edge_strict.transitive (get_or es k d) (get_or es i d) f (ascending_pairs es up k i d l inside) (at_any IsBefore i x inside h d)
    | inr g ↦ let same : i ≡ k = omega (arith, g, below) in subst (λ n. IsBefore (get_or es n d)) same (at_any IsBefore i x inside h d)
  ]

  -- and where one isn't, no later one is
  pub behind_more : (i : ℕ) (x : Edge) → i < length es → IsBehind (get_or es i x) → AllWithin IsBehind es i (length es)
  behind_more i x inside h k d from below = elim (cases_lt i k) [
    | inl l ↦ false_from_ne_true (edge_before (get_or es k d) f)
        (λ g. true≢false (sym (edge_strict.transitive (get_or es i d) (get_or es k d) f (ascending_pairs es up i k d l below) g) ∙ at_any IsBehind i x inside h d))
    | inr g ↦ let same : i ≡ k = omega (arith, g, from) in subst (λ n. IsBehind (get_or es n d)) same (at_any IsBehind i x inside h d)
  ]

module _ (e : Edge) (es : List Edge) where
  abbrev IsNotAbove : Edge → Type 0
  IsNotAbove x = edge_leq e x ≡ false

  pub none_more : (i : ℕ) (x : Edge) → i < length es → IsNotAbove (get_or es i x) → AllWithin IsNotAbove es 0 i → AllWithin IsNotAbove es 0 (i + 1)
  none_more i x inside h first = AllWithin-more IsNotAbove es 0 i first (λ d. subst IsNotAbove (get_or_default es i x d inside) h)

  -- where one that isn't before an edge has other nodes, no later one is above the edge
  pub none_behind : are_ascending es ≡ true → (i : ℕ) (x : Edge) → i < length es → edge_before (get_or es i x) (first_of e) ≡ false
      → ¬ (nodes_number (get_or es i x).from (get_or es i x).to ≡ nodes_number e.from e.to) → AllWithin IsNotAbove es i (length es)
  none_behind up i x inside later other k d from below = false_from_ne_true (edge_leq e (get_or es k d)) (λ g.
      let y = get_or es k d in
      let parts = related_parts label_leq e y g in
      let codes : nodes_code e ≡ nodes_code y = same_codes e y parts.from parts.to in
      elim (cases_lt i k) [
        | inl l ↦
            let at = get_or_default es i d x inside in
            let own = get_or es i x in
            let first : list_before (nodes_code own) (nodes_code e) ≡ false = sym (before_first_of own e) ∙ later in
            let last : list_before (nodes_code e) (nodes_code own) ≡ false =
            ap (λ c. list_before c (nodes_code own)) codes ∙ not_later own y (subst (λ z. edge_before z y ≡ true) at (ascending_pairs es up i k d l below)) in
            let same : node_code own.from ++ node_code own.to ≡ node_code e.from ++ node_code e.to = total (nodes_code own) (nodes_code e) first last in
            let start = same_start own.from e.from (node_code own.to) (node_code e.to) same in
            let end = same_start own.to e.to [] [] (ap (λ xs. xs ++ []) start.rest) in
            other (λ j. nodes_number (start.node j) (end.node j))
        | inr h ↦
            let same : k ≡ i = omega (arith, h, from) in
            let at : y ≡ get_or es i x = ap (λ n. get_or es n d) same ∙ get_or_default es i d x inside in
            other (λ j. nodes_number (sym (parts.from ∙ ap (λ z. z.from) at) j) (sym (parts.to ∙ ap (λ z. z.to) at) j))
      ])

  pub none_left : (i : ℕ) → AllWithin IsNotAbove es 0 i → AllWithin IsNotAbove es i (length es) → list_any (edge_leq e) es ≡ false
  none_left i first rest = list_any_none (edge_leq e) es (λ k d below. elim (cases_lt k i) [ inl l ↦ first k d (omega arith) l | inr h ↦ rest k d h below ])
