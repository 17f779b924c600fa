-- Counts of a graph's edges by the node that they lead to, and the nodes that no edge leads to.
use Rattle.mv_bounds.proofs.Common.{[], ℕ, ◌++◌, ◌+◌, ◌<◌, ◌∙◌, ◌∷◌, ◌≡◌, ◌≤◌, Global, List, Vec, ap, arith, cond, get_or, get_or-set_other, get_or-set_same, inl, inr, length, map, nat_lt}
use Rattle.mv_bounds.proofs.Common.{refl, set, subst, sym, take, true, and_from, cases_eq, cases_lt, lt-ltb, list_all-append, are_nodes, edges_to, is_zero, times}
use Rattle.std.proofs.lemmas.Bool.{le-ltb}
use Rattle.std.proofs.lemmas.List.{map_more}
use Rattle.mv_bound_rules.proofs.TimesLemmas.{times_push, times_more, is_one, is_none, zero_is_one, other_is_none}
use Rattle.mv_bounds.proofs.EdgeLemmas.{edges_more}

-- one target more, which is a node
pub count_hit : (old counts after targets : List ℕ) (k x : ℕ)
    → ((j : ℕ) → j < length counts → get_or counts j 0 ≡ get_or old j 0 + times j (take k targets)) → k < length targets → x ≡ get_or targets k 0
    → x < length counts → after ≡ set counts x (get_or counts x 0 + 1) → (j : ℕ) → j < length counts
    → get_or after j 0 ≡ get_or old j 0 + times j (take (k + 1) targets)
count_hit old counts after targets k x held low is inside wrote j l =
    let more = times_more j targets k x low is in
    let here = held j l in
    let there : get_or after j 0 ≡ get_or (set counts x (get_or counts x 0 + 1)) j 0 = ap (λ xs. get_or xs j 0) wrote in
    elim (cases_eq j x) [
      | inl e ↦
          let one = is_one x j (sym e) in
          let new : get_or (set counts x (get_or counts x 0 + 1)) j 0 ≡ get_or counts j 0 + 1 = subst (λ i. get_or (set counts x (get_or counts x 0 + 1)) i 0 ≡ get_or counts i 0 + 1) (sym e) (get_or-set_same counts x (get_or counts x 0 + 1) 0 inside) in
          omega (arith, more, one, here, there, new)
      | inr ne ↦
          let none = is_none x j (λ e. ne (sym e)) in
          let same = get_or-set_other counts x j (get_or counts x 0 + 1) 0 ne in
          omega (arith, more, none, here, there, same)
    ]

-- one target more, which is none
pub count_miss : (old counts after targets : List ℕ) (k x : ℕ)
    → ((j : ℕ) → j < length counts → get_or counts j 0 ≡ get_or old j 0 + times j (take k targets)) → k < length targets → x ≡ get_or targets k 0
    → length counts ≤ x → after ≡ counts → (j : ℕ) → j < length counts
    → get_or after j 0 ≡ get_or old j 0 + times j (take (k + 1) targets)
count_miss old counts after targets k x held low is past kept j l =
    let more = times_more j targets k x low is in
    let here = held j l in
    let there : get_or after j 0 ≡ get_or counts j 0 = ap (λ xs. get_or xs j 0) kept in
    let none = is_none x j (λ e. omega (arith, e, l, past)) in
    omega (arith, more, none, here, there)

-- the edges of one node more
pub incoming_more : (graph : List (Vec ℕ Global)) (k j : ℕ) (targets : Vec ℕ Global) → k < length graph → targets ≡ get_or graph k targets
    → edges_to (map (λ (s : Vec ℕ Global). s.items) (take (k + 1) graph)) [] j ≡ edges_to (map (λ (s : Vec ℕ Global). s.items) (take k graph)) [] j + times j targets.items
incoming_more graph k j targets low is =
    ap (λ g. edges_to g [] j) (map_more (λ (s : Vec ℕ Global). s.items) graph k targets low)
    ∙ edges_more (map (λ (s : Vec ℕ Global). s.items) (take k graph)) (get_or graph k targets).items j
    ∙ ap (λ (s : Vec ℕ Global). edges_to (map (λ (s : Vec ℕ Global). s.items) (take k graph)) [] j + times j s.items) (sym is)

-- those before a node that no edge leads to, and it if none does
module _ (waiting ready : List ℕ) (node : ℕ) (held : (j : ℕ) → times j ready ≡ cond (nat_lt j node) (is_zero (get_or waiting j 0)) 0) where
  so_far : (j n : ℕ) → j < n → cond (nat_lt j n) (is_zero (get_or waiting j 0)) 0 ≡ is_zero (get_or waiting j 0)
  so_far j n l = ap (λ b. cond b (is_zero (get_or waiting j 0)) 0) (lt-ltb j n l)

  not_yet : (j n : ℕ) → n ≤ j → cond (nat_lt j n) (is_zero (get_or waiting j 0)) 0 ≡ 0
  not_yet j n l = ap (λ b. cond b (is_zero (get_or waiting j 0)) 0) (le-ltb j n l)

  step : (ready' : List ℕ) (b : ℕ) → is_zero (get_or waiting node 0) ≡ b
      → ((j : ℕ) → (node ≡ j → times j ready' ≡ times j ready + b) × ((node ≡ j → ⊥) → times j ready' ≡ times j ready))
      → (j : ℕ)
      → times j ready' ≡ cond (nat_lt j (node + 1)) (is_zero (get_or waiting j 0)) 0
  step ready' b is grows j =
      let before = held j in
      elim (cases_eq node j) [
        | inl e ↦
            let here = (grows j).0 e in
            let was = not_yet j node (omega (arith, e)) in
            let new = so_far j (node + 1) (omega (arith, e)) in
            let value : is_zero (get_or waiting j 0) ≡ b = ap (λ i. is_zero (get_or waiting i 0)) (sym e) ∙ is in
            omega (arith, before, here, was, new, value)
        | inr ne ↦
            let same = (grows j).1 ne in
            elim (cases_lt j node) [
              | inl l ↦ let was = so_far j node l in let new = so_far j (node + 1) (omega (arith, l)) in omega (arith, before, same, was, new)
              | inr l ↦ let was = not_yet j node l in let new = not_yet j (node + 1) (omega (arith, l, ne)) in omega (arith, before, same, was, new)
            ]
      ]

  pub source_more : get_or waiting node 0 ≡ 0 → (j : ℕ) → times j (ready ++ node ∷ []) ≡ cond (nat_lt j (node + 1)) (is_zero (get_or waiting j 0)) 0
  source_more none =
      step (ready ++ node ∷ []) 1 (zero_is_one _ none)
      (λ j. ((λ e. let p = times_push j ready node in let one = is_one node j e in omega (arith, p, one)), (λ ne. let p = times_push j ready node in let other = is_none node j ne in omega (arith, p, other))))

  pub source_none : (get_or waiting node 0 ≡ 0 → ⊥) → (j : ℕ) → times j ready ≡ cond (nat_lt j (node + 1)) (is_zero (get_or waiting j 0)) 0
  source_none some = step ready 0 (other_is_none _ some) (λ j. ((λ e. omega arith), (λ ne. refl)))

pub nodes_push : (n : ℕ) (ready : List ℕ) (node : ℕ) → are_nodes n ready ≡ true → node < n → are_nodes n (ready ++ node ∷ []) ≡ true
nodes_push n ready node h low = list_all-append (λ y. nat_lt y n) ready (node ∷ []) ∙ and_from _ _ h (and_from _ true (lt-ltb node n low) refl)
