-- Edges from nodes that are not removed, and chains of edges.
use Rattle.mv_bounds.proofs.Common.{[], ℕ, ◌++◌, ◌+◌, ◌<◌, ◌==◌, ◌∙◌, ◌∷◌, ◌≡◌, Bool, Contains, Global, List, Some, Vec, ap, arith, cond, false, get_or, inl, inr, length, map, refl}
use Rattle.mv_bounds.proofs.Common.{replicate, set, subst, suc, sym, true, zero, and_parts, cases_eq, cases_lt, eqb-true, false≢true, none-some, same_Some, slice_get_within, list_all}
use Rattle.mv_bounds.proofs.Common.{slice_get, IsAcyclic, LeadsTo, directly, further, edges_to, times}
use Rattle.std.proofs.Common.{◌⊎◌}
use Rattle.mv_bound_rules.proofs.TimesLemmas.{times_of, contains_from_times}
use Rattle.mv_bound_rules.proofs.Entries.{none_within}

-- a node that is removed takes its edges with it
pub edges_removed : (graph : List (List ℕ)) (removed : List Bool) (i j : ℕ) (successors : List ℕ) → length removed ≡ length graph
    → get_or removed i false ≡ false → slice_get graph i ≡ Some successors
    → edges_to graph removed j ≡ edges_to graph (set removed i true) j + times j successors
edges_removed [] removed i j s len unmarked at = absurd (none-some s at)
edges_removed (s0 ∷ graph) [] i j s len unmarked at = absurd (omega (arith, len))
edges_removed (s0 ∷ graph) (r ∷ removed) zero j s len unmarked at =
    let first : cond r 0 (times j s0) ≡ times j s0 = ap (λ b. cond b 0 (times j s0)) unmarked in
    let same : times j s0 ≡ times j s = ap (times j) (same_Some s0 s at) in
    omega (arith, first, same)
edges_removed (s0 ∷ graph) (r ∷ removed) (suc i) j s len unmarked at =
    let rest = edges_removed graph removed i j s (omega (arith, len)) unmarked at in
    omega (arith, rest)

-- where no edge leads to a node, each that has one to it is removed
pub removed_before : (graph : List (List ℕ)) (removed : List Bool) (i j : ℕ) (successors : List ℕ) → edges_to graph removed j ≡ 0
    → slice_get graph i ≡ Some successors → Contains successors j → get_or removed i false ≡ true
removed_before [] removed i j s none at has = absurd (none-some s at)
removed_before (s0 ∷ graph) [] zero j s none at has =
    let here = times_of j s has in
    let same : times j s0 ≡ times j s = ap (times j) (same_Some s0 s at) in
    absurd (omega (arith, none, here, same))
removed_before (s0 ∷ graph) [] (suc i) j s none at has = removed_before graph [] i j s (omega (arith, none)) at has
removed_before (s0 ∷ graph) (true ∷ removed) zero j s none at has = refl
removed_before (s0 ∷ graph) (false ∷ removed) zero j s none at has =
    let here = times_of j s has in
    let same : times j s0 ≡ times j s = ap (times j) (same_Some s0 s at) in
    absurd (omega (arith, none, here, same))
removed_before (s0 ∷ graph) (r ∷ removed) (suc i) j s none at has = removed_before graph removed i j s (omega (arith, none)) at has

-- a node that has an edge to another, and is not removed
pub record IsBefore (graph : List (List ℕ)) (removed : List Bool) (j i : ℕ) : Type 0 where
  pub successors : List ℕ
  pub at : slice_get graph i ≡ Some successors
  pub has : Contains successors j
  pub unmarked : get_or removed i false ≡ false

later : (graph : List (List ℕ)) (removed : List Bool) (s0 : List ℕ) (r : Bool) (j : ℕ) → (i : ℕ) × IsBefore graph removed j i → (i : ℕ) × IsBefore (s0 ∷ graph) (r ∷ removed) j i
later graph removed s0 r j (i, b) = (suc i, record { successors = b.successors; at = b.at; has = b.has; unmarked = b.unmarked })

later_unmarked : (graph : List (List ℕ)) (s0 : List ℕ) (j : ℕ) → (i : ℕ) × IsBefore graph [] j i → (i : ℕ) × IsBefore (s0 ∷ graph) [] j i
later_unmarked graph s0 j (i, b) = (suc i, record { successors = b.successors; at = b.at; has = b.has; unmarked = refl })

-- where an edge leads to a node, there is a node that it is from
pub one_before : (graph : List (List ℕ)) (removed : List Bool) (j : ℕ) → 0 < edges_to graph removed j → (i : ℕ) × IsBefore graph removed j i
one_before [] removed j some = absurd (omega (arith, some))
one_before (s0 ∷ graph) [] j some =
    elim (cases_lt 0 (times j s0)) [
      | inl here ↦ (0, record { successors = s0; at = refl; has = contains_from_times j s0 here; unmarked = refl })
      | inr none ↦ later_unmarked graph s0 j (one_before graph [] j (omega (arith, some, none)))
    ]
one_before (s0 ∷ graph) (true ∷ removed) j some = later graph removed s0 true j (one_before graph removed j (omega (arith, some)))
one_before (s0 ∷ graph) (false ∷ removed) j some =
    elim (cases_lt 0 (times j s0)) [
      | inl here ↦ (0, record { successors = s0; at = refl; has = contains_from_times j s0 here; unmarked = refl })
      | inr none ↦ later graph removed s0 false j (one_before graph removed j (omega (arith, some, none)))
    ]

-- where nothing is removed, marks change nothing
pub unmarked_edges : (graph : List (List ℕ)) (n j : ℕ) → edges_to graph (replicate n false) j ≡ edges_to graph [] j
unmarked_edges [] n j = refl
unmarked_edges (s ∷ graph) zero j = refl
unmarked_edges (s ∷ graph) (suc n) j = ap (λ k. times j s + k) (unmarked_edges graph n j)

-- one node more
pub edges_more : (graph : List (List ℕ)) (s : List ℕ) (j : ℕ) → edges_to (graph ++ s ∷ []) [] j ≡ edges_to graph [] j + times j s
edges_more [] s j = omega arith
edges_more (s0 ∷ graph) s j = omega (arith, edges_more graph s j)

-- the last edge of a chain
pub record EndsBy (graph : List (List ℕ)) (i k y : ℕ) : Type 0 where
  pub successors : List ℕ
  pub at : slice_get graph y ≡ Some successors
  pub has : Contains successors k
  pub chain : (i ≡ y) ⊎ LeadsTo graph i y

pub last_edge : (graph : List (List ℕ)) (i k : ℕ) → LeadsTo graph i k → (y : ℕ) × EndsBy graph i k y
last_edge graph i k (directly i' k' s at has) = (i, record { successors = s; at = at; has = has; chain = inl refl })
last_edge graph i k (further i' j k' first others) =
    let end = last_edge graph j k others in (
      end.0,
      record {
        successors = end.1.successors;
        at = end.1.at;
        has = end.1.has;
        chain = inr (elim end.1.chain [ inl e ↦ subst (λ y. LeadsTo graph i y) e first | inr chain ↦ further i j end.0 first chain ]);
      },
    )

-- a chain begins at a node
pub begins_within : (graph : List (List ℕ)) (i k : ℕ) → LeadsTo graph i k → i < length graph
begins_within graph i k (directly i' k' s at has) = slice_get_within graph i s at
begins_within graph i k (further i' j k' first others) = begins_within graph i j first

-- where each node that remains has one before it that remains, some node comes before itself
pub record HasBefore (R : ℕ → ℕ → Type 0) (removed : ℕ → Bool) (n z : ℕ) : Type 0 where
  pub node : ℕ
  pub within : node < n
  pub remains : removed node ≡ false
  pub before : R node z

pub none_remains : (R : ℕ → ℕ → Type 0) → ((i j k : ℕ) → R i j → R j k → R i k) → ((i : ℕ) → R i i → ⊥) → (removed : ℕ → Bool) (n : ℕ)
    → ((z : ℕ) → z < n → removed z ≡ false → HasBefore R removed n z) → (z : ℕ) → z < n → removed z ≡ false → ⊥
none_remains R chain never removed zero before z low remains = omega (arith, low)
none_remains R chain never removed (suc n) before z low remains = by_last (removed n) refl (none_remains R chain never removed n)
  where
    by_last : (b : Bool) → removed n ≡ b → (((z : ℕ) → z < n → removed z ≡ false → HasBefore R removed n z) → (z : ℕ) → z < n → removed z ≡ false → ⊥) → ⊥
    by_last true marked others =
        others (λ x l r. fewer x (before x (omega (arith, l)) r)) z (other z low remains) remains
      where
        other : (x : ℕ) → x < suc n → removed x ≡ false → x < n
        other x l r = elim (cases_eq x n) [
          | inl e ↦ absurd (false≢true (sym r ∙ ap removed e ∙ marked))
          | inr ne ↦ omega (arith, l, ne)
        ]

        fewer : (x : ℕ) → HasBefore R removed (suc n) x → HasBefore R removed n x
        fewer x h = record { node = h.node; within = other h.node h.within h.remains; remains = h.remains; before = h.before }
    by_last false unmarked others =
        elim (cases_eq z n) [
          | inl e ↦ elim (cases_eq last.node n) [
            | inl same ↦ never n (subst (λ y. R y n) same last.before)
            | inr ne ↦ (let l : last.node < suc n = last.within in none last.node (omega (arith, l, ne)) last.remains)
          ]
          | inr ne ↦ none z (omega (arith, low, ne)) remains
        ]
      where
        last : HasBefore R removed (suc n) n
        last = before n (omega arith) unmarked

        fewer : (x : ℕ) → HasBefore R removed (suc n) x → HasBefore R removed n x
        fewer x h =
            elim (cases_eq h.node n) [
              | inr ne ↦ record { node = h.node; within = (let l : h.node < suc n = h.within in omega (arith, l, ne)); remains = h.remains; before = h.before }
              | inl e ↦ elim (cases_eq last.node n) [
                | inl same ↦ absurd (never n (subst (λ y. R y n) same last.before))
                | inr ne ↦ record {
                  node = last.node;
                  within = (let l : last.node < suc n = last.within in omega (arith, l, ne));
                  remains = last.remains;
                  before = chain last.node n x last.before (subst (λ y. R y x) e h.before);
                }
              ]
            ]

        none : (x : ℕ) → x < n → removed x ≡ false → ⊥
        none = others (λ x l r. fewer x (before x (omega (arith, l)) r))

-- a node of a graph without edges has no successor
none_after : (graph : List (Vec ℕ Global)) (i k : ℕ) (s : List ℕ) → list_all (λ (v : Vec ℕ Global). length v.items == 0) graph ≡ true
    → slice_get (map (λ (v : Vec ℕ Global). v.items) graph) i ≡ Some s → Contains s k → ⊥
none_after [] i k s none at has = none-some s at
none_after (v ∷ graph) zero k s none at has =
    let parts = and_parts (length v.items == 0) (list_all (λ (v : Vec ℕ Global). length v.items == 0) graph) none in
    none_within s k (ap (λ xs. length xs) (sym (same_Some v.items s at)) ∙ eqb-true (length v.items) 0 parts.0) has
none_after (v ∷ graph) (suc i) k s none at has =
    let parts = and_parts (length v.items == 0) (list_all (λ (v : Vec ℕ Global). length v.items == 0) graph) none in
    none_after graph i k s parts.1 at has

-- no chain leads through a graph without edges
pub acyclic_without_edges : (graph : List (Vec ℕ Global)) → list_all (λ (v : Vec ℕ Global). length v.items == 0) graph ≡ true
    → IsAcyclic (map (λ (v : Vec ℕ Global). v.items) graph)
acyclic_without_edges graph none i chain =
    let end = last_edge (map (λ (v : Vec ℕ Global). v.items) graph) i i chain in
    none_after graph end.0 i end.1.successors none end.1.at end.1.has
