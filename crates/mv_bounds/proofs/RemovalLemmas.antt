-- Nodes are removed from a graph one by one, and all of them where no node leads to itself.
use Rattle.mv_bounds.proofs.Common.{[], ℕ, ◌++◌, ◌+◌, ◌<◌, ◌==◌, ◌↔◌, ◌∙◌, ◌∷◌, ◌≡◌, ◌≤◌, Bool, List, Some, ap, arith, cond, false, get_or, get_or-set_other, get_or-set_same, inl, inr}
use Rattle.mv_bounds.proofs.Common.{length, length-set, nat_lt, refl, replicate, set, subst, suc, sym, true, zero, and_from, and_parts, cases_eq, false≢true, ltb-true, list_all-append}
use Rattle.mv_bounds.proofs.Common.{slice_get_within, list_all, slice_get, IsAcyclic, LeadsTo, directly, further, Released, are_nodes, as_number, edges_to, is_zero, times}
use Rattle.std.proofs.lemmas.Bool.{true_from_ne_false}
use Rattle.std.proofs.lemmas.List.{length-replicate, get_or-replicate}
use Rattle.mv_bound_rules.proofs.TimesLemmas.{times_push, is_one, is_none, zero_is_one, other_is_none, is_zero_at_most}
use Rattle.mv_bounds.proofs.EdgeLemmas.{edges_removed, removed_before, one_before, unmarked_edges, last_edge, begins_within, none_remains, HasBefore, EndsBy}
use Rattle.std.specs.Prelude.{slice_index, slice_index_or, IsTrue}

-- the counts are of the edges from nodes that remain, those that none leads to are removed or ready, and no node that is
-- removed leads to itself
pub record Removal (graph : List (List ℕ)) (counts : List ℕ) (removed : List Bool) (ready : List ℕ) : Type 0 where
  pub counts_len : length counts ≡ length graph
  pub marks_len : length removed ≡ length graph
  pub edges : (j : ℕ) → j < length graph → slice_index counts j ≡ edges_to graph removed j
  pub sources : (j : ℕ) → j < length graph → times j ready + as_number (slice_index_or removed j false) ≡ is_zero (slice_index counts j)
  pub nodes : IsTrue (are_nodes (length graph) ready)
  pub free : (i : ℕ) → i < length graph → slice_index_or removed i false ≡ true → LeadsTo graph i i → ⊥

-- nothing is removed yet
pub removal_begins : (graph : List (List ℕ)) (counts ready : List ℕ) (n : ℕ) → length counts ≡ length graph → n ≡ length graph
    → ((j : ℕ) → j < length graph → get_or counts j 0 ≡ edges_to graph [] j)
    → ((j : ℕ) → j < length counts → times j ready ≡ is_zero (get_or counts j 0)) → are_nodes (length counts) ready ≡ true
    → Removal graph counts (replicate n false) ready
removal_begins graph counts ready n len same edges sources nodes =
    record {
      counts_len = len;
      marks_len = length-replicate n false ∙ same;
      edges = λ j l. edges j l ∙ sym (unmarked_edges graph n j);
      sources = λ j l.
          let none : as_number (get_or (replicate n false) j false) ≡ 0 = ap (λ b. as_number b) (get_or-replicate n j false false (omega (arith, l, same))) in
          let one = sources j (omega (arith, l, len)) in
          omega (arith, none, one);
      nodes = ap (λ k. are_nodes k ready) (sym len) ∙ nodes;
      free = λ i l marked chain. false≢true (sym (get_or-replicate n i false false (omega (arith, l, same))) ∙ marked);
    }

-- the node that is removed next
module _ (graph : List (List ℕ)) (counts : List ℕ) (removed : List Bool) (ready others : List ℕ) (node : ℕ) (r : Removal graph counts removed ready) (is : ready ≡ others ++ node ∷ []) where
  both_nodes : (are_nodes (length graph) others ≡ true) × (are_nodes (length graph) (node ∷ []) ≡ true)
  both_nodes = and_parts _ _ (sym (list_all-append (λ x. nat_lt x (length graph)) others (node ∷ [])) ∙ ap (are_nodes (length graph)) (sym is) ∙ r.nodes)

  pub node_within : node < length graph
  node_within = ltb-true node (length graph) (and_parts _ true both_nodes.1).0

  pub others_within : are_nodes (length graph) others ≡ true
  others_within = both_nodes.0

  popped : (j : ℕ) → times j ready ≡ times j others + as_number (node == j)
  popped j = ap (times j) is ∙ times_push j others node

  mark_none : as_number (get_or removed node false) ≡ 0
  mark_none =
      let e = r.sources node node_within in
      let p = popped node in
      let one = is_one node node refl in
      omega (arith, e, p, one, is_zero_at_most (get_or counts node 0))

  pub unmarked : get_or removed node false ≡ false
  unmarked = by_mark (get_or removed node false) mark_none
    where
      by_mark : (b : Bool) → as_number b ≡ 0 → b ≡ false
      by_mark true e = absurd (omega (arith, e))
      by_mark false e = refl

  pub count_zero : get_or counts node 0 ≡ 0
  count_zero =
      elim (cases_eq (get_or counts node 0) 0) [
        | inl e ↦ e
        | inr ne ↦
            let e = r.sources node node_within in
            let p = popped node in
            let one = is_one node node refl in
            let none = other_is_none (get_or counts node 0) ne in
            absurd (omega (arith, e, p, one, none))
      ]

  -- the counts have each edge that goes with the node
  pub edges_held : (targets : List ℕ) → slice_get graph node ≡ Some targets → (j : ℕ) → j < length counts → times j targets ≤ get_or counts j 0
  edges_held targets at j l =
      let c = r.edges j (omega (arith, l, r.counts_len)) in
      let e = edges_removed graph removed node j targets r.marks_len unmarked at in
      omega (arith, c, e)

  marked : get_or (set removed node true) node false ≡ true
  marked = get_or-set_same removed node true false (omega (arith, node_within, r.marks_len))

  -- the node does not lead to itself, since each before it was removed
  node_free : LeadsTo graph node node → ⊥
  node_free chain = by_end (last_edge graph node node chain)
    where
      use_end : (y : ℕ) (s : List ℕ) → slice_get graph y ≡ Some s → get_or removed y false ≡ true → LeadsTo graph y y → ⊥
      use_end y s at before back = r.free y (slice_get_within graph y s at) before back

      by_end : (y : ℕ) × EndsBy graph node node y → ⊥
      by_end (y, e) =
          let none : edges_to graph removed node ≡ 0 = sym (r.edges node node_within) ∙ count_zero in
          let before : get_or removed y false ≡ true = removed_before graph removed y node e.successors none e.at e.has in
          elim e.chain [
            | inl same ↦ false≢true (sym unmarked ∙ ap (λ i. get_or removed i false) same ∙ before)
            | inr chain' ↦ use_end y e.successors e.at before (further y node y (directly y node e.successors e.at e.has) chain')
          ]

  -- the node is removed with its edges
  pub removal_more : (counts' ready' targets : List ℕ) → slice_get graph node ≡ Some targets
      → Released (length counts) counts counts' others ready' targets → Removal graph counts' (set removed node true) ready'
  removal_more counts' ready' targets at gone =
      record {
        counts_len = gone.len ∙ r.counts_len;
        marks_len = length-set removed node true ∙ r.marks_len;
        edges = λ j l.
            let c = r.edges j l in
            let e = edges_removed graph removed node j targets r.marks_len unmarked at in
            let g = gone.edges j (omega (arith, l, r.counts_len)) in
            omega (arith, c, e, g);
        sources = λ j l.
            let q = r.sources j l in
            let p = popped j in
            let g = gone.sources j (omega (arith, l, r.counts_len)) in
            elim (cases_eq j node) [
              | inl e ↦
                  let one = is_one node j (sym e) in
                  let mark : as_number (get_or (set removed node true) j false) ≡ 1 = ap (λ b. as_number b) (ap (λ i. get_or (set removed node true) i false) e ∙ marked) in
                  let old : as_number (get_or removed j false) ≡ 0 = ap (λ b. as_number b) (ap (λ i. get_or removed i false) e ∙ unmarked) in
                  omega (arith, q, p, g, one, mark, old)
              | inr ne ↦
                  let none = is_none node j (λ e. ne (sym e)) in
                  let mark : as_number (get_or (set removed node true) j false) ≡ as_number (get_or removed j false) = ap (λ b. as_number b) (get_or-set_other removed node j true false ne) in
                  omega (arith, q, p, g, none, mark)
            ];
        nodes = ap (λ n. are_nodes n ready') (sym r.counts_len) ∙ gone.nodes (ap (λ n. are_nodes n others) r.counts_len ∙ others_within);
        free = λ i l mark chain. elim (cases_eq i node) [
          | inl e ↦ node_free (subst (λ y. LeadsTo graph y y) e chain)
          | inr ne ↦ r.free i l (sym (get_or-set_other removed node i true false ne) ∙ mark) chain
        ];
      }

-- all marks
all_marks : (removed : List Bool) → ((i : ℕ) → i < length removed → get_or removed i false ≡ true) → list_all (λ r. r) removed ≡ true
all_marks [] h = refl
all_marks (r ∷ removed) h = and_from r _ (h 0 (omega arith)) (all_marks removed (λ i l. h (suc i) (omega (arith, l))))

mark_at : (removed : List Bool) (i : ℕ) → list_all (λ r. r) removed ≡ true → i < length removed → get_or removed i false ≡ true
mark_at [] i h l = absurd (omega (arith, l))
mark_at (r ∷ removed) zero h l = (and_parts r (list_all (λ r. r) removed) h).0
mark_at (r ∷ removed) (suc i) h l = mark_at removed i (and_parts r (list_all (λ r. r) removed) h).1 (omega (arith, l))

-- where nothing is ready, all are removed exactly where no node leads to itself
pub removal_ends : (graph : List (List ℕ)) (counts : List ℕ) (removed : List Bool) → Removal graph counts removed [] → (list_all (λ r. r) removed ≡ true) ↔ IsAcyclic graph
removal_ends graph counts removed r = (there, back)
  where
    there : list_all (λ r. r) removed ≡ true → IsAcyclic graph
    there all i chain =
        let low = begins_within graph i i chain in
        r.free i low (mark_at removed i all (omega (arith, low, r.marks_len))) chain

    before : (z : ℕ) → z < length graph → get_or removed z false ≡ false → HasBefore (LeadsTo graph) (λ i. get_or removed i false) (length graph) z
    before z l unmarked =
        let q = r.sources z l in
        let c = r.edges z l in
        let mark : as_number (get_or removed z false) ≡ 0 = ap (λ b. as_number b) unmarked in
        let some : 0 < edges_to graph removed z = elim (cases_eq (get_or counts z 0) 0) [
          | inl e ↦ absurd (let one = zero_is_one (get_or counts z 0) e in omega (arith, q, mark, one))
          | inr ne ↦ omega (arith, ne, c)
        ] in
        let b = one_before graph removed z some in
        record { node = b.0; within = slice_get_within graph b.0 b.1.successors b.1.at; remains = b.1.unmarked; before = directly b.0 z b.1.successors b.1.at b.1.has }

    back : IsAcyclic graph → list_all (λ r. r) removed ≡ true
    back never = all_marks removed (λ i l. true_from_ne_false (get_or removed i false) (λ e.
        none_remains (LeadsTo graph) (λ x y z p q. further x y z p q) never (λ j. get_or removed j false) (length graph) before i (omega (arith, l, r.marks_len)) e))

-- how many nodes remain
abbrev pub remaining : List Bool → ℕ
remaining [] = 0
remaining (r ∷ removed) = cond r 0 1 + remaining removed

-- one fewer, where a node is removed
pub fewer_remain : (removed : List Bool) (i : ℕ) → i < length removed → get_or removed i false ≡ false → remaining (set removed i true) < remaining removed
fewer_remain [] i l e = absurd (omega (arith, l))
fewer_remain (r ∷ removed) zero l e = let one : ◌≡◌ {A = ℕ} (cond r 0 1) 1 = ap (λ b. cond b 0 1) e in omega (arith, one)
fewer_remain (r ∷ removed) (suc i) l e = let rest = fewer_remain removed i (omega (arith, l)) e in omega (arith, rest)
