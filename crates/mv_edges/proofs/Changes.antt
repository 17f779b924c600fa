-- What tests and changes of edges make of the order: each test that fails for the larger list fails for the smaller one,
-- and each change keeps the order.
--   IsRising p       an edge above one that passes p passes it, too
--   IsKeeping h      h keeps the order of edges
--   IsLabelRising p, IsLabelKeeping h      the same of labels
use Rattle.mv_edges.proofs.Common.{[], ℕ, ◌&&◌, ◌++◌, ◌||◌, ◌∙◌, ◌∷◌, ◌≡◌, Bool, Contains, List, ap, eqb, false, filter, flat_map, inl, inr, length, map, not, refl, subst, sym, true}
use Rattle.mv_edges.proofs.Common.{true≢false, and_from, and_parts, cond-true, cond_both, eq-eqb, eqb-true, false_from_ne_true, Contains-append_cases, Contains-append_left}
use Rattle.mv_edges.proofs.Common.{Contains-append_right, list_any, begins, Node, Edge, Label, agrees, but_out_of, extended, inherited, into, label_leq, opened, out_of, renamed}
use Rattle.mv_edges.proofs.Common.{renamed_node, same_node, without, edge_related, edges_related, sorted}
use Rattle.mv_edges.proofs.Comparisons.{agrees_first}
use Rattle.mv_edges.proofs.Insertion.{contains_cases, contains_here, contains_there, contains_none}
use Rattle.mv_edges.proofs.Sorting.{contains-sorted, any_passes}
use Rattle.mv_edges.proofs.Order.{LabelBelow, same, prefix, label_below, label_leq_same, label_leq_prefix, label_leq_itself, begins-transitive, begins-append}
use Rattle.mv_edges.proofs.Related.{related_parts, related_from, passing, list_any_from, partner, edges_related_from}
use Rattle.std.proofs.Math.Bool.{not-not}
use Rattle.mv_edges.specs.Edges.{renamed_edge}

abbrev pub IsRising : (Label → Label → Bool) → (Edge → Bool) → Type 0
IsRising le p = (a b : Edge) → edge_related le a b ≡ true → p a ≡ true → p b ≡ true

abbrev pub IsKeeping : (Label → Label → Bool) → (Edge → Edge) → Type 0
IsKeeping le h = (a b : Edge) → edge_related le a b ≡ true → edge_related le (h a) (h b) ≡ true

abbrev pub IsLabelRising : (Label → Label → Bool) → (Label → Bool) → Type 0
IsLabelRising le p = (a b : Label) → le a b ≡ true → p a ≡ true → p b ≡ true

abbrev pub IsLabelKeeping : (Label → Label → Bool) → (Label → Label) → Type 0
IsLabelKeeping le h = (a b : Label) → le a b ≡ true → le (h a) (h b) ≡ true

-- no test of the rules tells two related labels apart, and each change of theirs keeps the relation
pub record IsKept (le : Label → Label → Bool) : Type 0 where
  pub itself : (l : Label) → le l l ≡ true
  pub agreeing : (f : ℕ) → IsLabelRising le (agrees f)
  pub extending : (f : ℕ) → IsLabelKeeping le (extended f)
  pub opening : IsLabelKeeping le opened

-- ---- elements of changed lists

pub contains-filter : (p : Edge → Bool) (es : List Edge) (e : Edge) → Contains es e → p e ≡ true → Contains (filter p es) e
contains-filter p [] e c h = absurd (contains_none e c)
contains-filter p (x ∷ es) e c h =
    elim (contains_cases x es e c) [
      | inl g ↦ subst (λ ys. Contains ys e) (sym (cond-true (p x) (x ∷ filter p es) (filter p es) (subst (λ y. p y ≡ true) (sym g) h))) (subst (λ y. Contains (x ∷ filter p es) y) g (contains_here x (filter p es)))
      | inr d ↦ let rest = contains-filter p es e d h in cond_both (p x) (x ∷ filter p es) (filter p es) (λ ys. Contains ys e) (λ _. contains_there x (filter p es) e rest) (λ _. rest)
    ]

pub contains_from_filter : (p : Edge → Bool) (es : List Edge) (e : Edge) → Contains (filter p es) e → Contains es e × (p e ≡ true)
contains_from_filter p [] e c = absurd (contains_none e c)
contains_from_filter p (x ∷ es) e c₀ =
    cond_both (p x) (x ∷ filter p es) (filter p es) (λ ys. Contains ys e → Contains (x ∷ es) e × (p e ≡ true))
    (λ h c. elim (contains_cases x (filter p es) e c) [
      | inl g ↦ (subst (λ y. Contains (x ∷ es) y) g (contains_here x es), subst (λ y. p y ≡ true) g h)
      | inr d ↦ let rest = contains_from_filter p es e d in (contains_there x es e rest.0, rest.1)
    ]) (λ _ c. let rest = contains_from_filter p es e c in (contains_there x es e rest.0, rest.1)) c₀

pub contains-map : (h : Edge → Edge) (es : List Edge) (e : Edge) → Contains es e → Contains (map h es) (h e)
contains-map h [] e c = absurd (contains_none e c)
contains-map h (x ∷ es) e c =
    elim (contains_cases x es e c) [
      | inl g ↦ subst (λ y. Contains (h x ∷ map h es) y) (ap h g) (contains_here (h x) (map h es))
      | inr d ↦ contains_there (h x) (map h es) (h e) (contains-map h es e d)
    ]

pub contains_from_map : (h : Edge → Edge) (es : List Edge) (z : Edge) → Contains (map h es) z → (e : Edge) × (Contains es e × (h e ≡ z))
contains_from_map h [] z c = absurd (contains_none z c)
contains_from_map h (x ∷ es) z c =
    elim (contains_cases (h x) (map h es) z c) [
      | inl g ↦ (x, (contains_here x es, g))
      | inr d ↦ let rest = contains_from_map h es z d in (rest.0, (contains_there x es rest.0 rest.1.0, rest.1.1))
    ]

module _ (le : Label → Label → Bool) where
  -- ---- tests

  -- a test of the nodes
  pub nodes_rise : (p : Node → Node → Bool) → IsRising le (λ e. p e.from e.to)
  nodes_rise p a b h g =
      let below = related_parts le a b h in
      sym (ap (λ n. p n a.to) below.from ∙ ap (λ n. p b.from n) below.to) ∙ g

  -- a test of the label
  pub label_rises : (p : Label → Bool) → IsLabelRising le p → IsRising le (λ e. p e.label)
  label_rises p f a b h g = let below = related_parts le a b h in f a.label b.label below.label g

  pub both_rise : (p q : Edge → Bool) → IsRising le p → IsRising le q → IsRising le (λ e. p e && q e)
  both_rise p q f g a b h k = let parts = and_parts (p a) (q a) k in and_from (p b) (q b) (f a b h parts.0) (g a b h parts.1)

  -- no edge of a smaller list passes what no edge of a larger one does
  pub none_passes_below : (p : Edge → Bool) → IsRising le p → (es fs : List Edge) → edges_related le es fs ≡ true → list_any p fs ≡ false → list_any p es ≡ false
  none_passes_below p rises es fs h none =
      false_from_ne_true (list_any p es)
      (λ some.
      let e = passing p es some in
      let f = partner le es fs h e.edge e.there in
      true≢false (sym (list_any_from p fs f.edge f.there (rises e.edge f.edge f.passes e.passes)) ∙ none))

  pub none_kept_below : (p : Edge → Bool) → IsRising le p → (es fs : List Edge) → edges_related le es fs ≡ true → eqb (length (filter p fs)) 0 ≡ true → eqb (length (filter p es)) 0 ≡ true
  none_kept_below p rises es fs h none =
      let fails = none_passes_below p rises es fs h (any_passes p fs ∙ ap not none) in
      let double = ap not (sym (any_passes p es) ∙ fails) in
      sym (not-not (eqb (length (filter p es)) 0)) ∙ double

  -- no edge leads out of a node
  pub none_out_below : (n : Node) (es fs : List Edge) → edges_related le es fs ≡ true → eqb (length (out_of n fs)) 0 ≡ true → eqb (length (out_of n es)) 0 ≡ true
  none_out_below n = none_kept_below (λ e. same_node e.from n) (nodes_rise (λ from _. same_node from n))

  -- ---- changes of lists

  pub related-filter : (p : Edge → Bool) → IsRising le p → (es fs : List Edge) → edges_related le es fs ≡ true → edges_related le (filter p es) (filter p fs) ≡ true
  related-filter p rises es fs h =
      edges_related_from le (filter p es) (filter p fs)
      (λ e c.
      let at = contains_from_filter p es e c in
      let f = partner le es fs h e at.0 in
      record { edge = f.edge; there = contains-filter p fs f.edge f.there (rises e f.edge f.passes at.1); passes = f.passes })

  -- no edge out of a node passes a test
  pub none_out_passes_below : (n : Node) (p : Edge → Bool) → IsRising le p → (es fs : List Edge) → edges_related le es fs ≡ true → list_any p (out_of n fs) ≡ false → list_any p (out_of n es) ≡ false
  none_out_passes_below n p rises es fs h = none_passes_below p rises (out_of n es) (out_of n fs) (related-filter (λ e. same_node e.from n) (nodes_rise (λ from _. same_node from n)) es fs h)

  pub related-map : (h : Edge → Edge) → IsKeeping le h → (es fs : List Edge) → edges_related le es fs ≡ true → edges_related le (map h es) (map h fs) ≡ true
  related-map h keeps es fs below =
      edges_related_from le (map h es) (map h fs)
      (λ z c.
      let at = contains_from_map h es z c in
      let f = partner le es fs below at.0 at.1.0 in
      record { edge = h f.edge; there = contains-map h fs f.edge f.there; passes = subst (λ y. edge_related le y (h f.edge) ≡ true) at.1.1 (keeps at.0 f.edge f.passes) })

  pub related-append : (es fs gs hs : List Edge) → edges_related le es fs ≡ true → edges_related le gs hs ≡ true → edges_related le (es ++ gs) (fs ++ hs) ≡ true
  related-append es fs gs hs h g =
      edges_related_from le (es ++ gs) (fs ++ hs)
      (λ e c. elim (Contains-append_cases es gs e c) [
        | inl d ↦ let f = partner le es fs h e d in record { edge = f.edge; there = Contains-append_left fs hs f.edge f.there; passes = f.passes }
        | inr d ↦ let f = partner le gs hs g e d in record { edge = f.edge; there = Contains-append_right fs hs f.edge f.there; passes = f.passes }
      ])

  pub related-flat_map : {X : Type 0} (f g : X → List Edge) → ((x : X) → edges_related le (f x) (g x) ≡ true) → (xs : List X) → edges_related le (flat_map f xs) (flat_map g xs) ≡ true
  related-flat_map f g h [] = refl
  related-flat_map f g h (x ∷ xs) = related-append (f x) (g x) (flat_map f xs) (flat_map g xs) (h x) (related-flat_map f g h xs)

  -- the order in which the edges stand is nothing to the order of lists
  pub related-sorted : (es fs : List Edge) → edges_related le es fs ≡ true → edges_related le (sorted es) (sorted fs) ≡ true
  related-sorted es fs h =
      edges_related_from le (sorted es) (sorted fs)
      (λ e c. let f = partner le es fs h e ((contains-sorted es e).0 c) in record { edge = f.edge; there = (contains-sorted fs f.edge).1 f.there; passes = f.passes })

  -- ---- the changes that the rules make

  pub related-into : (n : Node) (es fs : List Edge) → edges_related le es fs ≡ true → edges_related le (into n es) (into n fs) ≡ true
  related-into n = related-filter (λ e. same_node e.to n) (nodes_rise (λ _ to. same_node to n))

  pub related-but_out_of : (n : Node) (es fs : List Edge) → edges_related le es fs ≡ true → edges_related le (but_out_of n es) (but_out_of n fs) ≡ true
  related-but_out_of n = related-filter (λ e. not (same_node e.from n)) (nodes_rise (λ from _. not (same_node from n)))

  pub related-without : (n : Node) (es fs : List Edge) → edges_related le es fs ≡ true → edges_related le (without n es) (without n fs) ≡ true
  related-without n = related-filter (λ e. not (same_node e.from n) && not (same_node e.to n)) (nodes_rise (λ from to. not (same_node from n) && not (same_node to n)))

  pub related-renamed : (old new : Node) (es fs : List Edge) → edges_related le es fs ≡ true → edges_related le (renamed old new es) (renamed old new fs) ≡ true
  related-renamed old new =
      related-map (renamed_edge old new)
      (λ a b h.
      let below = related_parts le a b h in
      related_from le (renamed_edge old new a) (renamed_edge old new b) (ap (renamed_node old new) below.from) (ap (renamed_node old new) below.to) below.label)

  abbrev inherited_edge : (Label → Label) → Node → Edge → Edge
  inherited_edge h new e = record { from = e.from; label = h e.label; to = new }

  pub related-inherited : (h : Label → Label) → IsLabelKeeping le h → (old new : Node) (es fs : List Edge) → edges_related le es fs ≡ true
      → edges_related le (inherited h old new es) (inherited h old new fs) ≡ true
  related-inherited h keeps old new es fs below =
      related-map (inherited_edge h new)
      (λ a b g. let nodes = related_parts le a b g in related_from le (inherited_edge h new a) (inherited_edge h new b) nodes.from refl (keeps a.label b.label nodes.label)) (into old es) (into old fs)
      (related-into old es fs below)

-- ---- the order of labels

pub agrees_rises : (f : ℕ) → IsLabelRising label_leq (agrees f)
agrees_rises f a b h g = by_cases (label_below a b h)
  where
    by_paths : (xs ys : List ℕ) → begins ys xs ≡ true → (begins xs (f ∷ []) || begins (f ∷ []) xs) ≡ true → (begins ys (f ∷ []) || begins (f ∷ []) ys) ≡ true
    by_paths xs [] p k = refl
    by_paths [] (y ∷ ys) p k = absurd (true≢false (sym p))
    by_paths (x ∷ xs) (y ∷ ys) p k =
        let first = and_parts (eqb y x) (begins ys xs) p in
        let at_x : eqb x f ≡ true = sym (agrees_first f (record { path = x ∷ xs; is_open = true })) ∙ k in
        agrees_first f (record { path = y ∷ ys; is_open = true }) ∙ eq-eqb y f (eqb-true y x first.0 ∙ eqb-true x f at_x)

    by_cases : LabelBelow a b → agrees f b ≡ true
    by_cases (same e) = subst (λ l. agrees f l ≡ true) e g
    by_cases (prefix o p) = by_paths a.path b.path p g

pub extended_keeps : (f : ℕ) → IsLabelKeeping label_leq (extended f)
extended_keeps f a b h = by_cases (label_below a b h)
  where
    by_cases : LabelBelow a b → label_leq (extended f a) (extended f b) ≡ true
    by_cases (same e) = label_leq_same (extended f a) (extended f b) (ap (extended f) e)
    by_cases (prefix o p) =
        label_leq_prefix (extended f a) (extended f b) o
        (subst (λ xs. begins xs (extended f a).path ≡ true) (sym (cond-true b.is_open b.path (b.path ++ f ∷ []) o))
        (cond_both a.is_open a.path (a.path ++ f ∷ []) (λ xs. begins b.path xs ≡ true) (λ _. p) (λ _. begins-transitive b.path a.path (a.path ++ f ∷ []) p (begins-append a.path (f ∷ [])))))

pub opened_keeps : IsLabelKeeping label_leq opened
opened_keeps a b h = by_cases (label_below a b h)
  where
    by_cases : LabelBelow a b → label_leq (opened a) (opened b) ≡ true
    by_cases (same e) = label_leq_same (opened a) (opened b) (ap opened e)
    by_cases (prefix o p) = label_leq_prefix (opened a) (opened b) refl p

-- the order of labels is kept
pub order_kept : IsKept label_leq
order_kept = record { itself = label_leq_itself; agreeing = agrees_rises; extending = extended_keeps; opening = opened_keeps }
