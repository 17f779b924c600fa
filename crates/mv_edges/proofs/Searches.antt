-- What a search finds.
use Rattle.mv_edges.proofs.Common.{[], ℕ, ◌++◌, ◌<◌, ◌∙◌, ◌∷◌, ◌≡◌, ◌≤◌, Bool, Contains, IfErr, List, Some, ap, arith, drop, eqb, false, inl, inr, length, refl, slice_get, subst, suc, sym}
use Rattle.mv_edges.proofs.Common.{take, take-append-drop, true, true≢false, zero, and_parts, cases_lt, eqb-true, false_from_ne_true, Contains-append_cases, list_all, list_any, begins}
use Rattle.mv_edges.proofs.Common.{edge_before, Edge, edge_leq, label_leq, longest, opened_at, same_edge, same_edge_decides}
use Rattle.std.proofs.Common.{min, Result, Ok, Err, IfOk}
use Rattle.std.specs.Result.{is_ok}
use Rattle.mv_edges.proofs.EdgeOrder.{edge_strict}
use Rattle.mv_edges.proofs.Insertion.{contains_here, contains_there, all_contains}
use Rattle.mv_edges.proofs.Lengths.{longest_above}
use Rattle.mv_edges.proofs.Order.{begins-append, same, prefix, label_below, label_leq_prefix, edge_leq_itself}
use Rattle.mv_edges.proofs.Related.{related_parts, related_from, Passing, passing, list_any_from}

pub contains_at : (es : List Edge) (i : ℕ) (e : Edge) → slice_get es i ≡ Some e → Contains es e
contains_at [] i e h = cc
contains_at (x ∷ es) zero e h = let same : x ≡ e = cc in subst (λ y. Contains (x ∷ es) y) same (contains_here x es)
contains_at (x ∷ es) (suc i) e h = contains_there x es e (contains_at es i e h)

-- what is found is there
pub found_any : (es : List Edge) (i : ℕ) (e : Edge) → slice_get es i ≡ Some e → list_any (same_edge e) es ≡ true
found_any es i e h = list_any_from (same_edge e) es e (contains_at es i e h) ((same_edge_decides e e).1 refl)

-- what stands neither before a place nor after it is not there
pub missing_any : (es : List Edge) (i : ℕ) (e : Edge) → list_all (λ x. edge_before x e) (take i es) ≡ true → list_all (edge_before e) (drop i es) ≡ true → list_any (same_edge e) es ≡ false
missing_any es i e h g =
    false_from_ne_true (list_any (same_edge e) es)
    (λ some.
    let p = passing (same_edge e) es some in
    let equal : e ≡ p.edge = (same_edge_decides e p.edge).0 p.passes in
    let there : Contains (take i es ++ drop i es) e = subst (λ xs. Contains xs e) (sym (take-append-drop i es)) (subst (λ y. Contains es y) (sym equal) p.there) in
    true≢false (sym (elim (Contains-append_cases (take i es) (drop i es) e there) [
      | inl c ↦ all_contains (λ x. edge_before x e) (take i es) e h c
      | inr c ↦ all_contains (edge_before e) (drop i es) e g c
    ]) ∙ edge_strict.irreflexive e))

-- the answer of a search says whether the edge is there
pub searched : (es : List Edge) (e : Edge) (r : Result ℕ ℕ) → IfOk r (λ i. slice_get es i ≡ Some e)
    → IfErr r (λ i. list_all (λ x. edge_before x e) (take i es) ≡ true) → IfErr r (λ i. list_all (edge_before e) (drop i es) ≡ true)
    → is_ok r ≡ list_any (same_edge e) es
searched es e (Ok i) f h g = sym (found_any es i e f)
searched es e (Err i) f h g = sym (missing_any es i e h g)

-- ---- what lies above an edge

pub reached_same : (es : List Edge) (e : Edge) → list_any (same_edge e) es ≡ true → list_any (edge_leq e) es ≡ true
reached_same es e h =
    let p = passing (same_edge e) es h in
    list_any_from (edge_leq e) es p.edge p.there (subst (λ x. edge_leq e x ≡ true) ((same_edge_decides e p.edge).0 p.passes) (edge_leq_itself e))

begins-take : (k : ℕ) (xs : List ℕ) → begins (take k xs) xs ≡ true
begins-take k xs = subst (λ ys. begins (take k xs) ys ≡ true) (take-append-drop k xs) (begins-append (take k xs) (drop k xs))

pub reached_prefix : (es : List Edge) (e : Edge) (k : ℕ) → list_any (same_edge (opened_at k e)) es ≡ true → list_any (edge_leq e) es ≡ true
reached_prefix es e k h =
    let p = passing (same_edge (opened_at k e)) es h in
    let below : edge_leq e (opened_at k e) ≡ true = related_from label_leq e (opened_at k e) refl refl (label_leq_prefix e.label (opened_at k e).label refl (begins-take k e.label.path)) in
    list_any_from (edge_leq e) es p.edge p.there (subst (λ x. edge_leq e x ≡ true) ((same_edge_decides (opened_at k e) p.edge).0 p.passes) below)

begins_length : (xs ys : List ℕ) → begins xs ys ≡ true → length xs ≤ length ys
begins_length [] ys h = omega arith
begins_length (x ∷ xs) [] h = absurd (true≢false (sym h))
begins_length (x ∷ xs) (y ∷ ys) h = let g = begins_length xs ys (and_parts (eqb x y) (begins xs ys) h).1 in omega (arith, g)

begins_take : (xs ys : List ℕ) → begins xs ys ≡ true → take (length xs) ys ≡ xs
begins_take [] ys h = refl
begins_take (x ∷ xs) [] h = absurd (true≢false (sym h))
begins_take (x ∷ xs) (y ∷ ys) h =
    let parts = and_parts (eqb x y) (begins xs ys) h in
    ap (λ z. z ∷ take (length xs) ys) (sym (eqb-true x y parts.0)) ∙ ap (λ zs. x ∷ zs) (begins_take xs ys parts.1)

-- where neither the edge is there nor the open one of any prefix that is not too long, none is above it
pub not_reached : (es : List Edge) (e : Edge) → list_any (same_edge e) es ≡ false
    → ((k : ℕ) → k ≤ length e.label.path → k ≤ longest es → list_any (same_edge (opened_at k e)) es ≡ false) → list_any (edge_leq e) es ≡ false
not_reached es e h f = false_from_ne_true (list_any (edge_leq e) es) (λ some. refuted (passing (edge_leq e) es some))
  where
    refuted : Passing (edge_leq e) es → ⊥
    refuted p =
        let x = p.edge in
        let below = related_parts label_leq e x p.passes in
        elim (label_below e.label x.label below.label) [
          | same g ↦
              let equal : e ≡ x = λ i. record { from = below.from i; label = g i; to = below.to i } in
              true≢false (sym (list_any_from (same_edge e) es x p.there ((same_edge_decides e x).1 equal)) ∙ h)
          | prefix o g ↦
              let k = length x.label.path in
              let short : take k e.label.path ≡ x.label.path = begins_take x.label.path e.label.path g in
              let equal : opened_at k e ≡ x = λ i. record { from = below.from i; label = record { path = short i; is_open = sym o i }; to = below.to i } in
              true≢false (
              sym (list_any_from (same_edge (opened_at k e)) es x p.there ((same_edge_decides (opened_at k e) x).1 equal))
              ∙ f k (begins_length x.label.path e.label.path g) (longest_above es x p.there)
              )
        ]

-- where no shorter prefix is there, the longest one decides
pub reached_last : (es : List Edge) (e : Edge) (most : ℕ) (b : Bool) → list_any (same_edge e) es ≡ false
    → ((k : ℕ) → k < most → list_any (same_edge (opened_at k e)) es ≡ false) → most ≡ min (length e.label.path) (longest es)
    → b ≡ list_any (same_edge (opened_at most e)) es
    → b ≡ list_any (edge_leq e) es
reached_last es e most true h f is last = sym (reached_prefix es e most (sym last))
reached_last es e most false h f is last =
    sym (not_reached es e h
    (λ k a b. elim (cases_lt k most) [
      | inl g ↦ f k g
      | inr g ↦ let same : most ≡ k = omega (arith, a, b, g, is) in subst (λ n. list_any (same_edge (opened_at n e)) es ≡ false) same (sym last)
    ]))
