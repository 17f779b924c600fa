-- Edges in their order, counted from the first one on.
use Rattle.mv_edges.proofs.Common.{[], ℕ, zero, suc, ◌&&◌, ◌++◌, ◌+◌, ◌<◌, ◌∙◌, ◌∷◌, ◌≡◌, ◌≤◌, Bool, List, None, Option, Some, ap, append-nil, arith, cond, drop, false, filter, length, list_all, refl, slice_get, sorted, subst, sym, true, true≢false}
use Rattle.mv_edges.proofs.Common.{Edge, are_ascending, edge_before, false_from_ne_true, and_parts}
use Rattle.std.proofs.lemmas.Bool.{le-leb, lt-leb}
use Rattle.std.specs.Prelude.{nat_le}
use Rattle.mv_edges.proofs.EdgeOrder.{edge_strict}
use Rattle.mv_edges.proofs.Insertion.{all_contains}
use Rattle.mv_edges.proofs.Searches.{contains_at}
use Rattle.mv_edges.proofs.Sorting.{ascending_above, ascending_tail}
use Rattle.mv_edges.proofs.AsSets.{sorted-filter}
use Rattle.mv_ways.specs.Counting.{any_of, first_behind, is_before_first, is_behind}

filter_all : (p : Edge → Bool) (es : List Edge) → list_all p es ≡ true → filter p es ≡ es
filter_all p [] h = refl
filter_all p (e ∷ es) h = let parts = and_parts (p e) (list_all p es) h in ap (λ b. cond b (e ∷ filter p es) (filter p es)) parts.0 ∙ ap (λ xs. e ∷ xs) (filter_all p es parts.1)

-- those behind the one at a place are the ones from the next place on
behind_at : (es : List Edge) (k : ℕ) (e : Edge) → are_ascending es ≡ true → slice_get es k ≡ Some e → filter (edge_before e) es ≡ drop (suc k) es
behind_at [] k e a at = refl
behind_at (x ∷ xs) zero e a at =
    let same : x ≡ e = cc at in
    subst (λ y. filter (edge_before y) (x ∷ xs) ≡ xs) same
    (ap (λ b. cond b (x ∷ filter (edge_before x) xs) (filter (edge_before x) xs)) (edge_strict.irreflexive x) ∙ filter_all (edge_before x) xs (ascending_above x xs a))
behind_at (x ∷ xs) (suc k) e a at =
    let before : edge_before x e ≡ true = all_contains (edge_before x) xs e (ascending_above x xs a) (contains_at xs k e at) in
    let never : edge_before e x ≡ false = false_from_ne_true (edge_before e x) (λ h. true≢false (sym (edge_strict.transitive x e x before h) ∙ edge_strict.irreflexive x)) in
    ap (λ b. cond b (x ∷ filter (edge_before e) xs) (filter (edge_before e) xs)) never ∙ behind_at xs k e (ascending_tail x xs a) at

first_from : (es : List Edge) (k : ℕ) → slice_get (drop k es) 0 ≡ slice_get es k
first_from es zero = refl
first_from [] (suc k) = refl
first_from (x ∷ xs) (suc k) = first_from xs k

-- one edge more is counted
pub behind_more : (es : List Edge) (k : ℕ) (last : Option Edge) (e : Edge) → are_ascending es ≡ true → filter (is_behind last) es ≡ drop k es
    → slice_get (filter (is_behind last) es) 0 ≡ Some e → filter (is_behind (Some e)) es ≡ drop (k + 1) es
behind_more es k last e a are at =
    let more : suc k ≡ k + 1 = omega arith in
    behind_at es k e a (sym (first_from es k) ∙ ap (λ xs. slice_get xs 0) (sym are) ∙ at) ∙ ap (λ n. drop n es) more

pub behind_none : (es : List Edge) → filter (is_behind None) es ≡ es
behind_none [] = refl
behind_none (e ∷ es) = ap (λ xs. e ∷ xs) (behind_none es)

-- where there is none behind, there are no more
none_from : (es : List Edge) (k : ℕ) → slice_get es k ≡ None → length es ≤ k
none_from [] k h = omega arith
none_from (x ∷ xs) zero h = cc h
none_from (x ∷ xs) (suc k) h = let rest = none_from xs k h in omega (arith, rest)

some_from : (es : List Edge) (k : ℕ) (e : Edge) → slice_get es k ≡ Some e → k < length es
some_from [] k e h = cc h
some_from (x ∷ xs) zero e h = omega arith
some_from (x ∷ xs) (suc k) e h = let rest = some_from xs k e h in omega (arith, rest)

-- at most so many
pub no_more : (es : List Edge) (k most : ℕ) (last next : Option Edge) → filter (is_behind last) es ≡ drop k es → next ≡ slice_get (filter (is_behind last) es) 0 → next ≡ None → k ≤ most
    → nat_le (length es) most ≡ true
no_more es k most last next are is none low =
    let end = none_from es k (sym (first_from es k) ∙ ap (λ xs. slice_get xs 0) (sym are) ∙ sym is ∙ none) in
    le-leb (length es) most (omega (arith, end, low))

-- or one more
pub one_more : (es : List Edge) (k most : ℕ) (last next : Option Edge) (e : Edge) → filter (is_behind last) es ≡ drop k es → next ≡ slice_get (filter (is_behind last) es) 0 → next ≡ Some e → most ≤ k
    → nat_le (length es) most ≡ false
one_more es k most last next e are is some low =
    let there = some_from es k e (sym (first_from es k) ∙ ap (λ xs. slice_get xs 0) (sym are) ∙ sym is ∙ some) in
    lt-leb (length es) most (omega (arith, there, low))

-- ---- what is noted

by_order : (e f : Edge) (a b : Bool) → slice_get (cond a (e ∷ f ∷ []) (cond b (f ∷ e ∷ []) (f ∷ []))) 0 ≡ cond a (Some e) (Some f)
by_order e f true b = refl
by_order e f false true = refl
by_order e f false false = refl

noted : (last first : Option Edge) (e : Edge) → first_behind last first (e ∷ []) ≡ cond (is_behind last e && is_before_first first e) (Some e) first
noted last first e = by_behind (is_behind last e) first
  where
    by_behind : (b : Bool) (o : Option Edge) → slice_get (sorted (cond b (e ∷ []) [] ++ any_of o)) 0 ≡ cond (b && is_before_first o e) (Some e) o
    by_behind true None = refl
    by_behind true (Some f) = by_order e f (edge_before e f) (edge_before f e)
    by_behind false None = refl
    by_behind false (Some f) = refl

pub first_noted : (last first : Option Edge) (e : Edge) → (is_behind last e && is_before_first first e) ≡ true → Some e ≡ first_behind last first (e ∷ [])
first_noted last first e h = sym (noted last first e ∙ ap (λ b. cond b (Some e) first) h)

pub first_kept : (last first : Option Edge) (e : Edge) → (is_behind last e && is_before_first first e) ≡ false → first ≡ first_behind last first (e ∷ [])
first_kept last first e h = sym (noted last first e ∙ ap (λ b. cond b (Some e) first) h)

-- the first one behind the last, where there was none
pub first_all : (last : Option Edge) (es : List Edge) → first_behind last None es ≡ slice_get (filter (is_behind last) (sorted es)) 0
first_all last es = ap (λ xs. slice_get (sorted xs) 0) (append-nil (filter (is_behind last) es)) ∙ ap (λ xs. slice_get xs 0) (sym (sorted-filter (is_behind last) es))
