-- Edges in their order.
use Rattle.mv_edges.proofs.Common.{[], ℕ, ◌&&◌, ◌++◌, ◌+◌, ◌-◌, ◌<◌, ◌||◌, ◌↔◌, ◌∙◌, ◌∷◌, ◌≡◌, ◌≤◌, ◌⊎◌, Bool, Contains, List, None, Some, ap, append-nil, append_assoc, arith, cond, drop}
use Rattle.mv_edges.proofs.Common.{eqb, false, filter, get_or, inl, inr, length, ne_eqb, not, refl, slice_get, subst, suc, sym, take, take-append-drop, true, zero, and_from, and_parts}
use Rattle.mv_edges.proofs.Common.{drop_more, Contains-append_cases, Contains-append_left, Contains-append_right, list_all-append, slice_get-get_or, list_all, list_any, are_ascending}
use Rattle.mv_edges.proofs.Common.{edge_before, Edge, inserted, sorted}
use Rattle.std.proofs.Common.{insert}
use Rattle.std.proofs.lemmas.List.{drop_all}
use Rattle.mv_edges.proofs.Insertion as insertion
use Rattle.mv_edges.proofs.Insertion.{inserted_by, sorted_by, ascend_by}
use Rattle.mv_edges.proofs.EdgeOrder.{edge_strict}

inserted_is : (e : Edge) (es : List Edge) → inserted e es ≡ inserted_by edge_before e es
inserted_is e [] = refl
inserted_is e (x ∷ es) = ap (λ ys. cond (edge_before e x) (e ∷ x ∷ es) (cond (edge_before x e) (x ∷ ys) (x ∷ es))) (inserted_is e es)

sorted_is : (es : List Edge) → sorted es ≡ sorted_by edge_before es
sorted_is [] = refl
sorted_is (e ∷ es) = inserted_is e (sorted es) ∙ ap (inserted_by edge_before e) (sorted_is es)

ascending_is : (es : List Edge) → are_ascending es ≡ ascend_by edge_before es
ascending_is [] = refl
ascending_is (a ∷ []) = refl
ascending_is (a ∷ b ∷ es) = ap (λ r. edge_before a b && r) (ascending_is (b ∷ es))

to_by : (es : List Edge) → are_ascending es ≡ true → ascend_by edge_before es ≡ true
to_by es h = sym (ascending_is es) ∙ h

from_by : (es : List Edge) → ascend_by edge_before es ≡ true → are_ascending es ≡ true
from_by es h = ascending_is es ∙ h

-- ---- the sorted list

pub ascending-sorted : (es : List Edge) → are_ascending (sorted es) ≡ true
ascending-sorted es = from_by (sorted es) (subst (λ xs. ascend_by edge_before xs ≡ true) (sym (sorted_is es)) (insertion.ascend-sorted edge_before edge_strict es))

-- the sorted list has just the edges of the list
pub contains-sorted : (es : List Edge) (e : Edge) → Contains (sorted es) e ↔ Contains es e
contains-sorted es e =
    (λ c. insertion.contains_from_sorted edge_before edge_strict es e (subst (λ xs. Contains xs e) (sorted_is es) c), λ c. subst (λ xs. Contains xs e) (sym (sorted_is es)) (insertion.contains-sorted edge_before edge_strict es e c))

-- the edges of a list with one inserted
contains-inserted_cases : (e : Edge) (es : List Edge) (z : Edge) → Contains (inserted e es) z → (e ≡ z) ⊎ Contains es z
contains-inserted_cases e es z c = insertion.contains_from_inserted edge_before edge_strict e es z (subst (λ xs. Contains xs z) (inserted_is e es) c)

contains-inserted_rest : (e : Edge) (es : List Edge) (z : Edge) → Contains es z → Contains (inserted e es) z
contains-inserted_rest e es z c = subst (λ xs. Contains xs z) (sym (inserted_is e es)) (insertion.contains-inserted edge_before edge_strict e es z (inr c))

-- what comes before all the others is the head
sorted_cons : (whole : List Edge) (e : Edge) (rest : List Edge) → list_all (edge_before e) rest ≡ true → ((z : Edge) → Contains whole z ↔ Contains (e ∷ rest) z) → sorted whole ≡ e ∷ sorted rest
sorted_cons whole e rest h f =
    sorted_is whole ∙ insertion.sorted_cons edge_before edge_strict whole e rest h (λ z. (f z).0) (λ z. (f z).1) ∙ ap (λ xs. e ∷ xs) (sym (sorted_is rest))

pub sorted-ascending : (es : List Edge) → are_ascending es ≡ true → sorted es ≡ es
sorted-ascending es h = sorted_is es ∙ insertion.sorted_same edge_before edge_strict es (to_by es h)

-- one more edge, at the end, is one inserted
pub sorted_push : (es : List Edge) (e : Edge) → are_ascending es ≡ true → sorted (es ++ e ∷ []) ≡ inserted e es
sorted_push es e h = sorted_is (es ++ e ∷ []) ∙ insertion.sorted-push edge_before edge_strict es e (to_by es h) ∙ sym (inserted_is e es)

-- two ascending lists with the same edges are one
pub same_edges_from_contains : (es fs : List Edge) → are_ascending es ≡ true → are_ascending fs ≡ true → ((e : Edge) → Contains es e ↔ Contains fs e) → es ≡ fs
same_edges_from_contains es fs a b f = insertion.same_lists_from_elements edge_before edge_strict es fs (to_by es a) (to_by fs b) (λ z. (f z).0) (λ z. (f z).1)

-- lists with the same edges are sorted alike
pub sorted_alike : (es fs : List Edge) → ((e : Edge) → Contains es e ↔ Contains fs e) → sorted es ≡ sorted fs
sorted_alike es fs f = sorted_is es ∙ insertion.sorted_alike edge_before edge_strict es fs (λ z. (f z).0) (λ z. (f z).1) ∙ sym (sorted_is fs)

-- the order of two parts is nothing to it
pub sorted-append_swap : (es fs : List Edge) → sorted (es ++ fs) ≡ sorted (fs ++ es)
sorted-append_swap es fs = sorted_alike (es ++ fs) (fs ++ es) (λ z. (swap es fs z, swap fs es z))
  where
    swap : (xs ys : List Edge) (z : Edge) → Contains (xs ++ ys) z → Contains (ys ++ xs) z
    swap xs ys z c = elim (Contains-append_cases xs ys z c) [ inl d ↦ Contains-append_right ys xs z d | inr d ↦ Contains-append_left ys xs z d ]

-- a part may be sorted first
pub sorted-append_sorted : (es fs : List Edge) → sorted (es ++ sorted fs) ≡ sorted (es ++ fs)
sorted-append_sorted es fs =
    sorted_alike (es ++ sorted fs) (es ++ fs)
    (λ z. (
      λ c. elim (Contains-append_cases es (sorted fs) z c) [ inl d ↦ Contains-append_left es fs z d | inr d ↦ Contains-append_right es fs z ((contains-sorted fs z).0 d) ],
      λ c. elim (Contains-append_cases es fs z c) [ inl d ↦ Contains-append_left es (sorted fs) z d | inr d ↦ Contains-append_right es (sorted fs) z ((contains-sorted fs z).1 d) ],
    ))

-- of two ascending lists, the head of the left one comes first
pub sorted_left_first : (a b : Edge) (es fs : List Edge) → are_ascending (a ∷ es) ≡ true → are_ascending (b ∷ fs) ≡ true → edge_before a b ≡ true
    → sorted ((a ∷ es) ++ b ∷ fs) ≡ a ∷ sorted (es ++ b ∷ fs)
sorted_left_first a b es fs h g k =
    let left = insertion.all_above edge_before edge_strict a es (to_by (a ∷ es) h) in
    let right = insertion.all_above edge_before edge_strict a (b ∷ fs) (to_by (a ∷ b ∷ fs) (and_from (edge_before a b) (are_ascending (b ∷ fs)) k g)) in
    let all : list_all (edge_before a) (es ++ b ∷ fs) ≡ true = list_all-append (edge_before a) es (b ∷ fs) ∙ and_from (list_all (edge_before a) es) (list_all (edge_before a) (b ∷ fs)) left right in
    sorted_cons (a ∷ es ++ b ∷ fs) a (es ++ b ∷ fs) all (λ z. (λ c. c, λ c. c))

-- the head of the right one is
pub sorted_right_first : (a b : Edge) (es fs : List Edge) → are_ascending (a ∷ es) ≡ true → are_ascending (b ∷ fs) ≡ true → edge_before b a ≡ true
    → sorted ((a ∷ es) ++ b ∷ fs) ≡ b ∷ sorted ((a ∷ es) ++ fs)
sorted_right_first a b es fs h g k =
    sorted-append_swap (a ∷ es) (b ∷ fs) ∙ sorted_left_first b a fs es g h k ∙ ap (λ xs. b ∷ xs) (sorted-append_swap fs (a ∷ es))

-- they are one
pub sorted_both_first : (a b : Edge) (es fs : List Edge) → are_ascending (a ∷ es) ≡ true → are_ascending (b ∷ fs) ≡ true → a ≡ b → sorted ((a ∷ es) ++ b ∷ fs) ≡ a ∷ sorted (es ++ fs)
sorted_both_first a b es fs h g k =
    let left = insertion.all_above edge_before edge_strict a es (to_by (a ∷ es) h) in
    let right = subst (λ x. list_all (edge_before x) fs ≡ true) (sym k) (insertion.all_above edge_before edge_strict b fs (to_by (b ∷ fs) g)) in
    let all : list_all (edge_before a) (es ++ fs) ≡ true = list_all-append (edge_before a) es fs ∙ and_from (list_all (edge_before a) es) (list_all (edge_before a) fs) left right in
    sorted_cons (a ∷ es ++ b ∷ fs) a (es ++ fs) all
    (λ z. (
      λ c. elim (Contains-append_cases (a ∷ es) (b ∷ fs) z c) [
        | inl d ↦ Contains-append_left (a ∷ es) fs z d
        | inr d ↦ elim (insertion.contains_cases b fs z d) [
          | inl e ↦ subst (λ y. Contains (a ∷ es ++ fs) y) (k ∙ e) (insertion.contains_here a (es ++ fs))
          | inr m ↦ Contains-append_right (a ∷ es) fs z m
        ]
      ],
      λ c. elim (Contains-append_cases (a ∷ es) fs z c) [
        | inl d ↦ Contains-append_left (a ∷ es) (b ∷ fs) z d
        | inr d ↦ Contains-append_right (a ∷ es) (b ∷ fs) z (insertion.contains_there b fs z d)
      ],
    ))

-- ---- what stays ascending

pub ascending_drop : (i : ℕ) (es : List Edge) → are_ascending es ≡ true → are_ascending (drop i es) ≡ true
ascending_drop zero es h = h
ascending_drop (suc i) [] h = refl
ascending_drop (suc i) (e ∷ es) h = ascending_drop i es (from_by es (insertion.ascend_tail edge_before e es (to_by (e ∷ es) h)))

pub ascending-inserted : (e : Edge) (es : List Edge) → are_ascending es ≡ true → are_ascending (inserted e es) ≡ true
ascending-inserted e es h = from_by (inserted e es) (subst (λ xs. ascend_by edge_before xs ≡ true) (sym (inserted_is e es)) (insertion.ascend-inserted edge_before edge_strict e es (to_by es h)))

pub ascending-filter : (p : Edge → Bool) (es : List Edge) → are_ascending es ≡ true → are_ascending (filter p es) ≡ true
ascending-filter p es h = from_by (filter p es) (insertion.ascend-filter edge_before edge_strict p es (to_by es h))

pub ascending-push_some : (es : List Edge) (e l : Edge) → slice_get es (length es - 1) ≡ Some l → are_ascending es ≡ true → are_ascending (es ++ e ∷ []) ≡ edge_before l e
ascending-push_some es e l g h = ascending_is (es ++ e ∷ []) ∙ insertion.ascend-push_some edge_before es e l g (to_by es h)

-- the first edge comes before the others, which ascend
pub ascending_above : (e : Edge) (es : List Edge) → are_ascending (e ∷ es) ≡ true → list_all (edge_before e) es ≡ true
ascending_above e es h = insertion.all_above edge_before edge_strict e es (to_by (e ∷ es) h)

pub ascending_tail : (e : Edge) (es : List Edge) → are_ascending (e ∷ es) ≡ true → are_ascending es ≡ true
ascending_tail e es h = from_by es (insertion.ascend_tail edge_before e es (to_by (e ∷ es) h))

-- edges behind others, the first of them behind the last of those
pub ascending_joined : (es : List Edge) (e : Edge) (fs : List Edge) → are_ascending (es ++ e ∷ []) ≡ true → are_ascending (e ∷ fs) ≡ true → are_ascending (es ++ e ∷ fs) ≡ true
ascending_joined [] e fs h g = g
ascending_joined (a ∷ []) e fs h g = and_from (edge_before a e) (are_ascending (e ∷ fs)) (and_parts (edge_before a e) true h).0 g
ascending_joined (a ∷ b ∷ es) e fs h g =
    let parts = and_parts (edge_before a b) (are_ascending (b ∷ es ++ e ∷ [])) h in
    and_from (edge_before a b) (are_ascending (b ∷ es ++ e ∷ fs)) parts.0 (ascending_joined (b ∷ es) e fs parts.1 g)

pub ascending_behind : (es fs : List Edge) (last first : Edge) → Some last ≡ slice_get es (length es - 1) → Some first ≡ slice_get fs 0
    → edge_before last first ≡ true → are_ascending es ≡ true → are_ascending fs ≡ true → are_ascending (es ++ fs) ≡ true
ascending_behind es [] last first at_last at_first before h g = cc
ascending_behind es (e ∷ fs) last first at_last at_first before h g =
    let same : first ≡ e = cc in
    ascending_joined es e fs (ascending-push_some es e last (sym at_last) h ∙ subst (λ x. edge_before last x ≡ true) same before) g

pub ascending_behind_none : (es fs : List Edge) → None ≡ slice_get es (length es - 1) → are_ascending fs ≡ true → are_ascending (es ++ fs) ≡ true
ascending_behind_none [] fs none g = g
ascending_behind_none (e ∷ es) fs none g =
    let some = slice_get-get_or (e ∷ es) (length (e ∷ es) - 1) e (omega arith) in
    cc (some, none)

pub ascending_before_none : (es fs : List Edge) → None ≡ slice_get fs 0 → are_ascending es ≡ true → are_ascending (es ++ fs) ≡ true
ascending_before_none es [] none h = subst (λ xs. are_ascending xs ≡ true) (sym (append-nil es)) h
ascending_before_none es (f ∷ fs) none h = cc

-- edges behind others, that ascend with them, are in their order
pub sorted_behind : (es fs all : List Edge) → are_ascending (es ++ fs) ≡ true → all ≡ es ++ fs → all ≡ sorted (es ++ fs)
sorted_behind es fs all h is = is ∙ sym (sorted-ascending (es ++ fs) h)

-- a front of what ascends does
pub ascending_front : (es fs : List Edge) → are_ascending (es ++ fs) ≡ true → are_ascending es ≡ true
ascending_front [] fs h = refl
ascending_front (a ∷ []) fs h = refl
ascending_front (a ∷ b ∷ es) fs h =
    let parts = and_parts (edge_before a b) (are_ascending (b ∷ es ++ fs)) h in
    and_from (edge_before a b) (are_ascending (b ∷ es)) parts.0 (ascending_front (b ∷ es) fs parts.1)

-- ---- the place of an edge

-- all of the edges up to a place come before what the last of them does
pub all_before_at : (es : List Edge) (i : ℕ) (d t : Edge) → i < length es → are_ascending es ≡ true → edge_before (get_or es i d) t ≡ true → list_all (λ x. edge_before x t) (take (i + 1) es) ≡ true
all_before_at es i d t h a b = insertion.all_before_at edge_before edge_strict es i d t h (to_by es a) b

pub all_after_at : (es : List Edge) (i : ℕ) (d t : Edge) → i < length es → are_ascending es ≡ true → edge_before t (get_or es i d) ≡ true → list_all (edge_before t) (drop i es) ≡ true
all_after_at es i d t h a b = insertion.all_after_at edge_before edge_strict es i d t h (to_by es a) b

-- an edge between those before it and those after it
pub inserted_between : (e : Edge) (es : List Edge) (i : ℕ) → list_all (λ x. edge_before x e) (take i es) ≡ true → list_all (edge_before e) (drop i es) ≡ true → inserted e es ≡ insert es i e
inserted_between e es i h g =
    inserted_is e es ∙ ap (inserted_by edge_before e) (sym (take-append-drop i es)) ∙ insertion.inserted_between edge_before edge_strict e (take i es) (drop i es) h g

-- an edge that is there is not added again
pub inserted_again : (e : Edge) (es : List Edge) → are_ascending es ≡ true → Contains es e → inserted e es ≡ es
inserted_again e es a c =
    same_edges_from_contains (inserted e es) es (ascending-inserted e es a) a
    (λ z. (λ d. elim (contains-inserted_cases e es z d) [ inl h ↦ subst (λ y. Contains es y) h c | inr k ↦ k ], λ d. contains-inserted_rest e es z d))

-- what a vector holds after an insertion at that place, found by an equal edge
pub inserted_missing : (es : List Edge) (e v : Edge) (place : ℕ) (after before : List Edge) → v ≡ e
    → list_all (λ x. edge_before x v) (take place es) ≡ true → list_all (edge_before v) (drop place es) ≡ true → after ≡ insert before place e
    → before ≡ es
    → after ≡ inserted e es
inserted_missing es e v place after before same h g new old =
    new ∙ ap (λ xs. insert xs place e) old
    ∙ sym (inserted_between e es place (subst (λ y. list_all (λ x. edge_before x y) (take place es) ≡ true) same h) (subst (λ y. list_all (edge_before y) (drop place es) ≡ true) same g))

-- ---- a merge's steps

module _ (a b : List Edge) (ascend_a : are_ascending a ≡ true) (ascend_b : are_ascending b ≡ true) where
  module _ (i j : ℕ) (x y : Edge) (in_a : i < length a) (in_b : j < length b) (at_a : x ≡ get_or a i x) (at_b : y ≡ get_or b j y) where
    rest_a : drop i a ≡ x ∷ drop (i + 1) a
    rest_a = drop_more a i x in_a ∙ ap (λ z. z ∷ drop (i + 1) a) (sym at_a)

    rest_b : drop j b ≡ y ∷ drop (j + 1) b
    rest_b = drop_more b j y in_b ∙ ap (λ z. z ∷ drop (j + 1) b) (sym at_b)

    ascend_rest_a : are_ascending (x ∷ drop (i + 1) a) ≡ true
    ascend_rest_a = subst (λ es. are_ascending es ≡ true) rest_a (ascending_drop i a ascend_a)

    ascend_rest_b : are_ascending (y ∷ drop (j + 1) b) ≡ true
    ascend_rest_b = subst (λ es. are_ascending es ≡ true) rest_b (ascending_drop j b ascend_b)

    both : sorted (drop i a ++ drop j b) ≡ sorted ((x ∷ drop (i + 1) a) ++ y ∷ drop (j + 1) b)
    both = ap (λ es. sorted (es ++ drop j b)) rest_a ∙ ap (λ es. sorted ((x ∷ drop (i + 1) a) ++ es)) rest_b

    pub left_first : edge_before x y ≡ true → sorted (drop i a ++ drop j b) ≡ x ∷ sorted (drop (i + 1) a ++ drop j b)
    left_first h = both ∙ sorted_left_first x y (drop (i + 1) a) (drop (j + 1) b) ascend_rest_a ascend_rest_b h ∙ ap (λ es. x ∷ sorted (drop (i + 1) a ++ es)) (sym rest_b)

    pub right_first : edge_before y x ≡ true → sorted (drop i a ++ drop j b) ≡ y ∷ sorted (drop i a ++ drop (j + 1) b)
    right_first h = both ∙ sorted_right_first x y (drop (i + 1) a) (drop (j + 1) b) ascend_rest_a ascend_rest_b h ∙ ap (λ es. y ∷ sorted (es ++ drop (j + 1) b)) (sym rest_a)

    pub both_first : x ≡ y → sorted (drop i a ++ drop j b) ≡ x ∷ sorted (drop (i + 1) a ++ drop (j + 1) b)
    both_first h = both ∙ sorted_both_first x y (drop (i + 1) a) (drop (j + 1) b) ascend_rest_a ascend_rest_b h

  -- the rest of the longer list
  pub merged_rest : (items total : List Edge) (i j : ℕ) → (length a ≤ i) ⊎ (length b ≤ j) → items ++ sorted (drop i a ++ drop j b) ≡ total → (items ++ drop i a) ++ drop j b ≡ total
  merged_rest items total i j end was = append_assoc items (drop i a) (drop j b) ∙ ap (λ es. items ++ es) (sym (by_end end)) ∙ was
    where
      by_end : (length a ≤ i) ⊎ (length b ≤ j) → sorted (drop i a ++ drop j b) ≡ drop i a ++ drop j b
      by_end (inl h) =
          let none = drop_all i a h in
          ap (λ es. sorted (es ++ drop j b)) none ∙ sorted-ascending (drop j b) (ascending_drop j b ascend_b) ∙ ap (λ es. es ++ drop j b) (sym none)
      by_end (inr h) =
          let none = drop_all j b h in
          ap (λ es. sorted (drop i a ++ es)) none ∙ ap sorted (append-nil (drop i a)) ∙ sorted-ascending (drop i a) (ascending_drop i a ascend_a) ∙ sym (append-nil (drop i a)) ∙ ap (λ es. drop i a ++ es) (sym none)

-- one more of the merged edges
pub merged_more : (items after whole rest total : List Edge) (z x : Edge) → after ≡ items ++ z ∷ [] → z ≡ x → sorted whole ≡ x ∷ sorted rest
    → items ++ sorted whole ≡ total → after ++ sorted rest ≡ total
merged_more items after whole rest total z x new same step was =
    ap (λ xs. xs ++ sorted rest) new ∙ append_assoc items (z ∷ []) (sorted rest) ∙ ap (λ u. items ++ u ∷ sorted rest) same ∙ ap (λ ys. items ++ ys) (sym step) ∙ was

-- a test that an edge passes
pub any_passes : (p : Edge → Bool) (es : List Edge) → list_any p es ≡ not (eqb (length (filter p es)) 0)
any_passes p [] = refl
any_passes p (e ∷ es) = by_cases (p e) (any_passes p es)
  where
    by_cases : (c : Bool) → list_any p es ≡ not (eqb (length (filter p es)) 0) → (c || list_any p es) ≡ not (eqb (length (cond c (e ∷ filter p es) (filter p es))) 0)
    by_cases true h = sym (ap not (ne_eqb (length (e ∷ filter p es)) 0 (λ z. omega (arith, z))))
    by_cases false h = h
