-- What a sort and a `dedup` make of edges.
use Rattle.mv_edges.proofs.Common.{[], ◌+◌, ◌∙◌, ◌∷◌, ◌≡◌, Bool, List, arith, false, get_or, refl, subst, suc, sym, true, true≢false, zero, and_from, cond_both, false_from_ne_true}
use Rattle.mv_edges.proofs.Common.{are_ascending, edge_before, Edge, same_edge, same_edge_decides, sorted}
use Rattle.std.specs.List.{dedup, dedup_from}
use Rattle.std.specs.List.Sorted.{IsPermutation, IsSortedBy}
use Rattle.std.specs.Cmp.{IsStrictWeakOrder}
use Rattle.std.proofs.lemmas.List.Kept.{Contains-dedup, Contains-from_dedup}
use Rattle.std.proofs.lemmas.List.Sorted.{Contains-permutation, IsPermutation-sym}
use Rattle.mv_edges.specs.Equality.{same_edge_equiv}
use Rattle.mv_edges.proofs.EdgeOrder.{edge_strict}
use Rattle.mv_edges.proofs.Insertion.{asymmetric}
use Rattle.mv_edges.proofs.Sorting.{contains-sorted, ascending-sorted, same_edges_from_contains}

-- the order of edges is one that a sort can go by
pub edge_weak : IsStrictWeakOrder edge_before
edge_weak = record {
  one_way = asymmetric edge_before edge_strict;
  chain = λ x y z h g. false_from_ne_true (edge_before x z) (λ k. by_first x y z h g k (edge_before y x) refl);
}
  where
    by_first : (x y z : Edge) → edge_before x y ≡ false → edge_before y z ≡ false → edge_before x z ≡ true → (c : Bool) → edge_before y x ≡ c → ⊥
    by_first x y z h g k true e = true≢false (sym (edge_strict.transitive y x z e k) ∙ g)
    by_first x y z h g k false e = true≢false (sym (subst (λ w. edge_before w z ≡ true) (edge_strict.total x y h e) k) ∙ g)

-- the first of those that are kept
deduped_head : (k : Edge) (es : List Edge) → (rest : List Edge) × (dedup_from same_edge k es ≡ k ∷ rest)
deduped_head k [] = ([], refl)
deduped_head k (x ∷ es) =
    cond_both (same_edge x k) (dedup_from same_edge k es) (k ∷ dedup_from same_edge x es) (λ ys. (rest : List Edge) × (ys ≡ k ∷ rest)) (λ _. deduped_head k es) (λ _. (dedup_from same_edge x es, refl))

-- what is sorted has its tail sorted, and no second edge before the first
sorted_tail : (k : Edge) (es : List Edge) → IsSortedBy edge_before (k ∷ es) → IsSortedBy edge_before es
sorted_tail k es h = λ j d low high.
    let next : suc j + 1 ≡ suc (j + 1) = omega arith in
    subst (λ n. edge_before (get_or (k ∷ es) n d) (get_or es j d) ≡ false) next (h (suc j) d (omega arith) (omega (arith, high)))

sorted_skip : (k x : Edge) (es : List Edge) → x ≡ k → IsSortedBy edge_before (k ∷ x ∷ es) → IsSortedBy edge_before (k ∷ es)
sorted_skip k x es same h = subst (λ y. IsSortedBy edge_before (y ∷ es)) same (sorted_tail k (x ∷ es) h)

sorted_second : (k x : Edge) (es : List Edge) → IsSortedBy edge_before (k ∷ x ∷ es) → edge_before x k ≡ false
sorted_second k x es h = h zero k (omega arith) (omega arith)

ascending_cons : (k x : Edge) (ys : List Edge) → (rest : List Edge) × (ys ≡ x ∷ rest) → edge_before k x ≡ true → are_ascending ys ≡ true → are_ascending (k ∷ ys) ≡ true
ascending_cons k x ys head before ascend =
    subst (λ zs. are_ascending (k ∷ zs) ≡ true) (sym head.1) (and_from (edge_before k x) (are_ascending (x ∷ head.0)) before (subst (λ zs. are_ascending zs ≡ true) head.1 ascend))

before_other : (k x : Edge) → edge_before x k ≡ false → same_edge x k ≡ false → edge_before k x ≡ true
before_other k x h n = by_test (edge_before k x) refl
  where
    by_test : (c : Bool) → edge_before k x ≡ c → c ≡ true
    by_test true e = refl
    by_test false e = absurd (true≢false (sym ((same_edge_decides x k).1 (edge_strict.total x k h e)) ∙ n))

ascending-dedup_from : (k : Edge) (es : List Edge) → IsSortedBy edge_before (k ∷ es) → are_ascending (dedup_from same_edge k es) ≡ true
ascending-dedup_from k [] h = refl
ascending-dedup_from k (x ∷ es) h =
    cond_both (same_edge x k) (dedup_from same_edge k es) (k ∷ dedup_from same_edge x es) (λ ys. are_ascending ys ≡ true)
    (λ same. ascending-dedup_from k es (sorted_skip k x es ((same_edge_decides x k).0 same) h))
    (λ other. ascending_cons k x (dedup_from same_edge x es) (deduped_head x es) (before_other k x (sorted_second k x es h) other)
    (ascending-dedup_from x es (sorted_tail k (x ∷ es) h)))

ascending-dedup : (es : List Edge) → IsSortedBy edge_before es → are_ascending (dedup same_edge es) ≡ true
ascending-dedup [] h = refl
ascending-dedup (e ∷ es) h = ascending-dedup_from e es h

-- edges that were sorted, each kept once
pub deduped : (es fs : List Edge) → IsPermutation es fs → IsSortedBy edge_before fs → dedup same_edge fs ≡ sorted es
deduped es fs moved rises =
    same_edges_from_contains (dedup same_edge fs) (sorted es) (ascending-dedup fs rises) (ascending-sorted es)
    (λ e. (
      λ c. (contains-sorted es e).1 (Contains-permutation fs es e (IsPermutation-sym es fs moved) (Contains-from_dedup same_edge fs e c)),
      λ c. Contains-dedup same_edge_equiv (λ x y. (same_edge_decides x y).0) fs e (Contains-permutation es fs e moved ((contains-sorted es e).0 c)),
    ))
