-- States are equal if each edge of the one is one of the other's, and the other way round.
use Rattle.mv_edges.proofs.Common.{[], ◌&&◌, ◌∷◌, ◌≡◌, ◌||◌, Bool, Contains, List, false, list_all, list_any, not, refl, subst, sym, true, and_from, and_parts, are_ascending, Edge, same_edge, same_edge_decides}
use Rattle.std.proofs.lemmas.Slice.Eq.{slice_eq-Decides}
use Rattle.std.specs.Cmp.Lexicographic.{pointwise}
use Rattle.mv_edges.proofs.Insertion.{all_contains, all_from_contains}
use Rattle.mv_edges.proofs.AsSets.{same_truth}
use Rattle.mv_edges.proofs.Sorting.{same_edges_from_contains}
use Rattle.mv_ways.proofs.ProvenanceGraph.Telling.{contains_has, has_contains}
use Rattle.mv_ways.specs.Borrows.{are_related, has_related}
use Rattle.mv_ways.specs.declared.borrows.Relation.TheVariants.{Same}

same_themselves : (es fs : List Edge) → es ≡ fs → are_related Same es fs ≡ true
same_themselves es fs same = all_from_contains (has_related Same fs) es (λ e c. contains_has fs e (subst (λ xs. Contains xs e) same c))

pub equal_lists : (es fs : List Edge) → are_ascending es ≡ true → are_ascending fs ≡ true → (are_related Same es fs && are_related Same fs es) ≡ pointwise same_edge es fs
equal_lists es fs a b =
    let decides = slice_eq-Decides {E = same_edge} same_edge_decides es fs (pointwise same_edge es fs) refl in
    same_truth (are_related Same es fs && are_related Same fs es) (pointwise same_edge es fs)
    (λ h.
    let parts = and_parts (are_related Same es fs) (are_related Same fs es) h in
    decides.1 (same_edges_from_contains es fs a b (λ e. (
      λ c. has_contains fs e (all_contains (has_related Same fs) es e parts.0 c),
      λ c. has_contains es e (all_contains (has_related Same es) fs e parts.1 c),
    ))))
    (λ h.
    let same = decides.0 h in
    and_from (are_related Same es fs) (are_related Same fs es) (same_themselves es fs same) (same_themselves fs es (sym same)))

-- none of them is related to an edge if all are not
pub not_all : (p : Edge → Bool) (es : List Edge) → not (list_all (λ e. not (p e)) es) ≡ list_any p es
not_all p [] = refl
not_all p (e ∷ es) = by_first (p e) (not_all p es)
  where
    by_first : (b : Bool) → not (list_all (λ e. not (p e)) es) ≡ list_any p es → not (not b && list_all (λ e. not (p e)) es) ≡ (b || list_any p es)
    by_first true ih = refl
    by_first false ih = ih
