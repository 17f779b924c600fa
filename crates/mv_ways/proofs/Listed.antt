-- Edges of which some are in order, and the others are put in order.
use Rattle.mv_edges.proofs.Common.{[], ◌++◌, ◌==◌, ◌∙◌, ◌∷◌, ◌≡◌, List, ap, append-nil, arith, eqb-true, length, refl, sorted, true, Edge}
use Rattle.std.specs.Prelude.{IsPermutation}
use Rattle.std.proofs.lemmas.List.Sorted.{Contains-permutation, IsPermutation-sym}
use Rattle.mv_edges.proofs.AsSets.{sorted-append, sorted-sorted}
use Rattle.mv_edges.proofs.Sorting.{sorted-append_sorted, sorted-append_swap, sorted_alike}

pub put_in_order : (ordered items : List Edge) → sorted (sorted (ordered ++ sorted items) ++ []) ≡ sorted (ordered ++ items)
put_in_order ordered items =
    ap sorted (append-nil (sorted (ordered ++ sorted items))) ∙ sorted-sorted (ordered ++ sorted items) ∙ sorted-append_sorted ordered items

pub all_in_order : (ordered items : List Edge) → sorted (sorted items ++ ordered) ≡ sorted (ordered ++ items)
all_in_order ordered items = sorted-append (sorted items) items ordered ordered (sorted-sorted items) refl ∙ sorted-append_swap items ordered

-- where none are in order yet
pub none_in_order : (ordered items : List Edge) → (length ordered == 0) ≡ true → sorted items ≡ sorted (ordered ++ items)
none_in_order [] items h = refl
none_in_order (x ∷ xs) items h = let none = eqb-true (length (x ∷ xs)) 0 h in absurd (omega (arith, none))

-- in which order they stood doesn't matter
pub sorted_permuted : (before after : List Edge) → IsPermutation before after → sorted after ≡ sorted before
sorted_permuted before after p =
    sorted_alike after before (λ e. (Contains-permutation after before e (IsPermutation-sym before after p), Contains-permutation before after e p))
