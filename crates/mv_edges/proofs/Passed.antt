-- Ascending lists, piece by piece.
use Rattle.mv_edges.proofs.Common.{[], ℕ, ◌++◌, ◌+◌, ◌-◌, ◌<◌, ◌∙◌, ◌∷◌, ◌≡◌, ◌≤◌, List, Some, ap, arith, get_or, length, refl, slice_get, subst, sym, take, true}
use Rattle.mv_edges.proofs.Common.{get_or-take, length-take-le, take_all, take_more, slice_get-get_or, are_ascending, edge_before, Edge}
use Rattle.mv_edges.proofs.Sorting.{ascending-push_some}

-- a front goes on by an edge that the last of it comes before
pub ascending_take_more : (es : List Edge) (place : ℕ) (l e : Edge) → 0 < place → place < length es → l ≡ get_or es (place - 1) l
    → e ≡ get_or es place e → edge_before l e ≡ true → are_ascending (take place es) ≡ true → are_ascending (take (place + 1) es) ≡ true
ascending_take_more es place l e some inside at_l at_e before h =
    let long : length (take place es) ≡ place = length-take-le place es (omega (arith, inside)) in
    let last : slice_get (take place es) (length (take place es) - 1) ≡ Some l =
    ap (λ k. slice_get (take place es) (k - 1)) long ∙ slice_get-get_or (take place es) (place - 1) l (omega (arith, long, some)) ∙ ap Some (get_or-take place es (place - 1) l (omega (arith, some)) ∙ sym at_l) in
    subst (λ xs. are_ascending xs ≡ true) (sym (take_more es place e inside ∙ ap (λ x. take place es ++ x ∷ []) (sym at_e))) (ascending-push_some (take place es) e l last h ∙ before)

pub ascending_one : (es : List Edge) → are_ascending (take 1 es) ≡ true
ascending_one [] = refl
ascending_one (x ∷ es) = refl

pub ascending_whole : (es : List Edge) (place : ℕ) → length es ≤ place → are_ascending (take place es) ≡ true → are_ascending es ≡ true
ascending_whole es place h a = subst (λ xs. are_ascending xs ≡ true) (take_all place es h) a
