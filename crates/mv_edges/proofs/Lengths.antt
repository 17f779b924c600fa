-- The length of the longest list.
use Rattle.mv_edges.proofs.Common.{[], ℕ, ◌++◌, ◌+◌, ◌<◌, ◌∙◌, ◌∷◌, ◌≡◌, ◌≤◌, Contains, List, ap, arith, get_or, inl, inr, length, max, sym, take, take_more, Edge, longest}
use Rattle.mv_edges.proofs.Insertion.{contains_cases}

pub longest-append : (es fs : List Edge) → longest (es ++ fs) ≡ max (longest es) (longest fs)
longest-append [] fs = omega arith
longest-append (e ∷ es) fs = let h = longest-append es fs in omega (arith, h)

-- one more edge at the end
pub longest_push : (es : List Edge) (e : Edge) → longest (es ++ e ∷ []) ≡ max (longest es) (length e.label.path)
longest_push es e = let h = longest-append es (e ∷ []) in omega (arith, h)

-- a loop's next edge
pub longest_more : (es : List Edge) (i : ℕ) (e : Edge) → i < length es → e ≡ get_or es i e → longest (take (i + 1) es) ≡ max (longest (take i es)) (length e.label.path)
longest_more es i e h at = ap longest (take_more es i e h) ∙ longest_push (take i es) (get_or es i e) ∙ ap (λ x. max (longest (take i es)) (length x.label.path)) (sym at)

-- no list is longer
pub longest_above : (es : List Edge) (e : Edge) → Contains es e → length e.label.path ≤ longest es
longest_above [] e c = let h = c.1 in omega (arith, h)
longest_above (x ∷ es) e c =
    elim (contains_cases x es e c) [
      | inl h ↦ let same = ap (λ (y : Edge). length y.label.path) h in omega (arith, same)
      | inr d ↦ let h = longest_above es e d in omega (arith, h)
    ]
