-- Edges are taken away, target by target.
use Rattle.mv_bounds.proofs.Common.{[], ℕ, ◌++◌, ◌+◌, ◌<◌, ◌∙◌, ◌∷◌, ◌≡◌, ◌≤◌, List, ap, arith, get_or, get_or-set_other, get_or-set_same, inl, inr, length, length-set, nat_lt, refl, set}
use Rattle.mv_bounds.proofs.Common.{sym, take, true, and_from, cases_eq, lt-ltb, list_all-append, Released, is_zero, times}
use Rattle.mv_bound_rules.proofs.TimesLemmas.{times_push, times_more, times_take, is_one, is_none, zero_is_one, other_is_none}

-- a target that is no node
pub released_past : (n : ℕ) (before after ready ready' targets : List ℕ) (k x : ℕ) → Released n before after ready ready' (take k targets)
    → k < length targets → x ≡ get_or targets k 0 → n ≤ x → Released n before after ready ready' (take (k + 1) targets)
released_past n before after ready ready' targets k x r low is past =
    record {
      len = r.len;
      edges = λ j l.
          let more = times_more j targets k x low is in
          let other = is_none x j (λ e. omega (arith, e, l, past)) in
          let c = r.edges j l in
          omega (arith, more, other, c);
      sources = r.sources;
      nodes = r.nodes;
    }

-- what is left to be taken away is among the edges
pub one_left : (n : ℕ) (before after ready ready' targets : List ℕ) (k x : ℕ) → Released n before after ready ready' (take k targets)
    → k < length targets → x ≡ get_or targets k 0 → x < n → times x targets ≤ get_or before x 0 → 1 ≤ get_or after x 0
one_left n before after ready ready' targets k x r low is inside enough =
    let more = times_more x targets k x low is in
    let one = is_one x x refl in
    let most = times_take x targets (k + 1) in
    let c = r.edges x inside in
    omega (arith, more, one, most, c, enough)

module _ (n : ℕ) (before after ready ready' targets : List ℕ) (k x count : ℕ) (r : Released n before after ready ready' (take k targets))
    (low : k < length targets) (is : x ≡ get_or targets k 0) (inside : x < n) (held : get_or after x 0 ≡ count + 1) where
  new_here : get_or (set after x count) x 0 ≡ count
  new_here = get_or-set_same after x count 0 (omega (arith, inside, r.len))

  counts_after : (j : ℕ) → j < n → get_or (set after x count) j 0 + times j (take (k + 1) targets) ≡ get_or before j 0
  counts_after j l =
      let more = times_more j targets k x low is in
      let c = r.edges j l in
      elim (cases_eq j x) [
        | inl e ↦
            let one = is_one x j (sym e) in
            let new : get_or (set after x count) j 0 ≡ count = ap (λ i. get_or (set after x count) i 0) e ∙ new_here in
            let was : get_or after j 0 ≡ count + 1 = ap (λ i. get_or after i 0) e ∙ held in
            omega (arith, more, one, new, was, c)
        | inr ne ↦
            let none = is_none x j (λ e. ne (sym e)) in
            let same = get_or-set_other after x j count 0 ne in
            omega (arith, more, none, same, c)
      ]

  -- a target that other edges lead to
  pub released_more : (count ≡ 0 → ⊥) → Released n before (set after x count) ready ready' (take (k + 1) targets)
  released_more some =
      record {
        len = length-set after x count ∙ r.len;
        edges = counts_after;
        sources = λ j l.
            let q = r.sources j l in
            elim (cases_eq j x) [
              | inl e ↦
                  let new : is_zero (get_or (set after x count) j 0) ≡ 0 = other_is_none _ (λ z. some (sym (ap (λ i. get_or (set after x count) i 0) e ∙ new_here) ∙ z)) in
                  let was : is_zero (get_or after j 0) ≡ 0 = other_is_none _ (λ z. let h : get_or after j 0 ≡ count + 1 = ap (λ i. get_or after i 0) e ∙ held in omega (arith, z, h)) in
                  omega (arith, q, new, was)
              | inr ne ↦ let same : is_zero (get_or (set after x count) j 0) ≡ is_zero (get_or after j 0) = ap is_zero (get_or-set_other after x j count 0 ne) in omega (arith, q, same)
            ];
        nodes = r.nodes;
      }

  -- a target that no other edge leads to
  pub released_last : count ≡ 0 → Released n before (set after x count) ready (ready' ++ x ∷ []) (take (k + 1) targets)
  released_last none =
      record {
        len = length-set after x count ∙ r.len;
        edges = counts_after;
        sources = λ j l.
            let q = r.sources j l in
            let push = times_push j ready' x in
            elim (cases_eq j x) [
              | inl e ↦
                  let one = is_one x j (sym e) in
                  let new : is_zero (get_or (set after x count) j 0) ≡ 1 = zero_is_one _ (ap (λ i. get_or (set after x count) i 0) e ∙ new_here ∙ none) in
                  let was : is_zero (get_or after j 0) ≡ 0 = other_is_none _ (λ z. let h : get_or after j 0 ≡ count + 1 = ap (λ i. get_or after i 0) e ∙ held in omega (arith, z, h)) in
                  omega (arith, q, new, was, push, one)
              | inr ne ↦
                  let other = is_none x j (λ e. ne (sym e)) in
                  let same : is_zero (get_or (set after x count) j 0) ≡ is_zero (get_or after j 0) = ap is_zero (get_or-set_other after x j count 0 ne) in
                  omega (arith, q, same, push, other)
            ];
        nodes = λ h. list_all-append (λ y. nat_lt y n) ready' (x ∷ []) ∙ and_from _ _ (r.nodes h) (and_from _ true (lt-ltb x n inside) refl);
      }
