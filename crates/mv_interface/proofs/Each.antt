-- Lists whose entries go with those of another list, each with the one at its index.
--   each-more      one more of both
--   each-mapped    entries that are made of the others
use Rattle.mv_interface.proofs.Common.{[], ℕ, ◌++◌, ◌+◌, ◌∙◌, ◌∷◌, ◌≡◌, AreEach, List, Some, ap, arith, inl, inr, length-map, length_push, map, option_map, same_Some, slice_get, slice_get-map, slice_get_within, subst, sym}
use Rattle.mv_bound_rules.proofs.Entries.{last_or_before}

-- one more of both
pub each-more : {A B : Type 0} (R : A → B → Type 0) (xs : List A) (ys : List B) (x : A) (y : B) → AreEach R xs ys → R x y → AreEach R (xs ++ x ∷ []) (ys ++ y ∷ [])
each-more R xs ys x y so is = record {
  len = length_push ys y ∙ ap (λ n. n + 1) so.len ∙ sym (length_push xs x);
  each = λ k a b at b_at.
      let of = last_or_before xs x k a at in
      elim (last_or_before ys y k b b_at) [
        | inl before ↦ elim of [ inl old ↦ so.each k a b old before | inr last ↦ absurd (omega (arith, slice_get_within ys k b before, so.len, last.0)) ]
        | inr last ↦ elim of [ inl old ↦ absurd (omega (arith, slice_get_within xs k a old, so.len, last.0)) | inr here ↦ rw (← here.1, ← last.1) is ]
      ];
}

-- entries that are made of the others
pub each-mapped : {A B : Type 0} (R : A → B → Type 0) (f : A → B) (xs : List A) → ((k : ℕ) (x : A) → slice_get xs k ≡ Some x → R x (f x)) → AreEach R xs (map f xs)
each-mapped R f xs is = record {
  len = length-map xs f;
  each = λ k x y at y_at.
      let same : f x ≡ y = same_Some (f x) y (sym (slice_get-map f xs k ∙ ap (option_map f) at) ∙ y_at) in
      subst (R x) same (is k x at);
}
