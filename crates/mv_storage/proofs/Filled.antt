-- Storage that is filled with entries all at once.
use Rattle.mv_storage.proofs.Common.{[], ℕ, ⊎_elim, ◌++◌, ◌∙◌, ◌∷◌, ◌≡◌, List, None, Option, Some, ap, cond, false, is_some, refl, sym, true, Key, FlatEntry, same_key, with_words, words_under}
use Rattle.std.proofs.lemmas.Bool.{cases_Bool}
use Rattle.mv_storage.specs.Filling.{IsFilled}
use Rattle.mv_storage.proofs.Maps.{words_under-same, words_under-with_words, Ascends-with_words, entries_from_words}

-- nothing fills no storage
pub IsFilled-none : IsFilled [] []
IsFilled-none = (tt, λ k. refl)

-- storages that are filled with the same entries are the same
pub filled-same : (es s t : List FlatEntry) → IsFilled es s → IsFilled es t → s ≡ t
filled-same es s t f g = entries_from_words s t f.0 g.0 (λ q. f.1 q ∙ sym (g.1 q))

-- behind other entries, an entry shows where none of those has its key
pub words_under-last : (es : List FlatEntry) (e : FlatEntry) (q : Key) → words_under (es ++ e ∷ []) q ≡ cond (is_some (words_under es q)) (words_under es q) (words_under (e ∷ []) q)
words_under-last [] e q = refl
words_under-last (x ∷ es) e q =
    ⊎_elim (λ (t : same_key x.key q ≡ true). rw t refl) (λ (f : same_key x.key q ≡ false). rw f (words_under-last es e q)) (cases_Bool (same_key x.key q))

-- one more entry
pub IsFilled-more : (es s : List FlatEntry) (e : FlatEntry) → IsFilled es s → IsFilled (es ++ e ∷ []) (cond (is_some (words_under s e.key)) s (with_words s e.key e.words))
IsFilled-more es s e f = by (words_under s e.key) refl
  where
    from : (q : Key) (o p : Option (List ℕ)) → words_under s q ≡ o → cond (is_some o) o (words_under (e ∷ []) q) ≡ p → p ≡ words_under (es ++ e ∷ []) q
    from q o p is e_is =
        let here : words_under es q ≡ o = sym (f.1 q) ∙ is in
        sym e_is ∙ ap (λ x. cond (is_some x) x (words_under (e ∷ []) q)) (sym here) ∙ sym (words_under-last es e q)

    stays : (w : List ℕ) (q : Key) (o : Option (List ℕ)) → words_under s e.key ≡ Some w → words_under s q ≡ o → cond (is_some o) o (words_under (e ∷ []) q) ≡ o
    stays w q (Some x) has is = refl
    stays w q None has is =
        ⊎_elim
        (λ (t : same_key e.key q ≡ true). let e : Some w ≡ None = sym has ∙ sym (words_under-same s e.key q t) ∙ is in cc)
        (λ (off : same_key e.key q ≡ false). rw off refl)
        (cases_Bool (same_key e.key q))

    comes : (q : Key) (o : Option (List ℕ)) → words_under s e.key ≡ None → words_under s q ≡ o → cond (is_some o) o (words_under (e ∷ []) q) ≡ cond (same_key e.key q) (Some e.words) o
    comes q None none is = refl
    comes q (Some x) none is =
        ⊎_elim
        (λ (t : same_key e.key q ≡ true). let e : Some x ≡ None = sym is ∙ words_under-same s e.key q t ∙ none in cc)
        (λ (off : same_key e.key q ≡ false). rw off refl)
        (cases_Bool (same_key e.key q))

    by : (o : Option (List ℕ)) → words_under s e.key ≡ o → IsFilled (es ++ e ∷ []) (cond (is_some o) s (with_words s e.key e.words))
    by (Some w) is = (f.0, λ q. from q (words_under s q) (words_under s q) refl (stays w q (words_under s q) is refl))
    by None is = (
      Ascends-with_words s e.key e.words f.0,
      λ q.
          words_under-with_words s e.key e.words q ∙ from q (words_under s q) (cond (same_key e.key q) (Some e.words) (words_under s q)) refl (comes q (words_under s q) is refl),
    )
