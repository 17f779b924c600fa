-- Entries by ascending key as a map.
use Rattle.mv_storage.proofs.Common.{[], ℕ, ⊎_elim, ◌∙◌, ◌∷◌, ◌≡◌, List, None, Some, ap, cond, false, refl, subst, sym, true, Key, FlatEntry, key_before, same_key}
use Rattle.mv_storage.proofs.Common.{with_words, without_words, words_under, Ascends, IsBelow}
use Rattle.mv_storage.proofs.Keys.{same_key-refl, same_key-to, same_key-symm, before-apart, before-trans, keys_compare}
use Rattle.std.proofs.lemmas.Bool.{cases_Bool}

-- equal keys have the same words
pub words_under-same : (es : List FlatEntry) (k q : Key) → same_key k q ≡ true → words_under es q ≡ words_under es k
words_under-same es k q e = ap (words_under es) (sym (same_key-to k q e))

-- ---- what a change leaves at each key

pub words_under-with_words : (es : List FlatEntry) (k : Key) (w : List ℕ) (q : Key) → words_under (with_words es k w) q ≡ cond (same_key k q) (Some w) (words_under es q)
words_under-with_words [] k w q = refl
words_under-with_words (e ∷ es) k w q =
    ⊎_elim
    (λ (here : same_key e.key k ≡ true). rw here (
    let one : e.key ≡ k = same_key-to e.key k here in
    ⊎_elim (λ (t : same_key k q ≡ true). rw (one, t) refl) (λ (f : same_key k q ≡ false). rw (one, f) refl) (cases_Bool (same_key k q))))
    (λ (apart : same_key e.key k ≡ false). rw apart (
    ⊎_elim (λ (t : key_before k e.key ≡ true). rw t refl)
    (λ (f : key_before k e.key ≡ false). rw f (
    rw (words_under-with_words es k w q) (
    ⊎_elim
    (λ (t : same_key k q ≡ true). let off : same_key e.key q ≡ false = ap (same_key e.key) (sym (same_key-to k q t)) ∙ apart in rw (t, off) refl)
    (λ (f : same_key k q ≡ false). rw f refl) (cases_Bool (same_key k q)))))
    (cases_Bool (key_before k e.key))))
    (cases_Bool (same_key e.key k))

-- a key before the first has no words
pub words_under-below : (es : List FlatEntry) (k : Key) → IsBelow k es → Ascends es → words_under es k ≡ None
words_under-below [] k b s = refl
words_under-below (e ∷ es) k b s =
    rw (same_key-symm e.key k, before-apart k e.key b) (words_under-below es k (below es s.0) s.1)
  where
    below : (es : List FlatEntry) → IsBelow e.key es → IsBelow k es
    below [] h = tt
    below (f ∷ fs) h = before-trans k e.key f.key b h

pub words_under-without_words : (es : List FlatEntry) (k q : Key) → Ascends es → words_under (without_words es k) q ≡ cond (same_key k q) None (words_under es q)
words_under-without_words [] k q s =
    ⊎_elim (λ (t : same_key k q ≡ true). rw t refl) (λ (f : same_key k q ≡ false). rw f refl) (cases_Bool (same_key k q))
words_under-without_words (e ∷ es) k q s =
    ⊎_elim
    (λ (here : same_key e.key k ≡ true). rw here (
    let one : e.key ≡ k = same_key-to e.key k here in
    ⊎_elim
    (λ (t : same_key k q ≡ true). rw t (words_under-same es k q t ∙ words_under-below es k (subst (λ (x : Key). IsBelow x es) one s.0) s.1))
    (λ (f : same_key k q ≡ false). rw (one, f) refl) (cases_Bool (same_key k q))))
    (λ (apart : same_key e.key k ≡ false). rw apart (
    rw (words_under-without_words es k q s.1) (
    ⊎_elim
    (λ (t : same_key k q ≡ true). let off : same_key e.key q ≡ false = ap (same_key e.key) (sym (same_key-to k q t)) ∙ apart in rw (t, off) refl)
    (λ (f : same_key k q ≡ false). rw f refl) (cases_Bool (same_key k q)))))
    (cases_Bool (same_key e.key k))

-- ---- the keys stay in order

below-with_words : (es : List FlatEntry) (low k : Key) (w : List ℕ) → IsBelow low es → key_before low k ≡ true → IsBelow low (with_words es k w)
below-with_words [] low k w b h = h
below-with_words (e ∷ es) low k w b h =
    ⊎_elim
    (λ (here : same_key e.key k ≡ true). rw here h)
    (λ (apart : same_key e.key k ≡ false). rw apart (
    ⊎_elim (λ (t : key_before k e.key ≡ true). rw t h) (λ (f : key_before k e.key ≡ false). rw f b) (cases_Bool (key_before k e.key))))
    (cases_Bool (same_key e.key k))

-- where a key is neither another nor before it, it is after it
pub behind : (a b : Key) → same_key a b ≡ false → key_before b a ≡ false → key_before a b ≡ true
behind a b p q = ⊎_elim (λ e. cc) (λ s. ⊎_elim (λ t. t) (λ t. cc) s) (keys_compare a b)

pub Ascends-with_words : (es : List FlatEntry) (k : Key) (w : List ℕ) → Ascends es → Ascends (with_words es k w)
Ascends-with_words [] k w s = (tt, tt)
Ascends-with_words (e ∷ es) k w s =
    ⊎_elim
    (λ (here : same_key e.key k ≡ true). rw here (subst (λ (x : Key). IsBelow x es) (same_key-to e.key k here) s.0, s.1))
    (λ (apart : same_key e.key k ≡ false). rw apart (
    ⊎_elim
    (λ (t : key_before k e.key ≡ true). rw t (t, s))
    (λ (f : key_before k e.key ≡ false). rw f (below-with_words es e.key k w s.0 (behind e.key k apart f), Ascends-with_words es k w s.1))
    (cases_Bool (key_before k e.key))))
    (cases_Bool (same_key e.key k))

below-tail : (low : Key) (e : FlatEntry) (es : List FlatEntry) → key_before low e.key ≡ true → IsBelow e.key es → IsBelow low es
below-tail low e [] h b = tt
below-tail low e (f ∷ fs) h b = before-trans low e.key f.key h b

below-without_words : (es : List FlatEntry) (low k : Key) → IsBelow low es → Ascends es → IsBelow low (without_words es k)
below-without_words [] low k b s = tt
below-without_words (e ∷ es) low k b s =
    ⊎_elim
    (λ (here : same_key e.key k ≡ true). rw here (below-tail low e es b s.0))
    (λ (apart : same_key e.key k ≡ false). rw apart b)
    (cases_Bool (same_key e.key k))

pub Ascends-without_words : (es : List FlatEntry) (k : Key) → Ascends es → Ascends (without_words es k)
Ascends-without_words [] k s = tt
Ascends-without_words (e ∷ es) k s =
    ⊎_elim
    (λ (here : same_key e.key k ≡ true). rw here s.1)
    (λ (apart : same_key e.key k ≡ false). rw apart (below-without_words es e.key k s.0 s.1, Ascends-without_words es k s.1))
    (cases_Bool (same_key e.key k))

-- ---- entries with the same words at each key are the same

words_under-head : (e : FlatEntry) (es : List FlatEntry) → words_under (e ∷ es) e.key ≡ Some e.words
words_under-head e es = rw (same_key-refl e.key) refl

tail-words : (x : FlatEntry) (xs : List FlatEntry) (y : FlatEntry) (ys : List FlatEntry) (q : Key) → x.key ≡ y.key → Ascends (x ∷ xs) → Ascends (y ∷ ys)
    → words_under (x ∷ xs) q ≡ words_under (y ∷ ys) q → words_under xs q ≡ words_under ys q
tail-words x xs y ys q one s t h =
    ⊎_elim
    (λ (at : same_key x.key q ≡ true).
    words_under-same xs x.key q at ∙ words_under-below xs x.key s.0 s.1 ∙ sym (words_under-same ys y.key q (ap (λ k. same_key k q) (sym one) ∙ at) ∙ words_under-below ys y.key t.0 t.1))
    (λ (off : same_key x.key q ≡ false).
    let other : same_key y.key q ≡ false = ap (λ k. same_key k q) (sym one) ∙ off in
    let left : words_under (x ∷ xs) q ≡ words_under xs q = rw off refl in
    let right : words_under (y ∷ ys) q ≡ words_under ys q = rw other refl in
    sym left ∙ h ∙ right)
    (cases_Bool (same_key x.key q))

pub entries_from_words : (xs ys : List FlatEntry) → Ascends xs → Ascends ys → ((q : Key) → words_under xs q ≡ words_under ys q) → xs ≡ ys
entries_from_words [] [] s t h = refl
entries_from_words [] (y ∷ ys) s t h = let e : words_under [] y.key ≡ Some y.words = h y.key ∙ words_under-head y ys in cc
entries_from_words (x ∷ xs) [] s t h = let e : None ≡ Some x.words = sym (h x.key) ∙ words_under-head x xs in cc
entries_from_words (x ∷ xs) (y ∷ ys) s t h =
    ⊎_elim
    (λ (same : same_key x.key y.key ≡ true).
    let one : x.key ≡ y.key = same_key-to x.key y.key same in
    let words : Some x.words ≡ Some y.words = sym (words_under-head x xs) ∙ ap (words_under (x ∷ xs)) one ∙ h y.key ∙ words_under-head y ys in
    let first : x ≡ y = entry-same x y one words in
    let rest : xs ≡ ys = entries_from_words xs ys s.1 t.1 (λ q. tail-words x xs y ys q one s t (h q)) in
    cc)
    (⊎_elim
    (λ (before : key_before x.key y.key ≡ true).
    let e : Some x.words ≡ None = sym (words_under-head x xs) ∙ h x.key ∙ words_under-below (y ∷ ys) x.key before t in cc)
    (λ (before : key_before y.key x.key ≡ true).
    let e : Some y.words ≡ None = sym (words_under-head y ys) ∙ sym (h y.key) ∙ words_under-below (x ∷ xs) y.key before s in cc))
    (keys_compare x.key y.key)
  where
    entry-same : (x y : FlatEntry) → x.key ≡ y.key → Some x.words ≡ Some y.words → x ≡ y
    entry-same x y p q =
        let e : make x.key x.words ≡ make y.key y.words = cc in e
      where
        make : Key → List ℕ → FlatEntry
        make k w = record { key = k; words = w }
