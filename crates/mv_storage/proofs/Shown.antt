-- What slots show, as a map.
use Rattle.mv_storage.proofs.Common.{[], ℕ, ⊎_elim, ◌∙◌, ◌∷◌, ◌≡◌, ◌≤◌, List, None, Option, Some, ap, arith, cond, false, length, refl, slice_get, subst, suc, sym, true}
use Rattle.mv_storage.proofs.Common.{IsOrdered, is_at, lookup, option_and_then, is_eq, is_lt, Less, Key, FlatEntry, key_before, same_key, with_words, without_words, words_under, Ascends}
use Rattle.mv_storage.proofs.Common.{IsBelow, is_changed, key_cmp, layer_at, shown, value_at, Places, Layer, Committed, Current, Slot, Vacant}
use Rattle.std.specs.Map.{keys_of}
use Rattle.std.specs.List.{AllByRecursion}
use Rattle.std.specs.List.Sorted.{IsStrictlySortedBy}
use Rattle.std.proofs.lemmas.Map.Keys.{sorted_head, sorted_tail}
use Rattle.mv_storage.specs.Slots.{shown_before}
use Rattle.mv_storage.proofs.Keys.{key_before-is, same_key-is, same_key-symm, same_key-to}
use Rattle.mv_storage.proofs.Maps.{words_under-below, words_under-with_words, words_under-without_words, Ascends-with_words, Ascends-without_words, entries_from_words}
use Rattle.std.proofs.lemmas.Bool.{cases_Bool}

-- places whose keys ascend
abbrev pub InOrder : List (Key × ℕ) → Type 0
InOrder es = IsStrictlySortedBy key_cmp (keys_of es)

-- the slot under a key
abbrev pub found : List Slot → List (Key × ℕ) → Key → Option Slot
found slots es q = option_and_then (slice_get slots) (lookup (is_at (key_cmp q)) es)

below-before : (low key : Key) (o : Option (List ℕ)) (es : List FlatEntry) → key_before low key ≡ true → IsBelow low es → IsBelow low (shown_before key o es)
below-before low key None es h b = b
below-before low key (Some w) es h b = h

below-shown : (layer : Layer) (slots : List Slot) (low : Key) (es : List (Key × ℕ)) → AllByRecursion (λ k. key_cmp low k ≡ Less) (keys_of es) → IsBelow low (shown layer slots es)
below-shown layer slots low [] h = tt
below-shown layer slots low (e ∷ es) h =
    below-before low e.0 (layer_at layer (slice_get slots e.1)) (shown layer slots es) (key_before-is low e.0 ∙ ap is_lt h.0) (below-shown layer slots low es h.1)

ascends-before : (key : Key) (o : Option (List ℕ)) (es : List FlatEntry) → IsBelow key es → Ascends es → Ascends (shown_before key o es)
ascends-before key None es b s = s
ascends-before key (Some w) es b s = (b, s)

pub Ascends-shown : (layer : Layer) (slots : List Slot) (es : List (Key × ℕ)) → InOrder es → Ascends (shown layer slots es)
Ascends-shown layer slots [] s = tt
Ascends-shown layer slots (e ∷ es) s =
    ascends-before e.0 (layer_at layer (slice_get slots e.1)) (shown layer slots es) (below-shown layer slots e.0 es (sorted_head key_cmp e.0 (keys_of es) s))
    (Ascends-shown layer slots es (sorted_tail key_cmp e.0 (keys_of es) s))

pub words_under-found : (layer : Layer) (slots : List Slot) (es : List (Key × ℕ)) (q : Key) → InOrder es → words_under (shown layer slots es) q ≡ layer_at layer (found slots es q)
words_under-found layer slots [] q s = refl
words_under-found layer slots (e ∷ es) q s =
    ⊎_elim
    (λ (here : same_key e.0 q ≡ true).
    let at : is_eq (key_cmp q e.0) ≡ true = sym (same_key-is q e.0) ∙ same_key-symm q e.0 ∙ here in
    let below : IsBelow q (shown layer slots es) = subst (λ k. IsBelow k (shown layer slots es)) (same_key-to e.0 q here) (below-shown layer slots e.0 es (sorted_head key_cmp e.0 (keys_of es) s)) in
    rw at (hit (layer_at layer (slice_get slots e.1)) here (words_under-below (shown layer slots es) q below (Ascends-shown layer slots es (sorted_tail key_cmp e.0 (keys_of es) s)))))
    (λ (off : same_key e.0 q ≡ false).
    let past : is_eq (key_cmp q e.0) ≡ false = sym (same_key-is q e.0) ∙ same_key-symm q e.0 ∙ off in
    rw past (missed (layer_at layer (slice_get slots e.1)) off ∙ words_under-found layer slots es q (sorted_tail key_cmp e.0 (keys_of es) s)))
    (cases_Bool (same_key e.0 q))
  where
    hit : (o : Option (List ℕ)) → same_key e.0 q ≡ true → words_under (shown layer slots es) q ≡ None → words_under (shown_before e.0 o (shown layer slots es)) q ≡ o
    hit None here none = none
    hit (Some w) here none = rw here refl

    missed : (o : Option (List ℕ)) → same_key e.0 q ≡ false → words_under (shown_before e.0 o (shown layer slots es)) q ≡ words_under (shown layer slots es) q
    missed None off = refl
    missed (Some w) off = rw off refl

-- the entries that the slots of keys show
abbrev pub shown_of : Layer → Places → List FlatEntry
shown_of layer p = shown layer p.slots.items p.tree.entries

pub words_under-shown : (layer : Layer) (p : Places) (q : Key) → IsOrdered key_cmp p.tree → words_under (shown_of layer p) q ≡ value_at layer p q
words_under-shown layer p q s = words_under-found layer p.slots.items p.tree.entries q s

Ascends-of : (layer : Layer) (p : Places) → IsOrdered key_cmp p.tree → Ascends (shown_of layer p)
Ascends-of layer p s = Ascends-shown layer p.slots.items p.tree.entries s

-- ---- what slots show after a change

-- the same at each key
pub shown-same : (l k : Layer) (m n : Places) → IsOrdered key_cmp m.tree → IsOrdered key_cmp n.tree → ((q : Key) → value_at k n q ≡ value_at l m q) → shown_of k n ≡ shown_of l m
shown-same l k m n s t h =
    entries_from_words (shown_of k n) (shown_of l m) (Ascends-of k n t) (Ascends-of l m s)
    (λ q. words_under-shown k n q t ∙ h q ∙ sym (words_under-shown l m q s))

-- a value at one key
pub shown-with : (l : Layer) (m n : Places) (k : Key) (w : List ℕ) → IsOrdered key_cmp m.tree → IsOrdered key_cmp n.tree
    → ((q : Key) → value_at l n q ≡ cond (same_key k q) (Some w) (value_at l m q))
    → shown_of l n ≡ with_words (shown_of l m) k w
shown-with l m n k w s t h =
    entries_from_words (shown_of l n) (with_words (shown_of l m) k w) (Ascends-of l n t) (Ascends-with_words (shown_of l m) k w (Ascends-of l m s))
    (λ q. words_under-shown l n q t ∙ h q ∙ ap (cond (same_key k q) (Some w)) (sym (words_under-shown l m q s)) ∙ sym (words_under-with_words (shown_of l m) k w q))

-- nothing at one key
pub shown-without : (l : Layer) (m n : Places) (k : Key) → IsOrdered key_cmp m.tree → IsOrdered key_cmp n.tree
    → ((q : Key) → value_at l n q ≡ cond (same_key k q) None (value_at l m q))
    → shown_of l n ≡ without_words (shown_of l m) k
shown-without l m n k s t h =
    entries_from_words (shown_of l n) (without_words (shown_of l m) k) (Ascends-of l n t) (Ascends-without_words (shown_of l m) k (Ascends-of l m s))
    (λ q. words_under-shown l n q t ∙ h q ∙ ap (cond (same_key k q) None) (sym (words_under-shown l m q s)) ∙ sym (words_under-without_words (shown_of l m) k q (Ascends-of l m s)))

-- at one key what was there
pub same-at : {X : Type 0} (f : Key → X) (k q : Key) → cond (same_key k q) (f k) (f q) ≡ f q
same-at f k q =
    ⊎_elim (λ (t : same_key k q ≡ true). rw t (ap f (same_key-to k q t))) (λ (f : same_key k q ≡ false). rw f refl) (cases_Bool (same_key k q))

-- ---- slots that no run has changed

pub layers-same : (slot : Option Slot) → is_changed slot ≡ false → layer_at Current slot ≡ layer_at Committed slot
layers-same None h = refl
layers-same (Some (Vacant next)) h = refl
layers-same slot h = cc

-- ---- how many there are

shown_before-length : (key : Key) (o : Option (List ℕ)) (es : List FlatEntry) (n : ℕ) → length es ≤ n → length (shown_before key o es) ≤ suc n
shown_before-length key None es n h = omega (arith, h)
shown_before-length key (Some w) es n h = omega (arith, h)

-- at most one for each slot
pub shown-length : (layer : Layer) (slots : List Slot) (es : List (Key × ℕ)) → length (shown layer slots es) ≤ length es
shown-length layer slots [] = omega arith
shown-length layer slots (e ∷ es) = shown_before-length e.0 (layer_at layer (slice_get slots e.1)) (shown layer slots es) (length es) (shown-length layer slots es)
