-- Keys with the places of their slots, of which a tree is made all at once.
use Rattle.mv_storage.proofs.Common.{[], ℕ, ⊎_elim, ◌++◌, ◌∙◌, ◌∷◌, ◌≡◌, ◌<◌, List, None, Option, Some, ap, cond, false, is_some, length, refl, slice_get, subst, suc, sym, true}
use Rattle.mv_storage.proofs.Common.{get, is_at, lookup, option_and_then, is_eq, Key, FlatEntry, same_key, words_under, is_changed, key_cmp, layer_at, of_layer, shown, Places, Committed, Slot}
use Rattle.std.proofs.Common.{reverse, zero}
use Rattle.std.specs.BTreeMap.{IsFromIterResult}
use Rattle.std.specs.List.{AllByRecursion}
use Rattle.std.specs.Map.{keys_of, update_all}
use Rattle.std.specs.Ordering.{eq_by_cmp}
use Rattle.std.proofs.lemmas.Bool.{cases_Bool}
use Rattle.std.proofs.lemmas.List.{reverse-append, map-append}
use Rattle.std.proofs.lemmas.Map.{update_all_push}
use Rattle.mv_storage.specs.Slots.{shown_before}
use Rattle.mv_storage.specs.Filling.{HoldsKept, IsPair, ArePairs, AreFilled}
use Rattle.mv_storage.proofs.Keys.{same_key-is, same_key-symm, same_key-to, same_key-refl}
use Rattle.mv_storage.proofs.Shown.{found, words_under-found, Ascends-shown}

-- ---- one more pair

get-more : {X : Type 0} (xs ys : List X) (i : ℕ) (x : X) → slice_get xs i ≡ Some x → slice_get (xs ++ ys) i ≡ Some x
get-more [] ys i x e = cc
get-more (y ∷ xs) ys zero x e = e
get-more (y ∷ xs) ys (suc i) x e = get-more xs ys i x e

get-last : {X : Type 0} (xs : List X) (x : X) → slice_get (xs ++ x ∷ []) (length xs) ≡ Some x
get-last [] x = refl
get-last (y ∷ xs) x = get-last xs x

pair-more : (ps qs : List (Key × ℕ)) (slots more : List Slot) (p : Key × ℕ) → IsPair ps slots p → IsPair (ps ++ qs) (slots ++ more) p
pair-more ps qs slots more p h = record {
  fits = h.fits;
  own = subst (λ (ks : List Key). slice_get ks p.1 ≡ Some p.0) (sym (map-append (λ (e : Key × ℕ). e.0) ps qs)) (get-more (keys_of ps) (keys_of qs) p.1 p.0 h.own);
  slot = h.slot;
  at = get-more slots more p.1 h.slot h.at;
  held = h.held;
}

-- holds of all, and of one more
all-more : {X : Type 0} (P Q : X → Type 0) (xs : List X) (x : X) → ((y : X) → P y → Q y) → AllByRecursion P xs → Q x → AllByRecursion Q (xs ++ x ∷ [])
all-more P Q [] x f h q = (q, tt)
all-more P Q (y ∷ xs) x f h q = (f y h.0, all-more P Q xs x f h.1 q)

length-keys : (ps : List (Key × ℕ)) → length (keys_of ps) ≡ length ps
length-keys [] = refl
length-keys (p ∷ ps) = ap suc (length-keys ps)

length-last : {X : Type 0} (xs : List X) (x : X) → length (xs ++ x ∷ []) ≡ suc (length xs)
length-last [] x = refl
length-last (y ∷ xs) x = ap suc (length-last xs x)

pub ArePairs-more : (ps : List (Key × ℕ)) (slots : List Slot) (key : Key) (place : ℕ) (s : Slot) → ArePairs ps slots → key.place < 65536 → place ≡ length slots → HoldsKept s
    → ArePairs (ps ++ (key, place) ∷ []) (slots ++ s ∷ [])
ArePairs-more ps slots key place s h fits is kept = record {
  long = length-last ps (key, place) ∙ ap suc h.long ∙ sym (length-last slots s);
  each = all-more (IsPair ps slots) (IsPair (ps ++ (key, place) ∷ []) (slots ++ s ∷ [])) ps (key, place) (pair-more ps ((key, place) ∷ []) slots (s ∷ [])) h.each
      (record { fits = fits; own = own; slot = s; at = ap (slice_get (slots ++ s ∷ [])) is ∙ get-last slots s; held = kept });
}
  where
    own : slice_get (keys_of (ps ++ (key, place) ∷ [])) place ≡ Some key
    own =
        ap (λ (ks : List Key). slice_get ks place) (map-append (λ (e : Key × ℕ). e.0) ps ((key, place) ∷ []))
        ∙ ap (slice_get (keys_of ps ++ key ∷ [])) (is ∙ sym h.long ∙ sym (length-keys ps)) ∙ get-last (keys_of ps) key

-- ---- what they show

shown_before-append : (key : Key) (o : Option (List ℕ)) (es fs : List FlatEntry) → shown_before key o (es ++ fs) ≡ shown_before key o es ++ fs
shown_before-append key None es fs = refl
shown_before-append key (Some w) es fs = refl

-- a slot more shows nothing of the pairs before it
shown-slots : (qs ps : List (Key × ℕ)) (slots more : List Slot) → AllByRecursion (IsPair qs slots) ps → shown Committed (slots ++ more) ps ≡ shown Committed slots ps
shown-slots qs [] slots more h = refl
shown-slots qs (p ∷ ps) slots more h =
    let same : slice_get (slots ++ more) p.1 ≡ slice_get slots p.1 = get-more slots more p.1 h.0.slot h.0.at ∙ sym h.0.at in
    ap (λ (o : Option Slot). shown_before p.0 (layer_at Committed o) (shown Committed (slots ++ more) ps)) same
    ∙ ap (shown_before p.0 (layer_at Committed (slice_get slots p.1))) (shown-slots qs ps slots more h.1)

shown-append : (slots : List Slot) (ps qs : List (Key × ℕ)) → shown Committed slots (ps ++ qs) ≡ shown Committed slots ps ++ shown Committed slots qs
shown-append slots [] qs = refl
shown-append slots (p ∷ ps) qs =
    ap (shown_before p.0 (layer_at Committed (slice_get slots p.1))) (shown-append slots ps qs)
    ∙ shown_before-append p.0 (layer_at Committed (slice_get slots p.1)) (shown Committed slots ps) (shown Committed slots qs)

pub shown-more : (ps : List (Key × ℕ)) (slots : List Slot) (key : Key) (place : ℕ) (s : Slot) (words : List ℕ) → ArePairs ps slots → place ≡ length slots → of_layer Committed s ≡ Some words
    → shown Committed (slots ++ s ∷ []) (ps ++ (key, place) ∷ []) ≡ shown Committed slots ps ++ record { key = key; words = words } ∷ []
shown-more ps slots key place s words h is value =
    shown-append (slots ++ s ∷ []) ps ((key, place) ∷ [])
    ∙ ap (λ (es : List FlatEntry). es ++ shown Committed (slots ++ s ∷ []) ((key, place) ∷ [])) (shown-slots ps ps slots (s ∷ []) h.each)
    ∙ ap (λ (o : Option (List ℕ)). shown Committed slots ps ++ shown_before key o []) (ap (layer_at Committed) (ap (slice_get (slots ++ s ∷ [])) is ∙ get-last slots s) ∙ value)

-- under a key they show the slot of the first pair with that key
words_under-pairs : (qs ps : List (Key × ℕ)) (slots : List Slot) (q : Key) → AllByRecursion (IsPair qs slots) ps → words_under (shown Committed slots ps) q ≡ layer_at Committed (found slots ps q)
words_under-pairs qs [] slots q h = refl
words_under-pairs qs (p ∷ ps) slots q h =
    let value : layer_at Committed (slice_get slots p.1) ≡ Some h.0.held.words = ap (layer_at Committed) h.0.at ∙ h.0.held.value in
    let at : is_at (key_cmp q) p.0 ≡ same_key p.0 q = sym (same_key-is q p.0) ∙ same_key-symm q p.0 in
    ap (λ (o : Option (List ℕ)). words_under (shown_before p.0 o (shown Committed slots ps)) q) value
    ∙ ⊎_elim
    (λ (t : same_key p.0 q ≡ true). rw (at, t) (sym value))
    (λ (f : same_key p.0 q ≡ false). rw (at, f) (words_under-pairs qs ps slots q h.1))
    (cases_Bool (same_key p.0 q))

-- ---- a tree that is made of them, the last first

-- the first pair with a key is put last
pub lookup-reverse : (ps : List (Key × ℕ)) (q : Key) → update_all (eq_by_cmp key_cmp) (λ x. None) (reverse ps) q ≡ lookup (is_at (key_cmp q)) ps
lookup-reverse [] q = refl
lookup-reverse (p ∷ ps) q =
    ap (λ (xs : List (Key × ℕ)). update_all (eq_by_cmp key_cmp) (λ x. None) xs q) (reverse-append (p ∷ []) ps)
    ∙ sym (update_all_push (eq_by_cmp key_cmp) (λ x. None) (update_all (eq_by_cmp key_cmp) (λ x. None) (reverse ps)) (reverse ps) p q refl)
    ∙ ap (cond (is_eq (key_cmp p.0 q)) (Some p.1)) (lookup-reverse ps q)
    ∙ ap (λ b. cond b (Some p.1) (lookup (is_at (key_cmp q)) ps)) (sym (same_key-is p.0 q) ∙ same_key-symm p.0 q ∙ same_key-is q p.0)

-- a place that is found is that of a pair
pair-found : (qs ps : List (Key × ℕ)) (slots : List Slot) (q : Key) (place : ℕ) → AllByRecursion (IsPair qs slots) ps → lookup (is_at (key_cmp q)) ps ≡ Some place → IsPair qs slots (q, place)
pair-found qs [] slots q place h e = cc
pair-found qs (p ∷ ps) slots q place h e =
    ⊎_elim
    (λ (t : is_at (key_cmp q) p.0 ≡ true).
    let here : q ≡ p.0 = same_key-to q p.0 (same_key-is q p.0 ∙ t) in
    let at : Some p.1 ≡ Some place = rw t at e in
    let is : p.1 ≡ place = cc in
    subst (λ (k : Key). IsPair qs slots (k, place)) (sym here) (subst (λ (n : ℕ). IsPair qs slots (p.0, n)) is h.0))
    (λ (f : is_at (key_cmp q) p.0 ≡ false). pair-found qs ps slots q place h.1 (rw f at e))
    (cases_Bool (is_at (key_cmp q) p.0))

-- places whose tree is made of them are filled with what they show
pub filled-places : (p : Places) (ps qs : List (Key × ℕ)) → ArePairs ps p.slots.items → qs ≡ reverse ps → IsFromIterResult key_cmp qs p.tree → AreFilled ps p.slots.items p
filled-places p ps qs pairs is made = record {
  sound = record {
    ordered = made.1;
    fits = λ q e. fits q (get key_cmp p.tree q) refl e;
    used = λ q place e. (let at = pair-at q place e in (at.slot, at.at, at.held.used));
    apart = λ q r place e f. apart q r (sym (pair-at q place e).own ∙ (pair-at r place f).own);
  };
  kept = λ q. kept q (get key_cmp p.tree q) refl;
  filled = (
    Ascends-shown Committed p.slots.items p.tree.entries made.1,
    λ q.
        words_under-found Committed p.slots.items p.tree.entries q made.1
        ∙ ap (λ (o : Option ℕ). layer_at Committed (option_and_then (slice_get p.slots.items) o)) (finds q)
        ∙ sym (words_under-pairs ps ps p.slots.items q pairs.each),
  );
}
  where
    finds : (q : Key) → get key_cmp p.tree q ≡ lookup (is_at (key_cmp q)) ps
    finds q = made.0 q ∙ ap (λ (xs : List (Key × ℕ)). update_all (eq_by_cmp key_cmp) (λ x. None) xs q) is ∙ lookup-reverse ps q

    pair-at : (q : Key) (place : ℕ) → get key_cmp p.tree q ≡ Some place → IsPair ps p.slots.items (q, place)
    pair-at q place e = pair-found ps ps p.slots.items q place pairs.each (sym (finds q) ∙ e)

    fits : (q : Key) (o : Option ℕ) → get key_cmp p.tree q ≡ o → is_some o ≡ true → q.place < 65536
    fits q None e some = cc
    fits q (Some place) e some = (pair-at q place e).fits

    apart : (q r : Key) → Some q ≡ Some r → same_key q r ≡ true
    apart q r same = let one : q ≡ r = cc in ap (same_key q) (sym one) ∙ same_key-refl q

    kept : (q : Key) (o : Option ℕ) → get key_cmp p.tree q ≡ o → is_changed (option_and_then (slice_get p.slots.items) o) ≡ false
    kept q None e = refl
    kept q (Some place) e = let at = pair-at q place e in ap is_changed at.at ∙ at.held.kept
