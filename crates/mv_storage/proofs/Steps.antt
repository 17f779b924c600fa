-- What a step of the code on its slots does to what they show.
use Rattle.mv_storage.proofs.Common.{[], ℕ, ⊎_elim, ◌++◌, ◌||◌, ◌∙◌, ◌∷◌, ◌≡◌, ◌≤◌, Bool, List, None, Option, Some, ap, arith, cond, false, inl, inr, is_some, refl, slice_get}
use Rattle.mv_storage.proofs.Common.{slice_index_or, slice_set, subst, sym, true, IsOrdered, get, is_at, option_and_then, Key, FlatEntry, same_key, words_under, AreNoted}
use Rattle.mv_storage.proofs.Common.{IsResolving, IsSound, IsTracked, ShowsSame, is_changed, is_vacant, key_cmp, layer_at, of_layer, slot_at, value_at, Places, Layer}
use Rattle.mv_storage.proofs.Common.{Committed, Current, Slot, Vacant}
use Rattle.std.specs.BTreeMap.{BTreeMap}
use Rattle.std.specs.List.{list_any}
use Rattle.std.proofs.lemmas.List.Folds.{list_any-append}
use Rattle.std.proofs.lemmas.Bool.{or_left, cases_Bool}
use Rattle.mv_storage.specs.Map.{Layers}
use Rattle.mv_storage.specs.Slots.{is_change, is_pinned, keeps_place, KeepsPinned, ArePlaced, IsResolved, IsResolvedAt, ShowsAt}
use Rattle.mv_storage.proofs.Keys.{same_key-is, same_key-refl, same_key-symm, same_key-to}
use Rattle.mv_storage.proofs.PlaceLemmas.{HasAt, HasPlace, Put, place-read, resolving-used, wrote-at, removed-at, used-not_vacant, same-sound, same-slots, same-resolving, wrote-resolving}
use Rattle.mv_storage.proofs.PlaceLemmas.{removed-resolving, slice_set-again, slice_set-read}
use Rattle.mv_storage.proofs.Pinned.{keeps-at, keeps-same, keeps-removed, keeps-tree}
use Rattle.mv_storage.proofs.Shown.{shown_of, words_under-shown, shown-same, layers-same}

-- each key touched has the place that it is noted with, or has been taken out since
abbrev pub AreResolving : Places → List (Key × ℕ) → Type 0
AreResolving p [] = Unit {0}
AreResolving p (t ∷ ts) = IsResolving p t.0 t.1 × AreResolving p ts

-- the words under a key are those of the slot under it
pub reads : (layer : Layer) (p : Places) (q : Key) (o : Option Slot) → IsOrdered key_cmp p.tree → o ≡ slot_at p q
    → words_under (shown_of layer p) q ≡ layer_at layer o
reads layer p q o s e = words_under-shown layer p q s ∙ ap (layer_at layer) (sym e)

-- the test of a query is that of its key
pub at-same : (k q : Key) → is_at (key_cmp k) q ≡ same_key k q
at-same k q = sym (same_key-is k q)

-- ---- what is shown where a slot is another

pub has-shows : (layer : Layer) (m n : Places) (k : Key) (slot : Option Slot) (o : Option (List ℕ)) → HasAt m n k slot → layer_at layer slot ≡ o → ShowsAt layer k o m n
has-shows layer m n k slot o has is q =
    ap (layer_at layer) (has q)
    ∙ ⊎_elim (λ (here : same_key k q ≡ true). rw here is) (λ (off : same_key k q ≡ false). rw off refl) (cases_Bool (same_key k q))

pub has-same : (layer : Layer) (m n : Places) (k : Key) (slot : Option Slot) → HasAt m n k slot → layer_at layer slot ≡ value_at layer m k → ShowsSame layer m n
has-same layer m n k slot has is q =
    has-shows layer m n k slot (value_at layer m k) has is q
    ∙ ⊎_elim
    (λ (here : same_key k q ≡ true). rw here (ap (value_at layer m) (same_key-to k q here)))
    (λ (off : same_key k q ≡ false). rw off refl)
    (cases_Bool (same_key k q))

-- ---- the keys touched

or-last : (a b : Bool) → b ≡ true → (a || (b || false)) ≡ true
or-last true b e = refl
or-last false true e = refl
or-last false false e = cc

-- one more key is touched
pub grows-push : (touched : List (Key × ℕ)) (u : Key × ℕ) (q : Key) → list_any (λ t. same_key q t.0) touched ≡ true → list_any (λ t. same_key q t.0) (touched ++ u ∷ []) ≡ true
grows-push touched u q h = list_any-append (λ t. same_key q t.0) touched (u ∷ []) ∙ or_left (list_any (λ t. same_key q t.0) touched) (list_any (λ t. same_key q t.0) (u ∷ [])) h

pub has-push : (touched : List (Key × ℕ)) (u : Key × ℕ) → list_any (λ t. same_key u.0 t.0) (touched ++ u ∷ []) ≡ true
has-push touched u =
    list_any-append (λ t. same_key u.0 t.0) touched (u ∷ []) ∙ or-last (list_any (λ t. same_key u.0 t.0) touched) (same_key u.0 u.0) (same_key-refl u.0)

-- each slot that is changed is still noted
pub noted-at : (m n : Places) (k : Key) (slot : Option Slot) (touched more : List (Key × ℕ)) → HasAt m n k slot → AreNoted m touched
    → ((q : Key) → list_any (λ t. same_key q t.0) touched ≡ true → list_any (λ t. same_key q t.0) more ≡ true)
    → (is_changed slot ≡ true → list_any (λ t. same_key k t.0) more ≡ true)
    → AreNoted n more
noted-at m n k slot touched more has noted grows now q h =
    ⊎_elim
    (λ (here : same_key k q ≡ true).
    let is : slot_at n q ≡ slot = has q ∙ ap (λ b. cond b slot (slot_at m q)) here in
    ap (λ x. list_any (λ t. same_key x t.0) more) (sym (same_key-to k q here)) ∙ now (sym (ap is_changed is) ∙ h))
    (λ (off : same_key k q ≡ false).
    let is : slot_at n q ≡ slot_at m q = has q ∙ ap (λ b. cond b slot (slot_at m q)) off in
    grows q (noted q (sym (ap is_changed is) ∙ h)))
    (cases_Bool (same_key k q))

pub noted-same : (m n : Places) (touched more : List (Key × ℕ)) → ((q : Key) → slot_at n q ≡ slot_at m q) → AreNoted m touched
    → ((q : Key) → list_any (λ t. same_key q t.0) touched ≡ true → list_any (λ t. same_key q t.0) more ≡ true)
    → AreNoted n more
noted-same m n touched more same noted grows q h = grows q (noted q (sym (ap is_changed (same q)) ∙ h))

pub placed-push : (tree : BTreeMap Key ℕ) (touched : List (Key × ℕ)) (u : Key × ℕ) → get key_cmp tree u.0 ≡ Some u.1 → ArePlaced tree touched → ArePlaced tree (touched ++ u ∷ [])
placed-push tree [] u at h = (at, tt)
placed-push tree (t ∷ ts) u at h = (h.0, placed-push tree ts u at h.1)

pub placed-kept : (a b : BTreeMap Key ℕ) (touched : List (Key × ℕ)) → ((q : Key) (place : ℕ) → get key_cmp a q ≡ Some place → get key_cmp b q ≡ Some place) → ArePlaced a touched → ArePlaced b touched
placed-kept a b [] keep h = tt
placed-kept a b (t ∷ ts) keep h = (keep t.0 t.1 h.0, placed-kept a b ts keep h.1)

pub resolving-placed : (p : Places) (touched : List (Key × ℕ)) → ArePlaced p.tree touched → AreResolving p touched
resolving-placed p [] h = tt
resolving-placed p (t ∷ ts) h = (inl h.0, resolving-placed p ts h.1)

pub resolving-last : (p : Places) (rest : List (Key × ℕ)) (u : Key × ℕ) → AreResolving p (rest ++ u ∷ []) → IsResolving p u.0 u.1
resolving-last p [] u h = h.0
resolving-last p (t ∷ ts) u h = resolving-last p ts u h.1

pub resolving-rest : (m n : Places) (rest : List (Key × ℕ)) (u : Key × ℕ) → ((q : Key) (place : ℕ) → IsResolving m q place → IsResolving n q place) → AreResolving m (rest ++ u ∷ []) → AreResolving n rest
resolving-rest m n [] u keep h = tt
resolving-rest m n (t ∷ ts) u keep h = (keep t.0 t.1 h.0, resolving-rest m n ts u keep h.1)

-- no slot has a key that does not fit
pub no_slot : (p : Places) (q : Key) → IsSound p → 65536 ≤ q.place → slot_at p q ≡ None
no_slot p q sound big =
    ⊎_elim
    (λ (there : is_some (get key_cmp p.tree q) ≡ true). absurd (omega (arith, sound.fits q there)))
    (λ (none : is_some (get key_cmp p.tree q) ≡ false). ap (λ x. option_and_then (slice_get p.slots.items) x) (let nothing : get key_cmp p.tree q ≡ None = grind (arith, none) in nothing))
    (cases_Bool (is_some (get key_cmp p.tree q)))

-- ---- a slot that is written

-- a slot that the code has read is that under the key
pub slot-read : (m : Places) (k : Key) (p : ℕ) (s : Slot) → IsSound m → get key_cmp m.tree k ≡ Some p → s ≡ slice_index_or m.slots.items p s → slot_at m k ≡ Some s
slot-read m k p s sound at is =
    ap (λ x. option_and_then (slice_get m.slots.items) x) at ∙ place-read m k p s sound (inl at) is

-- the key's slot is another now, and noted
pub tracked-put : (m n : Places) (k : Key) (s t : Slot) (touched more : List (Key × ℕ)) → IsTracked m touched → slot_at m k ≡ Some s → Put m n k t
    → ((q : Key) → list_any (λ u. same_key q u.0) touched ≡ true → list_any (λ u. same_key q u.0) more ≡ true)
    → (is_change s ≡ false → is_change t ≡ true → list_any (λ u. same_key k u.0) more ≡ true)
    → ArePlaced n.tree more
    → IsTracked n more
tracked-put m n k s t touched more had is put grows now placed = record {
  sound = put.sound;
  noted = noted-at m n k (Some t) touched more put.has had.noted grows
      (λ changed.
      ⊎_elim
      (λ (was : is_change s ≡ true). grows k (had.noted k (ap is_changed is ∙ was)))
      (λ (not : is_change s ≡ false). now not changed)
      (cases_Bool (is_change s)));
  placed = placed;
}

-- the code has read s at a key's place, and t stands there now; r is what it has read there at another time
pub record Wrote (m n : Places) (k : Key) (p : ℕ) (s t : Slot) : Type 0 where
  pub was : (layer : Layer) → of_layer layer s ≡ value_at layer m k
  pub shows : (layer : Layer) (o : Option (List ℕ)) → of_layer layer t ≡ o → ShowsAt layer k o m n
  pub same : (layer : Layer) → of_layer layer t ≡ of_layer layer s → ShowsSame layer m n
  pub tracked : (r : Slot) (touched more : List (Key × ℕ)) → r ≡ slice_index_or m.slots.items p r → IsTracked m touched
      → ((q : Key) → list_any (λ u. same_key q u.0) touched ≡ true → list_any (λ u. same_key q u.0) more ≡ true)
      → (is_change r ≡ false → list_any (λ u. same_key k u.0) more ≡ true)
      → ((tree : BTreeMap Key ℕ) → get key_cmp tree k ≡ Some p → ArePlaced tree touched → ArePlaced tree more)
      → IsTracked n more
  pub pinned : (is_pinned s ≡ true → is_pinned t ≡ true) → KeepsPinned m n

pub wrote : (m n : Places) (k : Key) (p : ℕ) (s t : Slot) → IsSound m → Some p ≡ get key_cmp m.tree k → s ≡ slice_index_or m.slots.items p s → is_vacant t ≡ false
    → n.tree ≡ m.tree → n.slots.items ≡ slice_set m.slots.items p t
    → Wrote m n k p s t
wrote m n k p s t sound at is used tree slots = record {
  was = was;
  shows = λ layer o shown. has-shows layer m n k (Some t) o put.has shown;
  same = λ layer same. has-same layer m n k (Some t) put.has (same ∙ was layer);
  tracked = λ r touched more read had grows now placed.
      tracked-put m n k r t touched more had (slot-read m k p r sound (sym at) read) put grows (λ kept _. now kept)
      (subst (λ (x : BTreeMap Key ℕ). ArePlaced x more) (sym tree) (placed m.tree (sym at) had.placed));
  pinned = λ keeps. keeps-at m n k s t (slot-read m k p s sound (sym at) is) put.has (keeps-tree m n tree) keeps;
}
  where
    put : Put m n k t
    put = wrote-at m n k p t sound (sym at) used tree slots

    was : (layer : Layer) → of_layer layer s ≡ value_at layer m k
    was layer = ap (layer_at layer) (sym (slot-read m k p s sound (sym at) is))

-- nothing was written
pub tracked-same : (m n : Places) (touched more : List (Key × ℕ)) → IsTracked m touched → IsSound n → ((q : Key) → slot_at n q ≡ slot_at m q)
    → ((q : Key) → list_any (λ u. same_key q u.0) touched ≡ true → list_any (λ u. same_key q u.0) more ≡ true)
    → ArePlaced n.tree more
    → IsTracked n more
tracked-same m n touched more had sound same grows placed = record {
  sound = sound;
  noted = noted-same m n touched more same had.noted grows;
  placed = placed;
}

-- ---- a key that is new

pub placed-added : (m n : Places) (k : Key) (p : ℕ) (touched : List (Key × ℕ)) → get key_cmp m.tree k ≡ None → HasPlace m n k (Some p)
    → ArePlaced m.tree touched → ArePlaced n.tree (touched ++ (k, p) ∷ [])
placed-added m n k p touched none gets placed =
    placed-push n.tree touched (k, p) (gets k ∙ ap (λ b. cond b (Some p) (get key_cmp m.tree k)) (same_key-refl k))
    (placed-kept m.tree n.tree touched
    (λ q place e.
    ⊎_elim
    (λ (here : same_key k q ≡ true). let b : None ≡ Some place = sym none ∙ ap (get key_cmp m.tree) (same_key-to k q here) ∙ e in cc)
    (λ (off : same_key k q ≡ false). gets q ∙ ap (λ b. cond b (Some p) (get key_cmp m.tree q)) off ∙ e)
    (cases_Bool (same_key k q))) placed)

pub tracked-added : (m n : Places) (k : Key) (p : ℕ) (t : Slot) (touched : List (Key × ℕ)) → IsTracked m touched → get key_cmp m.tree k ≡ None
    → Put m n k t → HasPlace m n k (Some p) → IsTracked n (touched ++ (k, p) ∷ [])
tracked-added m n k p t touched had none put gets = record {
  sound = put.sound;
  noted = noted-at m n k (Some t) touched (touched ++ (k, p) ∷ []) put.has had.noted (λ q h. grows-push touched (k, p) q h) (λ _. has-push touched (k, p));
  placed = placed-added m n k p touched none gets had.placed;
}

-- from slots that are the same
pub put-from : (m v n : Places) (k : Key) (t : Slot) → ((q : Key) → slot_at v q ≡ slot_at m q) → Put v n k t → Put m n k t
put-from m v n k t same put = record { sound = put.sound; has = λ q. put.has q ∙ ap (cond (same_key k q) (Some t)) (same q) }

-- ---- the slots that are left to resolve

or-left : (a b : Bool) → (a || (b || false)) ≡ true → b ≡ false → a ≡ true
or-left true b e f = refl
or-left false true e f = cc
or-left false false e f = e

pub noted-rest : (m n : Places) (rest : List (Key × ℕ)) (u : Key × ℕ) → AreNoted m (rest ++ u ∷ [])
    → is_changed (slot_at n u.0) ≡ false → ((q : Key) → same_key u.0 q ≡ false → slot_at n q ≡ slot_at m q)
    → AreNoted n rest
noted-rest m n rest u noted done others q h =
    ⊎_elim
    (λ (here : same_key u.0 q ≡ true). let e : is_changed (slot_at n q) ≡ false = ap (λ x. is_changed (slot_at n x)) (sym (same_key-to u.0 q here)) ∙ done in cc)
    (λ (off : same_key u.0 q ≡ false).
    let had : is_changed (slot_at m q) ≡ true = ap is_changed (sym (others q off)) ∙ h in
    or-left (list_any (λ t. same_key q t.0) rest) (same_key q u.0) (sym (list_any-append (λ t. same_key q t.0) rest (u ∷ [])) ∙ noted q had) (same_key-symm q u.0 ∙ off))
    (cases_Bool (same_key u.0 q))

-- a slot under a key, and those of the others
pub has-here : (m n : Places) (k : Key) (slot : Option Slot) → HasAt m n k slot → slot_at n k ≡ slot
has-here m n k slot has = has k ∙ ap (λ b. cond b slot (slot_at m k)) (same_key-refl k)

pub has-off : (m n : Places) (k : Key) (slot : Option Slot) → HasAt m n k slot → (q : Key) → same_key k q ≡ false → slot_at n q ≡ slot_at m q
has-off m n k slot has q off = has q ∙ ap (λ b. cond b slot (slot_at m q)) off

-- the key was taken out before
pub resolves-none : (layer : Layer) (m n : Places) (k : Key) (p : ℕ) (s : Slot) → IsSound m → IsResolving m k p → s ≡ slice_index_or m.slots.items p s → true ≡ is_vacant s
    → n.tree ≡ m.tree → n.slots.items ≡ slice_set m.slots.items p s
    → IsResolvedAt layer k m n
resolves-none layer m n k p s sound resolving is vacant tree slots = record {
  sound = same-sound m n sound entries items (subst (IsOrdered key_cmp) (sym tree) sound.ordered);
  same = λ q. ap (layer_at layer) (same-slots m n entries items q);
  resolved = ap is_changed (same-slots m n entries items k) ∙ gone resolving;
  others = λ q _. same-slots m n entries items q;
  resolving = same-resolving m n tree items;
  pinned = λ _. keeps-same m n (same-slots m n entries items) (keeps-tree m n tree);
}
  where
    read : slice_get m.slots.items p ≡ Some s
    read = place-read m k p s sound resolving is

    items : n.slots.items ≡ m.slots.items
    items = slots ∙ slice_set-read m.slots.items p s read

    entries : n.tree.entries ≡ m.tree.entries
    entries = ap (λ x. x.entries) tree

    gone : IsResolving m k p → is_changed (slot_at m k) ≡ false
    gone (inl e) = absurd (used-not_vacant m.slots.items p (sound.used k p e) (s, read, sym vacant))
    gone (inr v) = ap (λ x. is_changed (option_and_then (slice_get m.slots.items) x)) v.0

-- the slot stays
pub resolves-kept : (layer : Layer) (m n : Places) (k : Key) (p : ℕ) (s t : Slot) → IsSound m → IsResolving m k p → s ≡ slice_index_or m.slots.items p s → false ≡ is_vacant s
    → n.tree ≡ m.tree → n.slots.items ≡ slice_set m.slots.items p t
    → is_vacant t ≡ false → is_change t ≡ false → of_layer layer t ≡ of_layer layer s → (layer ≡ Committed → is_pinned s ≡ true → is_pinned t ≡ true)
    → IsResolvedAt layer k m n
resolves-kept layer m n k p s t sound resolving is stands tree slots used kept same keeps =
    let read = place-read m k p s sound resolving is in
    let at = resolving-used m k p s read (sym stands) resolving in
    let put = wrote-at m n k p t sound at used tree slots in
    record {
      sound = put.sound;
      same = has-same layer m n k (Some t) put.has (same ∙ ap (layer_at layer) (sym (slot-read m k p s sound at is)));
      resolved = ap is_changed (has-here m n k (Some t) put.has) ∙ kept;
      others = has-off m n k (Some t) put.has;
      resolving = wrote-resolving m n p s t read (sym stands) tree slots;
      pinned = λ c. keeps-at m n k s t (slot-read m k p s sound at is) put.has (keeps-tree m n tree) (keeps c);
    }

-- the layer has no value, so the key is taken out
pub resolves-removed : (layer : Layer) (m n : Places) (k : Key) (p : ℕ) (s t : Slot) → IsSound m → IsResolving m k p → s ≡ slice_index_or m.slots.items p s → false ≡ is_vacant s
    → of_layer layer s ≡ None → (layer ≡ Committed → is_pinned s ≡ false) → IsOrdered key_cmp n.tree → HasPlace m n k None
    → n.slots.items ≡ slice_set (slice_set m.slots.items p t) p (Vacant m.free)
    → IsResolvedAt layer k m n
resolves-removed layer m n k p s t sound resolving is stands empty loose order gets slots =
    let at = resolving-used m k p s (place-read m k p s sound resolving is) (sym stands) resolving in
    let once = slots ∙ slice_set-again m.slots.items p t (Vacant m.free) in
    let gone = removed-at m n k p (Vacant m.free) sound (inl at) order gets once in
    record {
      sound = gone.sound;
      same = has-same layer m n k None gone.has (sym empty ∙ ap (layer_at layer) (sym (slot-read m k p s sound at is)));
      resolved = ap is_changed (has-here m n k None gone.has);
      others = has-off m n k None gone.has;
      resolving = removed-resolving m n k p (Vacant m.free) sound at refl gets once;
      pinned = λ c. keeps-removed m n k (ap keeps_place (slot-read m k p s sound at is) ∙ loose c) gone.has gets;
    }

-- where no slot is changed, both layers are one
pub one-layer : (layer : Layer) (slot : Option Slot) → is_changed slot ≡ false → layer_at Committed slot ≡ layer_at layer slot
one-layer Committed slot h = refl
one-layer Current slot h = sym (layers-same slot h)

-- what is committed once all is resolved
pub resolved-shows : (layer : Layer) (m n : Places) (touched : List (Key × ℕ)) → IsSound m → IsResolved n touched → ShowsSame layer m n → shown_of Committed n ≡ shown_of layer m
resolved-shows layer m n touched s t same = shown-same layer Committed m n s.ordered t.sound.ordered (λ q. one-layer layer (slot_at n q) (t.kept q) ∙ same q)

-- overlays with the same layers are one
pub layers-equal : (a b : Layers) → a.committed ≡ b.committed → a.current ≡ b.current → a.marks ≡ b.marks → a ≡ b
layers-equal a b p q r = let e : make a.committed a.current a.marks ≡ make b.committed b.current b.marks = cc in e
  where
    make : List FlatEntry → List FlatEntry → List (List FlatEntry) → Layers
    make x y z = record { committed = x; current = y; marks = z }
