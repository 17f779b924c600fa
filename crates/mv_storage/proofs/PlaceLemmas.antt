-- Slots in a list, and keys that have places there.
--   put-at      a slot stands at a key's place, or at a free one that the key gets
--   removed-at  a key is gone, and its place is free
use Rattle.mv_storage.proofs.Common.{[], ℕ, ⊎_elim, ◌++◌, ◌<◌, ◌∙◌, ◌∷◌, ◌≡◌, List, None, Option, Some, ap, cond, false, inl, inr, is_some, length, refl, slice_get}
use Rattle.mv_storage.proofs.Common.{slice_index_or, slice_set, subst, suc, sym, true, slice_get_within, IsOrdered, get, is_at, lookup, option_and_then, Key, same_key, IsResolving}
use Rattle.mv_storage.proofs.Common.{IsSound, is_vacant, key_cmp, slot_at, Places, Slot}
use Rattle.std.proofs.Common.{zero}
use Rattle.std.proofs.lemmas.Option.{slice_get_read}
use Rattle.mv_storage.specs.Slots.{IsVacantAt, IsUsedAt}
use Rattle.mv_storage.proofs.Keys.{same_key-to}
use Rattle.std.proofs.lemmas.Bool.{cases_Bool, cases_eq}

-- ---- the list

pub slice_get-set_same : {X : Type 0} (xs : List X) (p : ℕ) (x y : X) → slice_get xs p ≡ Some x → slice_get (slice_set xs p y) p ≡ Some y
slice_get-set_same [] p x y e = cc
slice_get-set_same (z ∷ xs) zero x y e = refl
slice_get-set_same (z ∷ xs) (suc p) x y e = slice_get-set_same xs p x y e

pub slice_get-set_other : {X : Type 0} (xs : List X) (p q : ℕ) (y : X) → (p ≡ q → ⊥) → slice_get (slice_set xs p y) q ≡ slice_get xs q
slice_get-set_other [] p q y apart = refl
slice_get-set_other (z ∷ xs) zero zero y apart = absurd (apart refl)
slice_get-set_other (z ∷ xs) zero (suc q) y apart = refl
slice_get-set_other (z ∷ xs) (suc p) zero y apart = refl
slice_get-set_other (z ∷ xs) (suc p) (suc q) y apart = slice_get-set_other xs p q y (λ e. apart (ap suc e))

pub slice_get-push_last : {X : Type 0} (xs : List X) (y : X) → slice_get (xs ++ y ∷ []) (length xs) ≡ Some y
slice_get-push_last [] y = refl
slice_get-push_last (x ∷ xs) y = slice_get-push_last xs y

pub slice_get-push_before : {X : Type 0} (xs ys : List X) (p : ℕ) (x : X) → slice_get xs p ≡ Some x → slice_get (xs ++ ys) p ≡ Some x
slice_get-push_before [] ys p x e = cc
slice_get-push_before (z ∷ xs) ys zero x e = e
slice_get-push_before (z ∷ xs) ys (suc p) x e = slice_get-push_before xs ys p x e

pub slice_set-again : {X : Type 0} (xs : List X) (p : ℕ) (x y : X) → slice_set (slice_set xs p x) p y ≡ slice_set xs p y
slice_set-again [] p x y = refl
slice_set-again (z ∷ xs) zero x y = refl
slice_set-again (z ∷ xs) (suc p) x y = ap (λ ys. z ∷ ys) (slice_set-again xs p x y)

pub slice_set-read : {X : Type 0} (xs : List X) (p : ℕ) (x : X) → slice_get xs p ≡ Some x → slice_set xs p x ≡ xs
slice_set-read [] p x e = refl
slice_set-read (z ∷ xs) zero x e = cc
slice_set-read (z ∷ xs) (suc p) x e = ap (λ ys. z ∷ ys) (slice_set-read xs p x e)

-- ---- places

-- a key's place, or a free one, is in the list
pub resolving-within : (m : Places) (k : Key) (p : ℕ) → IsSound m → IsResolving m k p → (s : Slot) × (slice_get m.slots.items p ≡ Some s)
resolving-within m k p sound (inl e) = let u = sound.used k p e in (u.0, u.1)
resolving-within m k p sound (inr v) = (v.1.0, v.1.1)

-- what the code has read there
pub place-read : (m : Places) (k : Key) (p : ℕ) (s : Slot) → IsSound m → IsResolving m k p → s ≡ slice_index_or m.slots.items p s → slice_get m.slots.items p ≡ Some s
place-read m k p s sound resolving is =
    let there = resolving-within m k p sound resolving in
    slice_get_read m.slots.items (length m.slots.items) p s refl (slice_get_within m.slots.items p there.0 there.1) is

pub used-not_vacant : (slots : List Slot) (p : ℕ) → IsUsedAt slots p → IsVacantAt slots p → ⊥
used-not_vacant slots p u v =
    let same : Some u.0 ≡ Some v.0 = sym u.1 ∙ v.1 in
    let e : u.0 ≡ v.0 = cc in
    let b : false ≡ true = sym u.2 ∙ ap is_vacant e ∙ v.2 in
    cc

-- a place in use is the key's
pub resolving-used : (m : Places) (k : Key) (p : ℕ) (s : Slot) → slice_get m.slots.items p ≡ Some s → is_vacant s ≡ false → IsResolving m k p → get key_cmp m.tree k ≡ Some p
resolving-used m k p s at used (inl e) = e
resolving-used m k p s at used (inr v) = absurd (used-not_vacant m.slots.items p (s, at, used) v.1)

-- no other key is there
pub elsewhere : (m : Places) (k : Key) (p : ℕ) → IsSound m → IsResolving m k p → (q : Key) (r : ℕ) → same_key k q ≡ false → get key_cmp m.tree q ≡ Some r → p ≡ r → ⊥
elsewhere m k p sound (inl e) q r off at same =
    let one : same_key k q ≡ true = sound.apart k q p e (at ∙ ap Some (sym same)) in
    let b : true ≡ false = sym one ∙ off in
    cc
elsewhere m k p sound (inr v) q r off at same =
    used-not_vacant m.slots.items r (sound.used q r at) (subst (IsVacantAt m.slots.items) same v.1)

-- n has this slot under the key, and under each other what m has
abbrev pub HasAt : Places → Places → Key → Option Slot → Type 0
HasAt m n k slot = (q : Key) → slot_at n q ≡ cond (same_key k q) slot (slot_at m q)

-- the places of the keys are m's, but for one key
abbrev pub HasPlace : Places → Places → Key → Option ℕ → Type 0
HasPlace m n k place = (q : Key) → get key_cmp n.tree q ≡ cond (same_key k q) place (get key_cmp m.tree q)

place-here : (m n : Places) (k : Key) (o : Option ℕ) → HasPlace m n k o → (q : Key) → same_key k q ≡ true → get key_cmp n.tree q ≡ o
place-here m n k o gets q here = gets q ∙ ap (λ b. cond b o (get key_cmp m.tree q)) here

place-off : (m n : Places) (k : Key) (o : Option ℕ) → HasPlace m n k o → (q : Key) → same_key k q ≡ false → get key_cmp n.tree q ≡ get key_cmp m.tree q
place-off m n k o gets q off = gets q ∙ ap (λ b. cond b o (get key_cmp m.tree q)) off

-- each other key has its slot
slot-off : (m n : Places) (k : Key) (p : ℕ) (t : Slot) (o : Option ℕ) → IsSound m → IsResolving m k p → HasPlace m n k o → n.slots.items ≡ slice_set m.slots.items p t
    → (q : Key) → same_key k q ≡ false → slot_at n q ≡ slot_at m q
slot-off m n k p t o sound resolving gets slots q off =
    ap (λ x. option_and_then (slice_get n.slots.items) x) (place-off m n k o gets q off)
    ∙ ap (λ xs. option_and_then (slice_get xs) (get key_cmp m.tree q)) slots
    ∙ by (get key_cmp m.tree q) refl
  where
    by : (r : Option ℕ) → get key_cmp m.tree q ≡ r → option_and_then (slice_get (slice_set m.slots.items p t)) r ≡ option_and_then (slice_get m.slots.items) r
    by None e = refl
    by (Some r) e = slice_get-set_other m.slots.items p r t (elsewhere m k p sound resolving q r off e)

used-off : (m n : Places) (k : Key) (p : ℕ) (t : Slot) (o : Option ℕ) → IsSound m → IsResolving m k p → HasPlace m n k o → n.slots.items ≡ slice_set m.slots.items p t
    → (q : Key) → same_key k q ≡ false → (r : ℕ) → get key_cmp n.tree q ≡ Some r → IsUsedAt n.slots.items r
used-off m n k p t o sound resolving gets slots q off r e =
    let had : get key_cmp m.tree q ≡ Some r = sym (place-off m n k o gets q off) ∙ e in
    let u = sound.used q r had in
    (u.0, ap (λ xs. slice_get xs r) slots ∙ slice_get-set_other m.slots.items p r t (elsewhere m k p sound resolving q r off had) ∙ u.1, u.2)

both-same : (k q r : Key) → same_key k q ≡ true → same_key k r ≡ true → same_key q r ≡ true
both-same k q r x y = ap (λ z. same_key z r) (sym (same_key-to k q x)) ∙ y

pub record Put (m n : Places) (k : Key) (t : Slot) : Type 0 where
  pub sound : IsSound n
  pub has : HasAt m n k (Some t)

pub put-at : (m n : Places) (k : Key) (p : ℕ) (t : Slot) → IsSound m → IsResolving m k p → k.place < 65536 → is_vacant t ≡ false
    → IsOrdered key_cmp n.tree → HasPlace m n k (Some p) → n.slots.items ≡ slice_set m.slots.items p t
    → Put m n k t
put-at m n k p t sound resolving small used order gets slots = record {
  sound = record {
    ordered = order;
    fits = λ q h.
        ⊎_elim
        (λ (here : same_key k q ≡ true). subst (λ (x : Key). x.place < 65536) (same_key-to k q here) small)
        (λ (off : same_key k q ≡ false). sound.fits q (ap is_some (sym (place-off m n k (Some p) gets q off)) ∙ h))
        (cases_Bool (same_key k q));
    used = λ q r e.
        ⊎_elim
        (λ (here : same_key k q ≡ true). subst (IsUsedAt n.slots.items) (at-p q r here e) (t, stands, used))
        (λ (off : same_key k q ≡ false). used-off m n k p t (Some p) sound resolving gets slots q off r e)
        (cases_Bool (same_key k q));
    apart = λ q r x e f.
        ⊎_elim
        (λ (here : same_key k q ≡ true).
        ⊎_elim
        (λ (there : same_key k r ≡ true). both-same k q r here there)
        (λ (off : same_key k r ≡ false). absurd (elsewhere m k p sound resolving r x off (sym (place-off m n k (Some p) gets r off) ∙ f) (at-p q x here e)))
        (cases_Bool (same_key k r)))
        (λ (off : same_key k q ≡ false).
        ⊎_elim
        (λ (there : same_key k r ≡ true). absurd (elsewhere m k p sound resolving q x off (sym (place-off m n k (Some p) gets q off) ∙ e) (at-p r x there f)))
        (λ (gone : same_key k r ≡ false). sound.apart q r x (sym (place-off m n k (Some p) gets q off) ∙ e) (sym (place-off m n k (Some p) gets r gone) ∙ f))
        (cases_Bool (same_key k r)))
        (cases_Bool (same_key k q));
  };
  has = λ q.
      ⊎_elim
      (λ (here : same_key k q ≡ true). rw here (ap (λ x. option_and_then (slice_get n.slots.items) x) (place-here m n k (Some p) gets q here) ∙ stands))
      (λ (off : same_key k q ≡ false). rw off (slot-off m n k p t (Some p) sound resolving gets slots q off))
      (cases_Bool (same_key k q));
}
  where
    stands : slice_get n.slots.items p ≡ Some t
    stands =
        let s = resolving-within m k p sound resolving in
        ap (λ xs. slice_get xs p) slots ∙ slice_get-set_same m.slots.items p s.0 t s.1

    at-p : (q : Key) (r : ℕ) → same_key k q ≡ true → get key_cmp n.tree q ≡ Some r → p ≡ r
    at-p q r here e = let same : Some p ≡ Some r = sym (place-here m n k (Some p) gets q here) ∙ e in cc

pub record Removed (m n : Places) (k : Key) : Type 0 where
  pub sound : IsSound n
  pub has : HasAt m n k None

pub removed-at : (m n : Places) (k : Key) (p : ℕ) (t : Slot) → IsSound m → IsResolving m k p
    → IsOrdered key_cmp n.tree → HasPlace m n k None → n.slots.items ≡ slice_set m.slots.items p t
    → Removed m n k
removed-at m n k p t sound resolving order gets slots = record {
  sound = record {
    ordered = order;
    fits = λ q h.
        ⊎_elim
        (λ (here : same_key k q ≡ true). let e : is_some (get key_cmp n.tree q) ≡ false = ap is_some (place-here m n k None gets q here) in cc)
        (λ (off : same_key k q ≡ false). sound.fits q (ap is_some (sym (place-off m n k None gets q off)) ∙ h))
        (cases_Bool (same_key k q));
    used = λ q r e.
        ⊎_elim
        (λ (here : same_key k q ≡ true). absurd (gone q r here e))
        (λ (off : same_key k q ≡ false). used-off m n k p t None sound resolving gets slots q off r e)
        (cases_Bool (same_key k q));
    apart = λ q r x e f.
        ⊎_elim
        (λ (here : same_key k q ≡ true). absurd (gone q x here e))
        (λ (off : same_key k q ≡ false).
        ⊎_elim
        (λ (there : same_key k r ≡ true). absurd (gone r x there f))
        (λ (away : same_key k r ≡ false). sound.apart q r x (sym (place-off m n k None gets q off) ∙ e) (sym (place-off m n k None gets r away) ∙ f))
        (cases_Bool (same_key k r)))
        (cases_Bool (same_key k q));
  };
  has = λ q.
      ⊎_elim
      (λ (here : same_key k q ≡ true). rw here (ap (λ x. option_and_then (slice_get n.slots.items) x) (place-here m n k None gets q here)))
      (λ (off : same_key k q ≡ false). rw off (slot-off m n k p t None sound resolving gets slots q off))
      (cases_Bool (same_key k q));
}
  where
    gone : (q : Key) (r : ℕ) → same_key k q ≡ true → get key_cmp n.tree q ≡ Some r → ⊥
    gone q r here e = let same : None ≡ Some r = sym (place-here m n k None gets q here) ∙ e in cc

-- a free place is added at the end of the list
pub pushed-same : (m n : Places) (t : Slot) → IsSound m → n.tree ≡ m.tree → n.slots.items ≡ m.slots.items ++ t ∷ [] → (q : Key) → slot_at n q ≡ slot_at m q
pushed-same m n t sound tree slots q =
    ap (λ x. option_and_then (slice_get n.slots.items) (get key_cmp x q)) tree
    ∙ ap (λ xs. option_and_then (slice_get xs) (get key_cmp m.tree q)) slots
    ∙ by (get key_cmp m.tree q) refl
  where
    by : (r : Option ℕ) → get key_cmp m.tree q ≡ r → option_and_then (slice_get (m.slots.items ++ t ∷ [])) r ≡ option_and_then (slice_get m.slots.items) r
    by None e = refl
    by (Some r) e = let u = sound.used q r e in slice_get-push_before m.slots.items (t ∷ []) r u.0 u.1 ∙ sym u.1

pub pushed-sound : (m n : Places) (t : Slot) → IsSound m → n.tree ≡ m.tree → n.slots.items ≡ m.slots.items ++ t ∷ [] → IsSound n
pushed-sound m n t sound tree slots = record {
  ordered = subst (IsOrdered key_cmp) (sym tree) sound.ordered;
  fits = λ q h. sound.fits q (ap (λ x. is_some (get key_cmp x q)) (sym tree) ∙ h);
  used = λ q r e.
      let u = sound.used q r (ap (λ x. get key_cmp x q) (sym tree) ∙ e) in
      (u.0, ap (λ xs. slice_get xs r) slots ∙ slice_get-push_before m.slots.items (t ∷ []) r u.0 u.1, u.2);
  apart = λ q r x e f. sound.apart q r x (ap (λ y. get key_cmp y q) (sym tree) ∙ e) (ap (λ y. get key_cmp y r) (sym tree) ∙ f);
}

-- a slot is written where its key has it already
pub same-place : (m n : Places) (k : Key) (p : ℕ) → get key_cmp m.tree k ≡ Some p → n.tree ≡ m.tree → HasPlace m n k (Some p)
same-place m n k p at tree q =
    ap (λ x. get key_cmp x q) tree
    ∙ ⊎_elim
    (λ (here : same_key k q ≡ true). rw here (ap (get key_cmp m.tree) (sym (same_key-to k q here)) ∙ at))
    (λ (off : same_key k q ≡ false). rw off refl)
    (cases_Bool (same_key k q))

pub wrote-at : (m n : Places) (k : Key) (p : ℕ) (t : Slot) → IsSound m → get key_cmp m.tree k ≡ Some p → is_vacant t ≡ false
    → n.tree ≡ m.tree → n.slots.items ≡ slice_set m.slots.items p t
    → Put m n k t
wrote-at m n k p t sound at used tree slots =
    put-at m n k p t sound (inl at) (sound.fits k (ap is_some at)) used (subst (IsOrdered key_cmp) (sym tree) sound.ordered) (same-place m n k p at tree) slots

-- the same keys with the same slots
pub same-sound : (m n : Places) → IsSound m → n.tree.entries ≡ m.tree.entries → n.slots.items ≡ m.slots.items → IsOrdered key_cmp n.tree → IsSound n
same-sound m n sound entries slots order = record {
  ordered = order;
  fits = λ q h. sound.fits q (ap is_some (sym (gets q)) ∙ h);
  used = λ q r e. subst (λ (xs : List Slot). IsUsedAt xs r) (sym slots) (sound.used q r (sym (gets q) ∙ e));
  apart = λ q r x e f. sound.apart q r x (sym (gets q) ∙ e) (sym (gets r) ∙ f);
}
  where
    gets : (q : Key) → get key_cmp n.tree q ≡ get key_cmp m.tree q
    gets q = ap (λ (es : List (Key × ℕ)). lookup (is_at (key_cmp q)) es) entries

pub same-slots : (m n : Places) → n.tree.entries ≡ m.tree.entries → n.slots.items ≡ m.slots.items → (q : Key) → slot_at n q ≡ slot_at m q
same-slots m n entries slots q =
    ap (λ (es : List (Key × ℕ)). option_and_then (slice_get n.slots.items) (lookup (is_at (key_cmp q)) es)) entries
    ∙ ap (λ xs. option_and_then (slice_get xs) (get key_cmp m.tree q)) slots

-- ---- what is left to resolve, once one slot is

-- the tree and the list are the same
pub same-resolving : (m n : Places) → n.tree ≡ m.tree → n.slots.items ≡ m.slots.items → (q : Key) (r : ℕ) → IsResolving m q r → IsResolving n q r
same-resolving m n tree slots q r (inl e) = inl (ap (λ x. get key_cmp x q) tree ∙ e)
same-resolving m n tree slots q r (inr v) = inr (ap (λ x. get key_cmp x q) tree ∙ v.0, subst (λ (xs : List Slot). IsVacantAt xs r) (sym slots) v.1)

pub wrote-resolving : (m n : Places) (p : ℕ) (s t : Slot) → slice_get m.slots.items p ≡ Some s → is_vacant s ≡ false → n.tree ≡ m.tree → n.slots.items ≡ slice_set m.slots.items p t
    → (q : Key) (r : ℕ) → IsResolving m q r → IsResolving n q r
wrote-resolving m n p s t at used tree slots q r (inl e) = inl (ap (λ x. get key_cmp x q) tree ∙ e)
wrote-resolving m n p s t at used tree slots q r (inr v) =
    inr (ap (λ x. get key_cmp x q) tree ∙ v.0, (v.1.0, ap (λ xs. slice_get xs r) slots ∙ slice_get-set_other m.slots.items p r t other ∙ v.1.1, v.1.2))
  where
    other : p ≡ r → ⊥
    other e = used-not_vacant m.slots.items r (s, ap (slice_get m.slots.items) (sym e) ∙ at, used) v.1

vacant-place : (m n : Places) (k : Key) (p : ℕ) (t : Slot) → IsSound m → get key_cmp m.tree k ≡ Some p → is_vacant t ≡ true
    → n.slots.items ≡ slice_set m.slots.items p t → IsVacantAt n.slots.items p
vacant-place m n k p t sound at vacant slots =
    let u = sound.used k p at in
    (t, ap (λ xs. slice_get xs p) slots ∙ slice_get-set_same m.slots.items p u.0 t u.1, vacant)

pub removed-resolving : (m n : Places) (k : Key) (p : ℕ) (t : Slot) → IsSound m → get key_cmp m.tree k ≡ Some p → is_vacant t ≡ true → HasPlace m n k None
    → n.slots.items ≡ slice_set m.slots.items p t
    → (q : Key) (r : ℕ) → IsResolving m q r → IsResolving n q r
removed-resolving m n k p t sound at vacant gets slots q r (inl e) =
    ⊎_elim
    (λ (here : same_key k q ≡ true).
    let same : Some p ≡ Some r = sym at ∙ ap (get key_cmp m.tree) (same_key-to k q here) ∙ e in
    let one : p ≡ r = cc in
    inr (place-here m n k None gets q here, subst (IsVacantAt n.slots.items) one (vacant-place m n k p t sound at vacant slots)))
    (λ (off : same_key k q ≡ false). inl (place-off m n k None gets q off ∙ e))
    (cases_Bool (same_key k q))
removed-resolving m n k p t sound at vacant gets slots q r (inr v) =
    inr (
      ⊎_elim
          (λ (here : same_key k q ≡ true). place-here m n k None gets q here)
          (λ (off : same_key k q ≡ false). place-off m n k None gets q off ∙ v.0)
          (cases_Bool (same_key k q)),
      ⊎_elim
          (λ (one : p ≡ r). subst (IsVacantAt n.slots.items) one (vacant-place m n k p t sound at vacant slots))
          (λ (other : p ≡ r → ⊥). (v.1.0, ap (λ xs. slice_get xs r) slots ∙ slice_get-set_other m.slots.items p r t other ∙ v.1.1, v.1.2))
          (cases_eq p r),
    )
