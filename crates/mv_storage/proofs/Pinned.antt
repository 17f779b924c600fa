-- Keys that keep their places.
use Rattle.mv_storage.proofs.Common.{ℕ, ⊎_elim, ◌∙◌, ◌≡◌, None, Some, ap, cond, false, refl, sym, true, get, Key, same_key, key_cmp, slot_at}
use Rattle.mv_storage.proofs.Common.{Places, Slot}
use Rattle.std.proofs.lemmas.Bool.{cases_Bool}
use Rattle.mv_storage.specs.Slots.{is_pinned, keeps_place, KeepsPinned}
use Rattle.mv_storage.proofs.Keys.{same_key-to}
use Rattle.mv_storage.proofs.PlaceLemmas.{HasAt, HasPlace}

-- each key that has a place has it still
abbrev pub KeepsPlaces : Places → Places → Type 0
KeepsPlaces m n = (q : Key) (place : ℕ) → get key_cmp m.tree q ≡ Some place → get key_cmp n.tree q ≡ Some place

pub keeps-tree : (m n : Places) → n.tree ≡ m.tree → KeepsPlaces m n
keeps-tree m n tree q place e = ap (λ x. get key_cmp x q) tree ∙ e

-- the slots are the same
pub keeps-same : (m n : Places) → ((q : Key) → slot_at n q ≡ slot_at m q) → KeepsPlaces m n → KeepsPinned m n
keeps-same m n same gets q place h = (gets q place h.0, ap keeps_place (same q) ∙ h.1)

-- a key's slot is another
pub keeps-at : (m n : Places) (k : Key) (s t : Slot) → slot_at m k ≡ Some s → HasAt m n k (Some t) → KeepsPlaces m n → (is_pinned s ≡ true → is_pinned t ≡ true) → KeepsPinned m n
keeps-at m n k s t is has gets keeps q place h = (
  gets q place h.0,
  ⊎_elim
      (λ (here : same_key k q ≡ true).
      let now : slot_at n q ≡ Some t = has q ∙ ap (λ b. cond b (Some t) (slot_at m q)) here in
      let was : slot_at m q ≡ Some s = ap (slot_at m) (sym (same_key-to k q here)) ∙ is in
      ap keeps_place now ∙ keeps (sym (ap keeps_place was) ∙ h.1))
      (λ (off : same_key k q ≡ false). ap keeps_place (has q ∙ ap (λ b. cond b (Some t) (slot_at m q)) off) ∙ h.1)
      (cases_Bool (same_key k q)),
)

-- a key without a slot has one
pub keeps-added : (m n : Places) (k : Key) (t : Slot) → slot_at m k ≡ None → HasAt m n k (Some t) → KeepsPlaces m n → KeepsPinned m n
keeps-added m n k t none has gets q place h = (
  gets q place h.0,
  ⊎_elim
      (λ (here : same_key k q ≡ true).
      let was : slot_at m q ≡ None = ap (slot_at m) (sym (same_key-to k q here)) ∙ none in
      let no : false ≡ true = sym (ap keeps_place was) ∙ h.1 in
      cc)
      (λ (off : same_key k q ≡ false). ap keeps_place (has q ∙ ap (λ b. cond b (Some t) (slot_at m q)) off) ∙ h.1)
      (cases_Bool (same_key k q)),
)

-- a key that doesn't keep its place is taken out
pub keeps-removed : (m n : Places) (k : Key) → keeps_place (slot_at m k) ≡ false → HasAt m n k None → HasPlace m n k None → KeepsPinned m n
keeps-removed m n k loose has gets q place h =
    ⊎_elim
    (λ (here : same_key k q ≡ true).
    let was : slot_at m q ≡ slot_at m k = ap (slot_at m) (sym (same_key-to k q here)) in
    let no : false ≡ true = sym loose ∙ sym (ap keeps_place was) ∙ h.1 in
    absurd (let n : ⊥ = cc in n))
    (λ (off : same_key k q ≡ false). (
      gets q ∙ ap (λ b. cond b None (get key_cmp m.tree q)) off ∙ h.0,
      ap keeps_place (has q ∙ ap (λ b. cond b None (slot_at m q)) off) ∙ h.1,
    ))
    (cases_Bool (same_key k q))

-- a key that gets the place that it has leaves all places as they are
pub same-places : (m n : Places) (k : Key) (p : ℕ) → get key_cmp m.tree k ≡ Some p → HasPlace m n k (Some p) → (q : Key) → get key_cmp n.tree q ≡ get key_cmp m.tree q
same-places m n k p at gets q =
    gets q
    ∙ ⊎_elim
    (λ (here : same_key k q ≡ true). rw here (sym at ∙ ap (get key_cmp m.tree) (same_key-to k q here)))
    (λ (off : same_key k q ≡ false). rw off refl)
    (cases_Bool (same_key k q))
