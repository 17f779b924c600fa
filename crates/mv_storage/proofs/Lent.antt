-- What places show once words of a slot that were lent are given back.
use Rattle.mv_storage.proofs.Common.{[], ℕ, ◌++◌, ◌∙◌, ◌∷◌, ◌≡◌, ◌≤◌, Bool, List, None, Option, Some, ap, arith, false, is_some, length, refl, slice_get, slice_index_or, subst, sym, take, true, with_item, get}
use Rattle.std.proofs.Common.{◌+◌, drop, suc, zero}
use Rattle.std.specs.Prelude.{IfSome, IfOk, OnErr, MatchOption, Result, Ok, Err, nat_lt, ◌&&◌, ◌<◌}
use Rattle.std.specs.declared.alloc.AllocError.{AllocError}
use Rattle.std.proofs.lemmas.Bool.{le-leb}
use Rattle.std.specs.Option.{option_map, option_map_or, option_and_then}
use Rattle.mv_storage.proofs.Common.{Key, FlatEntry, IsTracked, words_under, of_layer, layer_at, value_at, is_vacant, key_cmp, slot_at, Places, Slot, Committed, Current}
use Rattle.mv_storage.specs.declared.slot.Slot.TheVariants.{Vacant, Gone, Empty, One, Many, AddedOne, AddedMany, Changed}
use Rattle.mv_storage.specs.WordLists.{laid_over, piece}
use Rattle.mv_storage.proofs.Pieces.{piece-fits, piece-is}
use Rattle.mv_storage.specs.Map.{Layers, written, written_if}
use Rattle.mv_storage.specs.Slots.{is_pinned, IsOwn, IsOwnAt, KeepsPinned, ShowsSame, layers, written_at, written_slot}
use Rattle.mv_storage.specs.declared.slot.Layer.{Layer}
use Rattle.std.specs.BTreeMap.{IsOrdered}
use Rattle.mv_storage.proofs.Shown.{shown_of, shown-same, shown-with, words_under-shown}
use Rattle.mv_storage.proofs.Steps.{Wrote, wrote, layers-equal}

one-laid : (n : ℕ) (words : List ℕ) → slice_index_or words 0 n ∷ [] ≡ laid_over 0 words (n ∷ [])
one-laid n [] = refl
one-laid n (x ∷ xs) = refl

-- a slot with words over the run's own shows them, and nothing else of it changes
pub slot-current : (s : Slot) (from width : ℕ) (words : List ℕ) → IsOwn s → 1 ≤ width → IfSome (of_layer Current s) (λ old. from + width ≤ length old)
    → of_layer Current (written_slot s from words) ≡ option_map (laid_over from words) (of_layer Current s)
slot-current (Vacant next) from width words own wide fits = refl
slot-current Gone from width words own wide fits = refl
slot-current Empty from width words own wide fits = refl
slot-current (One n) from width words own wide fits = let e : false ≡ true = own.0 in cc
slot-current (Many v) from width words own wide fits = let e : false ≡ true = own.0 in cc
slot-current (AddedOne n) from width words own wide fits =
    let first : 0 ≡ from = omega (arith, fits, wide) in
    ap Some (one-laid n words ∙ ap (λ (i : ℕ). laid_over i words (n ∷ [])) first)
slot-current (AddedMany v) from width words own wide fits =
    let all : List ℕ = take from v.items ++ (words ++ drop (length words) (drop from v.items)) in
    ap (λ (n : ℕ). Some (take n (all ++ drop (length all) v.items))) v.ok.0
slot-current (Changed b) from width words own wide fits = refl

pub slot-committed : (s : Slot) (from : ℕ) (words : List ℕ) → of_layer Committed (written_slot s from words) ≡ of_layer Committed s
slot-committed (Vacant next) from words = refl
slot-committed Gone from words = refl
slot-committed Empty from words = refl
slot-committed (One n) from words = refl
slot-committed (Many v) from words = refl
slot-committed (AddedOne n) from words = refl
slot-committed (AddedMany v) from words = refl
slot-committed (Changed b) from words = refl

slot-used : (s : Slot) (from : ℕ) (words : List ℕ) → is_vacant (written_slot s from words) ≡ is_vacant s
slot-used (Vacant next) from words = refl
slot-used Gone from words = refl
slot-used Empty from words = refl
slot-used (One n) from words = refl
slot-used (Many v) from words = refl
slot-used (AddedOne n) from words = refl
slot-used (AddedMany v) from words = refl
slot-used (Changed b) from words = refl

slot-pinned : (s : Slot) (from : ℕ) (words : List ℕ) → is_pinned (written_slot s from words) ≡ is_pinned s
slot-pinned (Vacant next) from words = refl
slot-pinned Gone from words = refl
slot-pinned Empty from words = refl
slot-pinned (One n) from words = refl
slot-pinned (Many v) from words = refl
slot-pinned (AddedOne n) from words = refl
slot-pinned (AddedMany v) from words = refl
slot-pinned (Changed b) from words = refl

own-used : (s : Slot) → IsOwn s → is_vacant s ≡ false
own-used (Vacant next) own = let e : false ≡ true = own.0 in cc
own-used Gone own = refl
own-used Empty own = refl
own-used (One n) own = refl
own-used (Many v) own = refl
own-used (AddedOne n) own = refl
own-used (AddedMany v) own = refl
own-used (Changed b) own = refl

index-read : (xs : List Slot) (i : ℕ) (s : Slot) → slice_get xs i ≡ Some s → s ≡ slice_index_or xs i s
index-read [] i s e = refl
index-read (x ∷ xs) zero s e = cc
index-read (x ∷ xs) (suc i) s e = index-read xs i s e

-- places with words over those of a slot that is the run's own
abbrev pub with_slot : Places → ℕ → Slot → Places
with_slot m p t = record { tree = m.tree; slots = with_item m.slots p t; nothing = m.nothing; free = m.free }

module _ (m : Places) (touched : List (Key × ℕ)) (had : IsTracked m touched) (key : Key) (p : ℕ) (at : get key_cmp m.tree key ≡ Some p) (s : Slot) (there : slice_get m.slots.items p ≡ Some s) (own : IsOwn s)
    (from width : ℕ) (wide : 1 ≤ width) (fits : IfSome (of_layer Current s) (λ old. from + width ≤ length old)) (words : List ℕ) where
  abbrev pub n : Places
  n = with_slot m p (written_slot s from words)

  w : Wrote m n key p s (written_slot s from words)
  w = wrote m n key p s (written_slot s from words) had.sound (sym at) (index-read m.slots.items p s there) (slot-used s from words ∙ own-used s own) refl refl

  pub given-tracked : IsTracked n touched
  given-tracked = w.tracked s touched touched (index-read m.slots.items p s there) had (λ q h. h) (λ kept. let e : true ≡ false = sym own.0 ∙ kept in cc) (λ tree is placed. placed)

  pub given-pinned : KeepsPinned m n
  given-pinned = w.pinned (λ h. slot-pinned s from words ∙ h)

  by-value : (o : Option (List ℕ)) → of_layer Current s ≡ o → is_some o ≡ true → shown_of Current n ≡ written (shown_of Current m) key from words
  by-value None e h = cc
  by-value (Some old) e h =
      let under : words_under (shown_of Current m) key ≡ Some old = words_under-shown Current m key had.sound.ordered ∙ sym (w.was Current) ∙ e in
      let now : of_layer Current (written_slot s from words) ≡ Some (laid_over from words old) = slot-current s from width words own wide fits ∙ ap (option_map (laid_over from words)) e in
      rw under (shown-with Current m n key (laid_over from words old) had.sound.ordered given-tracked.sound.ordered (w.shows Current (Some (laid_over from words old)) now))

  pub given-layers : layers n ≡ record (layers m) { current = written (layers m).current key from words }
  given-layers = layers-equal (layers n) (record (layers m) { current = written (layers m).current key from words })
      (shown-same Committed Committed m n had.sound.ordered given-tracked.sound.ordered (w.same Committed (slot-committed s from words)))
      (by-value (of_layer Current s) refl own.1) refl

-- ---- what opening leaves, at the place that was found or at none

-- how the place was found
abbrev pub Found : Places → Key → ℕ → Option ℕ → Bool → Result (Option ℕ) AllocError → Type 0
Found m key width place lent own =
    IfOk own (λ found. IfSome found (IsOwnAt m key))
    × MatchOption place (nat_lt 0 width ≡ true → lent ≡ false) (λ p. (own ≡ Ok (Some p)) × (1 ≤ width) × (lent ≡ true))

get-within : (xs : List Slot) (i : ℕ) (s : Slot) → slice_get xs i ≡ Some s → i < length xs
get-within [] i s e = cc
get-within (x ∷ xs) zero s e = omega arith
get-within (x ∷ xs) (suc i) s e = omega (arith, get-within xs i s e)

module _ (m₀ m : Places) (touched : List (Key × ℕ)) (had : IsTracked m touched) (ordered : IsOrdered key_cmp m₀.tree) (same : (layer : Layer) → ShowsSame layer m₀ m) (key : Key) (from width : ℕ)
    (own : Result (Option ℕ) AllocError) (there : IfOk own (λ found. is_some found ≡ is_some (option_and_then (piece from width) (value_at Current m₀ key)))) where
  layers-kept : layers m ≡ layers m₀
  layers-kept = layers-equal (layers m) (layers m₀) (shown-same Committed Committed m₀ m ordered had.sound.ordered (same Committed)) (shown-same Current Current m₀ m ordered had.sound.ordered (same Current)) refl

  owned : (p : ℕ) → IfOk own (λ found. IfSome found (IsOwnAt m key)) → own ≡ Ok (Some p) → IsOwnAt m key p
  owned p h e = subst (λ o. IfOk o (λ found. IfSome found (IsOwnAt m key))) e h

  -- as many words as are asked for are there
  fits : (p : ℕ) → own ≡ Ok (Some p) → IfSome (words_under (layers m₀).current key) (λ old. from + width ≤ length old)
  fits p e =
      let found : is_some (Some p) ≡ is_some (option_and_then (piece from width) (value_at Current m₀ key)) =
      subst (λ o. IfOk o (λ found. is_some found ≡ is_some (option_and_then (piece from width) (value_at Current m₀ key)))) e there in
      subst (λ (o : Option (List ℕ)). IfSome o (λ old. from + width ≤ length old)) (sym (words_under-shown Current m₀ key ordered)) (piece-fits from width (value_at Current m₀ key) (sym found))

  under : (p : ℕ) (s : Slot) → get key_cmp m.tree key ≡ Some p → slice_get m.slots.items p ≡ Some s → of_layer Current s ≡ words_under (layers m₀).current key
  under p s at there =
      let here : slot_at m key ≡ Some s = ap (λ x. option_and_then (slice_get m.slots.items) x) at ∙ there in
      ap (layer_at Current) (sym here) ∙ same Current key ∙ sym (words_under-shown Current m₀ key ordered)

  fitting : (p : ℕ) (s : Slot) → own ≡ Ok (Some p) → get key_cmp m.tree key ≡ Some p → slice_get m.slots.items p ≡ Some s → IfSome (of_layer Current s) (λ old. from + width ≤ length old)
  fitting p s found at stands = subst (λ (o : Option (List ℕ)). IfSome o (λ old. from + width ≤ length old)) (sym (under p s at stands)) (fits p found)

  -- the words there can be lent
  pub can-lend : (place : Option ℕ) (lent : Bool) → Found m key width place lent own
      → IfSome place (λ p. (1 ≤ width) × (p < length m.slots.items) × ((s : Slot) → slice_get m.slots.items p ≡ Some s → IsOwn s × IfSome (of_layer Current s) (λ old. from + width ≤ length old)))
  can-lend None lent f = tt
  can-lend (Some p) lent f =
      let o = owned p f.0 f.1.0 in
      (f.1.1, get-within m.slots.items p o.1.0 o.1.1, λ s e. (own-of o.1.0 s (sym o.1.1 ∙ e) o.1.2, fitting p s f.1.0 o.0 e))
    where
      own-of : (s t : Slot) → Some s ≡ Some t → IsOwn s → IsOwn t
      own-of s t e h = let same : s ≡ t = cc in subst IsOwn same h

  no-words : (lent : Bool) (wide : Bool) → (wide ≡ true → lent ≡ false) → (lent && wide) ≡ false
  no-words true true h = h refl
  no-words true false h = refl
  no-words false wide h = refl

  -- what they leave once they are given back
  pub opened-layers : (place : Option ℕ) (lent : Bool) → Found m key width place lent own → (words : List ℕ)
      → layers (written_at m place from words) ≡ written_if lent width (layers m₀) key from words
  opened-layers None lent f words = rw (no-words lent (nat_lt 0 width) f.1) layers-kept
  opened-layers (Some p) lent f words =
      let o = owned p f.0 f.1.0 in
      let wide : nat_lt 0 width ≡ true = le-leb 1 width f.1.1 in
      rw (o.1.1, f.1.2, wide)
      (given-layers m touched had key p o.0 o.1.0 o.1.1 o.1.2 from width f.1.1 (fitting p o.1.0 f.1.0 o.0 o.1.1) words
      ∙ ap (λ (l : Layers). as_layers l.committed (written l.current key from words) l.marks) layers-kept)
    where
      as_layers : List FlatEntry → List FlatEntry → List (List FlatEntry) → Layers
      as_layers x y z = record { committed = x; current = y; marks = z }

  pub opened-pinned : (place : Option ℕ) (lent : Bool) → Found m key width place lent own → (words : List ℕ)
      → KeepsPinned m (written_at m place from words)
  opened-pinned None lent f words = λ q place h. h
  opened-pinned (Some p) lent f words =
      let o = owned p f.0 f.1.0 in
      rw o.1.1 (given-pinned m touched had key p o.0 o.1.0 o.1.1 o.1.2 from width f.1.1 (fitting p o.1.0 f.1.0 o.0 o.1.1) words)

  pub opened-tracked : (place : Option ℕ) (lent : Bool) → Found m key width place lent own → (words : List ℕ)
      → IsTracked (written_at m place from words) touched
  opened-tracked None lent f words = record { sound = record { ordered = had.sound.ordered; fits = had.sound.fits; used = had.sound.used; apart = had.sound.apart }; noted = had.noted; placed = had.placed }
  opened-tracked (Some p) lent f words =
      let o = owned p f.0 f.1.0 in
      rw o.1.1 (given-tracked m touched had key p o.0 o.1.0 o.1.1 o.1.2 from width f.1.1 (fitting p o.1.0 f.1.0 o.0 o.1.1) words)

  pub opened-tree : (place : Option ℕ) (words : List ℕ) → (written_at m place from words).tree ≡ m.tree
  opened-tree None words = refl
  opened-tree (Some p) words = by (slice_get m.slots.items p)
    where
      by : (o : Option Slot) → (option_map_or (λ s. with_slot m p (written_slot s from words)) o m).tree ≡ m.tree
      by None = refl
      by (Some s) = refl

  -- which words they are
  pub opened-words : (place : Option ℕ) (lent : Bool) → Found m key width place lent own → (now : List ℕ) → (lent ≡ true → (p : ℕ) × (own ≡ Ok (Some p)))
      → IfSome place (λ p. Some now ≡ option_map (λ old. take width (drop from old)) (option_and_then (of_layer Current) (slice_get m.slots.items p))) → (place ≡ None → now ≡ [])
      → lent ≡ true → Some now ≡ option_and_then (piece from width) (words_under (layers m₀).current key)
  opened-words (Some p) lent f now found words none is =
      let o = owned p f.0 f.1.0 in
      words ∙ ap (λ x. option_map (λ (old : List ℕ). take width (drop from old)) (option_and_then (of_layer Current) x)) o.1.1 ∙ ap (option_map (λ (old : List ℕ). take width (drop from old))) (under p o.1.0 o.0 o.1.1)
      ∙ sym (piece-is from width (words_under (layers m₀).current key) (fits p f.1.0))
  opened-words None lent f now found words none is =
      let had-place = found is in
      let o = owned had-place.0 f.0 had-place.1 in
      let narrow : width ≡ 0 = thin width (λ wide. let e : true ≡ false = sym is ∙ f.1 wide in cc) in
      ap Some (none refl) ∙ empty (of_layer Current o.1.0) narrow o.1.2.1 ∙ ap (option_map (λ (old : List ℕ). take width (drop from old))) (under had-place.0 o.1.0 o.0 o.1.1)
      ∙ sym (piece-is from width (words_under (layers m₀).current key) (fits had-place.0 had-place.1))
    where
      thin : (n : ℕ) → (nat_lt 0 n ≡ true → ⊥) → n ≡ 0
      thin zero h = refl
      thin (suc n) h = absurd (h (le-leb 1 (suc n) (omega arith)))

      empty : (x : Option (List ℕ)) → width ≡ 0 → is_some x ≡ true → Some [] ≡ option_map (λ (old : List ℕ). take width (drop from old)) x
      empty None e h = cc
      empty (Some old) e h = rw e refl

-- too few are there where that is what was found
pub none-there : (m₀ : Places) (key : Key) (from width : ℕ) (ordered : IsOrdered key_cmp m₀.tree) (own : Result (Option ℕ) AllocError) (there : Bool)
    → IfOk own (λ found. is_some found ≡ is_some (option_and_then (piece from width) (value_at Current m₀ key))) → IfOk own (λ found. there ≡ is_some found) → OnErr own (there ≡ true)
    → there ≡ false → option_and_then (piece from width) (words_under (layers m₀).current key) ≡ None
none-there m₀ key from width ordered (Ok found) there none is err e =
    ap (option_and_then (piece from width)) (words_under-shown Current m₀ key ordered) ∙ no_value (option_and_then (piece from width) (value_at Current m₀ key)) (sym none ∙ sym is ∙ e)
  where
    no_value : (o : Option (List ℕ)) → is_some o ≡ false → o ≡ None
    no_value None h = refl
    no_value (Some x) h = cc
none-there m₀ key from width ordered (Err x) there none is err e = let f : true ≡ false = sym err ∙ e in cc
