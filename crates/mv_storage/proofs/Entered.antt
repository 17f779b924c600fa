-- A key that is entered with the place that it has.
use Rattle.mv_storage.proofs.Common.{ℕ, ◌∙◌, ◌≡◌, List, Some, ap, inl, is_some, slice_get, sym, IsOrdered, get, option_and_then, Key, key_cmp, slot_at, IsSound, IsTracked, Places}
use Rattle.mv_storage.proofs.PlaceLemmas.{HasPlace, Put, put-at, slice_set-read}
use Rattle.mv_storage.proofs.Pinned.{KeepsPlaces, same-places}
use Rattle.mv_storage.proofs.Steps.{placed-kept, tracked-same}

-- nothing is another
pub record Entered (m n : Places) (touched : List (Key × ℕ)) : Type 0 where
  pub tracked : IsTracked n touched
  pub same : (q : Key) → slot_at n q ≡ slot_at m q
  pub keeps : KeepsPlaces m n

pub entered : (m v n : Places) (k : Key) (p : ℕ) (touched : List (Key × ℕ)) → IsTracked m touched → IsSound v → ((q : Key) → slot_at v q ≡ slot_at m q) → v.tree ≡ m.tree
    → get key_cmp v.tree k ≡ Some p → IsOrdered key_cmp n.tree → HasPlace v n k (Some p) → n.slots.items ≡ v.slots.items → Entered m n touched
entered m v n k p touched had sound showed tree at order gets slots = record {
  tracked = tracked-same m n touched touched had put.sound same (λ q h. h) (placed-kept m.tree n.tree touched keeps had.placed);
  same = same;
  keeps = keeps;
}
  where
    keeps : KeepsPlaces m n
    keeps q place e = same-places v n k p at gets q ∙ ap (λ x. get key_cmp x q) tree ∙ e

    same : (q : Key) → slot_at n q ≡ slot_at m q
    same q =
        ap (λ xs. option_and_then (slice_get xs) (get key_cmp n.tree q)) slots
        ∙ ap (λ x. option_and_then (slice_get v.slots.items) x) (same-places v n k p at gets q) ∙ showed q

    put : Put v n k (sound.used k p at).0
    put =
        let u = sound.used k p at in
        put-at v n k p u.0 sound (inl at) (sound.fits k (ap is_some at)) u.2 order gets (slots ∙ sym (slice_set-read v.slots.items p u.0 u.1))
