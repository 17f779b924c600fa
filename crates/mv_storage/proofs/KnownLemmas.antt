-- The keys that are remembered with their places.
use Rattle.mv_storage.proofs.Common.{ℕ, ⊎_elim, ◌∙◌, ◌≡◌, List, None, Option, Some, ap, cond, false, slice_get, sym, true, get, key_cmp, same_key, Key, Places}
use Rattle.std.proofs.lemmas.Bool.{cases_Bool}
use Rattle.std.specs.Prelude.{MatchOption}
use Rattle.std.specs.BTreeMap.{BTreeMap}
use Rattle.mv_storage.specs.Slots.{IsRemembered}
use Rattle.mv_storage.proofs.Keys.{same_key-to}
use Rattle.mv_storage.proofs.PlaceLemmas.{HasPlace}

pub recalled-at : (tree : BTreeMap Key ℕ) (lines : List (Option (Key × ℕ))) (i : ℕ) (line : Option (Key × ℕ)) (key : Key) (r : Option ℕ) → IsRemembered tree lines → slice_get lines i ≡ Some line
    → MatchOption r (Unit {0}) (λ p. line ≡ Some (key, p)) → MatchOption r (Unit {0}) (λ p. get key_cmp tree key ≡ Some p)
recalled-at tree lines i line key None had at is = tt
recalled-at tree lines i line key (Some p) had at is = had i (key, p) (at ∙ ap Some is)

pub remembered-kept : (a b : BTreeMap Key ℕ) (lines : List (Option (Key × ℕ))) → ((q : Key) (p : ℕ) → get key_cmp a q ≡ Some p → get key_cmp b q ≡ Some p) → IsRemembered a lines → IsRemembered b lines
remembered-kept a b lines keep had i t e = keep t.0 t.1 (had i t e)

-- a key that had no place has one
pub kept-added : (m n : Places) (k : Key) (p : ℕ) → get key_cmp m.tree k ≡ None → HasPlace m n k (Some p) → (q : Key) (place : ℕ) → get key_cmp m.tree q ≡ Some place → get key_cmp n.tree q ≡ Some place
kept-added m n k p none gets q place e =
    ⊎_elim
    (λ (here : same_key k q ≡ true). let b : None ≡ Some place = sym none ∙ ap (get key_cmp m.tree) (same_key-to k q here) ∙ e in cc)
    (λ (off : same_key k q ≡ false). gets q ∙ ap (λ b. cond b (Some p) (get key_cmp m.tree q)) off ∙ e)
    (cases_Bool (same_key k q))

-- a key keeps the place that it has
pub kept-same : (m n : Places) (k : Key) (p : ℕ) → get key_cmp m.tree k ≡ Some p → HasPlace m n k (Some p) → (q : Key) (place : ℕ) → get key_cmp m.tree q ≡ Some place → get key_cmp n.tree q ≡ Some place
kept-same m n k p at gets q place e =
    ⊎_elim
    (λ (here : same_key k q ≡ true). gets q ∙ ap (λ b. cond b (Some p) (get key_cmp m.tree q)) here ∙ sym at ∙ ap (get key_cmp m.tree) (same_key-to k q here) ∙ e)
    (λ (off : same_key k q ≡ false). gets q ∙ ap (λ b. cond b (Some p) (get key_cmp m.tree q)) off ∙ e)
    (cases_Bool (same_key k q))
