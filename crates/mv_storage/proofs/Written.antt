-- Words over others from a place on, and what a loan of them leaves.
use Rattle.mv_storage.proofs.Common.{[], ℕ, ◌++◌, ◌∙◌, ◌∷◌, ◌≡◌, ◌≤◌, List, None, Option, Some, ap, arith, cond, length, refl, sym, take, true}
use Rattle.std.proofs.Common.{◌+◌, append-nil, append_assoc, drop, nat_le}
use Rattle.std.specs.Prelude.{IfSome}
use Rattle.std.proofs.lemmas.List.{length-take, length-drop, length-append}
use Rattle.mv_storage.proofs.Common.{Key, FlatEntry, words_under, with_words}
use Rattle.mv_storage.specs.WordLists.{laid_over}
use Rattle.mv_storage.specs.Map.{Ascends, overwritten, written}
use lib.Seq.{take_at, drop-drop}
use Rattle.mv_storage.proofs.Common.{same_key}
use Rattle.mv_storage.proofs.Maps.{entries_from_words, words_under-with_words, Ascends-with_words}
use Rattle.mv_storage.proofs.Shown.{same-at}
use Rattle.std.proofs.lemmas.List.{take-append-drop}
use Rattle.std.proofs.lemmas.Bool.{le-leb}

-- words that fit stand in place of as many
pub laid-fits : (from : ℕ) (new old : List ℕ) → from + length new ≤ length old → laid_over from new old ≡ take from old ++ new ++ drop (from + length new) old
laid-fits from new old fits =
    let all : List ℕ = take from old ++ (new ++ drop (length new) (drop from old)) in
    let long : length all ≡ length old = omega (arith, length-append (take from old) (new ++ drop (length new) (drop from old)), length-append new (drop (length new) (drop from old)), length-take from old, length-drop (length new) (drop from old), length-drop from old) in
    let laid : laid_over from new old ≡ all = take_at all (drop (length all) old) (length old) long in
    laid ∙ ap (λ x. take from old ++ (new ++ x)) (drop-drop (length new) from old) ∙ sym (append_assoc (take from old) new (drop (from + length new) old))

pub written-overwritten : (storage : List FlatEntry) (key : Key) (from width : ℕ) (words : List ℕ) → IfSome (words_under storage key) (λ old. from + width ≤ length old) → length words ≡ width
    → written storage key from words ≡ overwritten storage key from words
written-overwritten storage key from width words fits long = by (words_under storage key) refl fits
  where
    by : (o : Option (List ℕ)) → words_under storage key ≡ o → IfSome o (λ old. from + width ≤ length old) → written storage key from words ≡ overwritten storage key from words
    by None e h = rw e refl
    by (Some old) e h =
        let room : nat_le (from + length words) (length old) ≡ true = le-leb (from + length words) (length old) (omega (arith, h, long)) in
        rw (e, room) (ap (with_words storage key) (laid-fits from words old (omega (arith, h, long))))

-- the same words under a key leave the storage as it is
with_words-same : (es : List FlatEntry) (key : Key) (words : List ℕ) → Ascends es → words_under es key ≡ Some words → with_words es key words ≡ es
with_words-same es key words ascends is =
    entries_from_words (with_words es key words) es (Ascends-with_words es key words ascends) ascends
    (λ q. words_under-with_words es key words q ∙ ap (λ o. cond (same_key key q) o (words_under es q)) (sym is) ∙ same-at (words_under es) key q)

-- no words in place of none leave it as it is
pub none-overwritten : (storage : List FlatEntry) (key : Key) (from width : ℕ) (words : List ℕ) → Ascends storage → IfSome (words_under storage key) (λ old. from + width ≤ length old) → length words ≡ width → width ≡ 0
    → overwritten storage key from words ≡ storage
none-overwritten storage key from width words ascends fits long none = by (words_under storage key) refl fits
  where
    nothing : words ≡ []
    nothing = no_words words (long ∙ none)
      where
        no_words : (ws : List ℕ) → length ws ≡ 0 → ws ≡ []
        no_words [] e = refl
        no_words (w ∷ ws) e = absurd (omega (arith, e))

    by : (o : Option (List ℕ)) → words_under storage key ≡ o → IfSome o (λ old. from + width ≤ length old) → overwritten storage key from words ≡ storage
    by None e h = rw e refl
    by (Some old) e h =
        let room : nat_le (from + length words) (length old) ≡ true = le-leb (from + length words) (length old) (omega (arith, h, long)) in
        let off : from + 0 ≡ from = omega arith in
        let whole : take from old ++ words ++ drop (from + length words) old ≡ old = ap (λ (ws : List ℕ). take from old ++ ws ++ drop (from + length ws) old) nothing ∙ ap (λ (xs : List ℕ). xs ++ drop (from + 0) old) (append-nil (take from old)) ∙ ap (λ (k : ℕ). take from old ++ drop k old) off ∙ take-append-drop from old in
        rw (e, room, whole) (with_words-same storage key old ascends e)
