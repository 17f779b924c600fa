-- What begins with no mark is no ledger's text.
use Rattle.std.proofs.Common.{◌≡◌, ℕ, ◌≤◌, ◌<◌, ◌⊎◌, List, [], ◌++◌, length, take, arith, sym, ap, ◌∙◌, subst, append-nil, take_all, length-take-le, Option, Some, None, IfSome, inl, inr}
use Rattle.std.proofs.Math.Nat.{eq-or-lt_of_le}
use Rattle.std.proofs.Math.Seq.{take-append_seam, take-length}
use Rattle.std.specs.Io.KnownBytes.{Consumes, IsAtEnd}
use Rattle.mv_saved_text.specs.Loading.{FailsLoad}
use Rattle.mv_saved_text.specs.Loading.FailsLoad.{no_head}
use Rattle.mv_saved_text.specs.SavedText.{Form, First, Second, form_byte}
use Rattle.mv_commands.specs.Marks.{IsMark, mark}

is_marked : (form : Form) (bytes : List ℕ) → bytes ≡ mark (form_byte form) → IsMark bytes
is_marked First bytes e = inl e
is_marked Second bytes e = inr e

-- a text whose first four bytes are no mark has no head
pub fails-unmarked : (xs : List ℕ) → ¬ IsMark (take 4 xs) → FailsLoad xs 1
fails-unmarked xs unmarked = no_head (λ form runs offers h. unmarked (is_marked form (take 4 xs) (ap (take 4) h.text)))

-- what was read of a buffer of four bytes is what there was at first: all four, or all there is
front-whole : (n : ℕ) (front ys : List ℕ) → length front ≡ 4 → (n ≡ length front) ⊎ ((n < length front) × (ys ≡ [])) → take 4 (take n front ++ ys) ≡ take n front
front-whole n front ys four (inl all) =
    let whole : take n front ≡ front = ap (λ k. take k front) all ∙ take-length front in
    ap (λ l. take 4 (l ++ ys)) whole ∙ ap (λ k. take k (front ++ ys)) (sym four) ∙ take-append_seam front ys ∙ sym whole
front-whole n front ys four (inr p) =
    let short : length (take n front) ≤ 4 = omega (arith, length-take-le n front (omega (arith, p.0)), four, p.0) in
    ap (λ l. take 4 (take n front ++ l)) p.1 ∙ ap (take 4) (append-nil (take n front)) ∙ take_all 4 (take n front) short

front-cases : (n : ℕ) (front ys : List ℕ) → (n ≡ length front) ⊎ (n < length front) → (n < length front → ys ≡ []) → (n ≡ length front) ⊎ ((n < length front) × (ys ≡ []))
front-cases n front ys (inl all) end = inl all
front-cases n front ys (inr few) end = inr (few, end few)

-- where these are no mark, it is refused
pub unmarked-fails : (n : ℕ) (front : List ℕ) (given left : Option (List ℕ)) → length front ≡ 4 → n ≤ length front
    → Consumes given left (take n front) → (n < length front → IsAtEnd left) → ¬ IsMark (take n front) → IfSome given (λ xs. FailsLoad xs 1)
unmarked-fails n front None left four within taken end unmarked = tt
unmarked-fails n front (Some xs) None four within taken end unmarked = absurd taken
unmarked-fails n front (Some xs) (Some ys) four within taken end unmarked =
    let whole : take 4 xs ≡ take n front = ap (take 4) taken ∙ front-whole n front ys four (front-cases n front ys (eq-or-lt_of_le within) end) in
    fails-unmarked xs (subst (λ l. ¬ IsMark l) (sym whole) unmarked)
