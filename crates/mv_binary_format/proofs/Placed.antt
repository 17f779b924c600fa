-- Contents taken one after another, as a loop does.
use Rattle.mv_binary_format.proofs.Common.{[], ℕ, ◌++◌, ◌+◌, ◌<◌, ◌∙◌, ◌∷◌, ◌≡◌, ◌≤◌, Bool, List, None, Some, ap, arith, inl, inr, length, refl, suc, sym, cases_Bool, le-leb, append-nil}
use Rattle.mv_binary_format.proofs.Common.{none-some, find, Read, bytes_from, Header, Table, begins_at, contents_from, without}
use Rattle.std.proofs.lemmas.Bool.{lt-leb}
use Rattle.mv_binary_format.proofs.Loops.{with_front, regroup}

-- one less is left
pub length-without : {A : Type 0} (p : A → Bool) (xs : List A) (x : A) → find p xs ≡ Some x → length xs ≡ suc (length (without p xs))
length-without p [] x e = absurd (none-some x e)
length-without p (y ∷ ys) x e =
    elim (cases_Bool (p y)) [
      | inl h ↦ rw h refl
      | inr h ↦ rw h (ap suc (length-without p ys x (rw h at e)))
    ]

-- all headers from this offset
abbrev pub placed_from : ℕ → List Header → List ℕ → Read (List Table)
placed_from offset hs bytes = contents_from (length hs) offset hs bytes

-- one more content
pub placed-next : (front : List Table) (hs : List Header) (offset : ℕ) (bytes : List ℕ) (first : Header) (content rest : List ℕ) (total : Read (List Table))
    → find (begins_at offset) hs ≡ Some first → offset + first.length ≤ 65536 → bytes_from first.length bytes ≡ Some (content, rest)
    → with_front front (placed_from offset hs bytes) ≡ total
    → with_front (front ++ record { kind = first.kind; content = content } ∷ []) (placed_from (offset + first.length) (without (begins_at offset) hs) rest) ≡ total
unfolding contents_from
placed-next front [] offset bytes first content rest total f le b so_far = absurd (none-some first f)
placed-next front (h ∷ hs) offset bytes first content rest total f le b so_far =
    let l : length (h ∷ hs) ≡ suc (length (without (begins_at offset) (h ∷ hs))) = length-without (begins_at offset) (h ∷ hs) first f in
    let n : length hs ≡ length (without (begins_at offset) (h ∷ hs)) = omega arith in
    let t : Table = record { kind = first.kind; content = content } in
    let one : with_front front (placed_from offset (h ∷ hs) bytes) ≡ with_front (front ++ t ∷ []) (placed_from (offset + first.length) (without (begins_at offset) (h ∷ hs)) rest) =
    rw (f, le-leb (offset + first.length) 65536 le, b, n) (regroup front t (placed_from (offset + first.length) (without (begins_at offset) (h ∷ hs)) rest)) in
    sym one ∙ so_far

-- none begins here
pub placed-gap : (front : List Table) (hs : List Header) (offset : ℕ) (bytes : List ℕ) (total : Read (List Table)) → (hs ≡ [] → ⊥) → find (begins_at offset) hs ≡ None
    → with_front front (placed_from offset hs bytes) ≡ total → total ≡ None
unfolding contents_from
placed-gap front [] offset bytes total some f so_far = absurd (some refl)
placed-gap front (h ∷ hs) offset bytes total some f so_far =
    let one : with_front front (placed_from offset (h ∷ hs) bytes) ≡ None = rw f refl in
    sym so_far ∙ one

-- it ends too late
pub placed-beyond : (front : List Table) (hs : List Header) (offset : ℕ) (bytes : List ℕ) (first : Header) (total : Read (List Table))
    → find (begins_at offset) hs ≡ Some first → 65536 < offset + first.length
    → with_front front (placed_from offset hs bytes) ≡ total → total ≡ None
unfolding contents_from
placed-beyond front [] offset bytes first total f lt so_far = absurd (none-some first f)
placed-beyond front (h ∷ hs) offset bytes first total f lt so_far =
    let one : with_front front (placed_from offset (h ∷ hs) bytes) ≡ None = rw (f, lt-leb (offset + first.length) 65536 lt) refl in
    sym so_far ∙ one

-- the bytes end before it does
pub placed-cut : (front : List Table) (hs : List Header) (offset : ℕ) (bytes : List ℕ) (first : Header) (total : Read (List Table))
    → find (begins_at offset) hs ≡ Some first → offset + first.length ≤ 65536
    → bytes_from first.length bytes ≡ None → with_front front (placed_from offset hs bytes) ≡ total → total ≡ None
unfolding contents_from
placed-cut front [] offset bytes first total f le b so_far = absurd (none-some first f)
placed-cut front (h ∷ hs) offset bytes first total f le b so_far =
    let one : with_front front (placed_from offset (h ∷ hs) bytes) ≡ None = rw (f, le-leb (offset + first.length) 65536 le, b) refl in
    sym so_far ∙ one

-- no header is left
pub placed-done : (front : List Table) (hs : List Header) (offset : ℕ) (bytes : List ℕ) (total : Read (List Table)) → hs ≡ []
    → with_front front (placed_from offset hs bytes) ≡ total → total ≡ Some (front, bytes)
unfolding contents_from
placed-done front hs offset bytes total none so_far =
    let one : with_front front (placed_from offset hs bytes) ≡ Some (front, bytes) = rw none (ap (λ (ts : List Table). Some (ts, bytes)) (append-nil front)) in
    sym so_far ∙ one
