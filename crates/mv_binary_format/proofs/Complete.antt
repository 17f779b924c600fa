-- What stands as a text is read.
use Rattle.mv_binary_format.proofs.Common.{[], ℕ, ◌&&◌, ◌++◌, ◌+◌, ◌<◌, ◌==◌, ◌^◌, ◌∙◌, ◌∷◌, ◌≡◌, ◌≤◌, Bool, List, Some, ap, append_assoc, arith, length, length-append, lit<, nat_le, not}
use Rattle.mv_binary_format.proofs.Common.{refl, subst, suc, true, and_from, and_parts, eq-eqb, eqb-true, le-leb, leb-true, then_some, flat_map, list_all, StandsByForm, number_from, uleb}
use Rattle.mv_binary_format.proofs.Common.{counted, AreBytes, Read, bytes_from, counted_from, entries_from, Header, Table, header_text, headers_from, begins_at, contents_from, header_from}
use Rattle.mv_binary_format.proofs.Common.{without}
use Rattle.std.proofs.Math.Seq.{take-append_seam, drop-append_seam}
use Rattle.std.proofs.lemmas.Bool.{ltb-true, ne_eqb}
use Rattle.mv_binary_format.proofs.Sums.{SameSums, Tells, found-alone, empty-SameSums, length-SameSums}
use Rattle.mv_binary_format.proofs.Placed.{length-without}
use Rattle.mv_binary_format.proofs.Sound.{rest-bytes, bytes-behind, has_bytes, header_fits}

-- a header that may stand in a module, with numbers that may be written
abbrev pub header_ok : Header → Bool
header_ok h = header_fits h && (nat_le h.offset 65536 && nat_le h.length 65536)

-- a text that may be written is read
abbrev pub IsReadBack : {A : Type 0} → (List ℕ → Read A) → (A → List ℕ) → (A → Bool) → Type 0
IsReadBack {A} each text ok = (x : A) (rest : List ℕ) → ok x ≡ true → AreBytes (text x ++ rest) → each (text x ++ rest) ≡ Some (x, rest)

pub header-complete : StandsByForm → IsReadBack header_from header_text header_ok
unfolding header_from
header-complete numbers h rest ok are =
    let p = and_parts (header_fits h) (nat_le h.offset 65536 && nat_le h.length 65536) ok in
    let q = and_parts (nat_le h.offset 65536) (nat_le h.length 65536) p.1 in
    let are1 : AreBytes ((uleb h.offset ++ uleb h.length) ++ rest) = bytes-behind (h.kind ∷ []) ((uleb h.offset ++ uleb h.length) ++ rest) are in
    let split : (uleb h.offset ++ uleb h.length) ++ rest ≡ uleb h.offset ++ (uleb h.length ++ rest) = append_assoc (uleb h.offset) (uleb h.length) rest in
    let are2 : AreBytes (uleb h.length ++ rest) = rest-bytes ((uleb h.offset ++ uleb h.length) ++ rest) (uleb h.offset) (uleb h.length ++ rest) split are1 in
    let first : number_from 65536 ((uleb h.offset ++ uleb h.length) ++ rest) ≡ Some (h.offset, uleb h.length ++ rest) =
    (numbers 65536 h.offset ((uleb h.offset ++ uleb h.length) ++ rest) (uleb h.length ++ rest) (lit< tt) are1).1 (split, leb-true h.offset 65536 q.0) in
    let second : number_from 65536 (uleb h.length ++ rest) ≡ Some (h.length, rest) =
    (numbers 65536 h.length (uleb h.length ++ rest) rest (lit< tt) are2).1 (refl, leb-true h.length 65536 q.1) in
    rw (first, second) (ap (λ b. then_some b (h, rest)) p.0)

-- so many texts
pub entries-complete : {A : Type 0} (each : List ℕ → Read A) (text : A → List ℕ) (ok : A → Bool) → IsReadBack each text ok
    → (xs : List A) (rest : List ℕ) → list_all ok xs ≡ true → AreBytes (flat_map text xs ++ rest)
    → entries_from each (length xs) (flat_map text xs ++ rest) ≡ Some (xs, rest)
entries-complete each text ok back [] rest fit are = refl
entries-complete each text ok back (x ∷ xs) rest fit are =
    let p = and_parts (ok x) (list_all ok xs) fit in
    let split : (text x ++ flat_map text xs) ++ rest ≡ text x ++ (flat_map text xs ++ rest) = append_assoc (text x) (flat_map text xs) rest in
    let first : each (text x ++ (flat_map text xs ++ rest)) ≡ Some (x, flat_map text xs ++ rest) = back x (flat_map text xs ++ rest) p.0 (subst AreBytes split are) in
    let others = entries-complete each text ok back xs rest p.1 (rest-bytes ((text x ++ flat_map text xs) ++ rest) (text x) (flat_map text xs ++ rest) split are) in
    ap (entries_from each (suc (length xs))) split ∙ rw (first, others) refl

-- the same after their number
pub counted-complete : {A : Type 0} → StandsByForm → (most : ℕ) → most < 2 ^ 64
    → (each : List ℕ → Read A) (text : A → List ℕ) (ok : A → Bool) → IsReadBack each text ok → (xs : List A) (rest : List ℕ) → length xs ≤ most
    → list_all ok xs ≡ true
    → AreBytes (counted text xs ++ rest) → counted_from most each (counted text xs ++ rest) ≡ Some (xs, rest)
counted-complete numbers most small each text ok back xs rest le fit are =
    let split : (uleb (length xs) ++ flat_map text xs) ++ rest ≡ uleb (length xs) ++ (flat_map text xs ++ rest) = append_assoc (uleb (length xs)) (flat_map text xs) rest in
    let count : number_from most ((uleb (length xs) ++ flat_map text xs) ++ rest) ≡ Some (length xs, flat_map text xs ++ rest) =
    (numbers most (length xs) ((uleb (length xs) ++ flat_map text xs) ++ rest) (flat_map text xs ++ rest) small are).1 (split, le) in
    let others = entries-complete each text ok back xs rest fit (rest-bytes ((uleb (length xs) ++ flat_map text xs) ++ rest) (uleb (length xs)) (flat_map text xs ++ rest) split are) in
    rw count others

-- bytes at the front
pub bytes-complete : (a b : List ℕ) → bytes_from (length a) (a ++ b) ≡ Some (a, b)
bytes-complete a b =
    let le : length a ≤ length (a ++ b) = omega (arith, length-append a b) in
    rw (le-leb (length a) (length (a ++ b)) le, take-append_seam a b, drop-append_seam a b) refl

-- whether two headers are one
abbrev pub same_header : Header → Header → Bool
same_header a b = (a.kind == b.kind) && ((a.offset == b.offset) && (a.length == b.length))

make_header : ℕ → ℕ → ℕ → Header
make_header kind offset size = record { kind = kind; offset = offset; length = size }

pub headers-told : Tells same_header
unfolding make_header
headers-told = record {
  one = λ a b e.
      let p = and_parts (a.kind == b.kind) ((a.offset == b.offset) && (a.length == b.length)) e in
      let q = and_parts (a.offset == b.offset) (a.length == b.length) p.1 in
      ap (λ z. make_header z a.offset a.length) (eqb-true a.kind b.kind p.0) ∙ ap (λ z. make_header b.kind z a.length) (eqb-true a.offset b.offset q.0)
      ∙ ap (λ z. make_header b.kind b.offset z) (eqb-true a.length b.length q.1);
  itself = λ a. and_from _ _ (eq-eqb a.kind a.kind refl) (and_from _ _ (eq-eqb a.offset a.offset refl) (eq-eqb a.length a.length refl));
}

-- no later table begins here
later-begin : (o p : ℕ) (ts : List Table) → o < p → list_all (λ h. not (begins_at o h)) (headers_from p ts) ≡ true
later-begin o p [] lt = refl
later-begin o p (t ∷ ts) lt =
    let ne : p ≡ o → ⊥ = λ e. omega arith in
    and_from _ _ (ap not (ne_eqb p o ne)) (later-begin o (p + length t.content) ts (omega arith))

-- the contents of a module's tables
pub contents-complete : (ts : List Table) (hs : List Header) (offset : ℕ) (rest : List ℕ) → SameSums hs (headers_from offset ts)
    → list_all has_bytes ts ≡ true → offset + length (flat_map (λ t. t.content) ts) ≤ 65536
    → contents_from (length hs) offset hs (flat_map (λ t. t.content) ts ++ rest) ≡ Some (ts, rest)
unfolding contents_from
contents-complete [] hs offset rest s full small = rw (empty-SameSums hs s) refl
contents-complete (t ∷ ts) [] offset rest s full small =
    let l : 0 ≡ suc (length (headers_from (offset + length t.content) ts)) = length-SameSums [] (headers_from offset (t ∷ ts)) s in absurd (omega arith)
contents-complete (t ∷ ts) (h ∷ hs) offset rest s full small =
    let x : Header = record { kind = t.kind; offset = offset; length = length t.content } in
    let p = and_parts (has_bytes t) (list_all has_bytes ts) full in
    let some : 0 < length t.content = ltb-true 0 (length t.content) p.0 in
    let a = found-alone same_header headers-told (begins_at offset) (h ∷ hs) x (headers_from (offset + length t.content) ts) s (eq-eqb offset offset refl) (later-begin offset (offset + length t.content) ts (omega arith)) in
    let l = length-without (begins_at offset) (h ∷ hs) x a.0 in
    let n : length hs ≡ length (without (begins_at offset) (h ∷ hs)) = omega (arith, l) in
    let sum : length (t.content ++ flat_map (λ t. t.content) ts) ≡ length t.content + length (flat_map (λ t. t.content) ts) = length-append t.content (flat_map (λ t. t.content) ts) in
    let le : offset + length t.content ≤ 65536 = omega arith in
    let le' : (offset + length t.content) + length (flat_map (λ t. t.content) ts) ≤ 65536 = omega arith in
    let split : (t.content ++ flat_map (λ t. t.content) ts) ++ rest ≡ t.content ++ (flat_map (λ t. t.content) ts ++ rest) = append_assoc t.content (flat_map (λ t. t.content) ts) rest in
    let taken : bytes_from (length t.content) (t.content ++ (flat_map (λ t. t.content) ts ++ rest)) ≡ Some (t.content, flat_map (λ t. t.content) ts ++ rest) = bytes-complete t.content (flat_map (λ t. t.content) ts ++ rest) in
    let below = contents-complete ts (without (begins_at offset) (h ∷ hs)) (offset + length t.content) rest a.1 p.1 le' in
    ap (contents_from (suc (length hs)) offset (h ∷ hs)) split ∙ rw (a.0, le-leb (offset + length t.content) 65536 le, taken, n, below) refl
