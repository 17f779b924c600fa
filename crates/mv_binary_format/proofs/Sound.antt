-- What is read is a text of the module.
use Rattle.mv_binary_format.proofs.Common.{[], ℕ, ◌&&◌, ◌++◌, ◌+◌, ◌<◌, ◌==◌, ◌^◌, ◌∙◌, ◌∷◌, ◌≡◌, ◌≤◌, Bool, List, None, Option, Some, ap, append_assoc, arith, cond, inl, inr, length}
use Rattle.mv_binary_format.proofs.Common.{length-append, lit<, nat_le, nat_lt, refl, subst, suc, sym, take, true, zero, and_from, and_parts, cases_Bool, eqb-true, leb-true}
use Rattle.mv_binary_format.proofs.Common.{IsPermutation-cons, IsPermutation-refl, IsPermutation-trans, none-some, same_Some, some_pair_parts, then_some, find, flat_map, list_all, list_any}
use Rattle.mv_binary_format.proofs.Common.{IsPermutation, StandsByForm, number_from, uleb, counted, is_byte, AreBytes, Read, bytes_from, counted_from, entries_from, Header, Table}
use Rattle.mv_binary_format.proofs.Common.{header_text, headers_from, begins_at, content_of, contents_from, header_from, is_of, kinds, marks_from, without}
use Rattle.std.proofs.Common.{drop, take-append-drop}
use Rattle.std.proofs.lemmas.List.{length-take-le}
use Rattle.mv_module_text.specs.Parsing.{byte_from, mark_from}
use Rattle.mv_binary_format.proofs.Taken.{without-none}
use Rattle.mv_binary_format.proofs.Binds.{bind_some, then_some_parts}
use Rattle.mv_binary_format.proofs.Sums.{permutation-without, found-passes, found-in_all, others-in_all}

-- bytes in two parts
pub bytes-behind : (a b : List ℕ) → AreBytes (a ++ b) → AreBytes b
bytes-behind [] b h = h
bytes-behind (x ∷ a) b h = bytes-behind a b (and_parts (is_byte x) (list_all is_byte (a ++ b)) h).1

pub bytes-before : (a b : List ℕ) → AreBytes (a ++ b) → AreBytes a
bytes-before [] b h = refl
bytes-before (x ∷ a) b h =
    let p = and_parts (is_byte x) (list_all is_byte (a ++ b)) h in
    and_from (is_byte x) (list_all is_byte a) p.0 (bytes-before a b p.1)

-- the same by an equation
pub rest-bytes : (bytes a b : List ℕ) → bytes ≡ a ++ b → AreBytes bytes → AreBytes b
rest-bytes bytes a b e h = bytes-behind a b (subst AreBytes e h)

-- the marks stand at the front
pub marks-sound : (marks bytes rest : List ℕ) → marks_from marks bytes ≡ Some rest → bytes ≡ marks ++ rest
marks-sound [] bytes rest e = same_Some bytes rest e
marks-sound (m ∷ marks) [] rest e = absurd (none-some rest e)
marks-sound (m ∷ marks) (c ∷ bytes) rest e =
    bind_some (mark_from m (c ∷ bytes)) _ rest e (λ left left_is e1.
    let p = then_some_parts (c == m) bytes left left_is in
    let one : c ≡ m = eqb-true c m p.0 in
    let others : left ≡ marks ++ rest = marks-sound marks left rest e1 in
    let same : bytes ≡ marks ++ rest = p.1 ∙ others in
    ap (λ z. z ∷ bytes) one ∙ ap (λ z. m ∷ z) same)

-- what is read is a text, and may be written
abbrev pub Stands : {A : Type 0} → (List ℕ → Read A) → (A → List ℕ) → (A → Bool) → Type 0
Stands {A} each text ok = (bytes : List ℕ) (x : A) (rest : List ℕ) → AreBytes bytes → each bytes ≡ Some (x, rest) → (bytes ≡ text x ++ rest) × (ok x ≡ true)

-- so many are their texts
pub entries-sound : {A : Type 0} (each : List ℕ → Read A) (text : A → List ℕ) (ok : A → Bool) → Stands each text ok
    → (n : ℕ) (bytes : List ℕ) (xs : List A) (rest : List ℕ) → AreBytes bytes → entries_from each n bytes ≡ Some (xs, rest)
    → (bytes ≡ flat_map text xs ++ rest) × (list_all ok xs ≡ true) × (length xs ≡ n)
entries-sound each text ok stands zero bytes xs rest are e =
    let p = some_pair_parts [] xs bytes rest e in
    let l : 0 ≡ length xs = ap length p.0 in
    let h : list_all ok xs ≡ true = rw (sym p.0) refl in
    let t : bytes ≡ flat_map text xs ++ rest = rw (sym p.0) p.1 in
    (t, h, sym l)
entries-sound {A} each text ok stands (suc n) bytes xs rest are e =
    bind_some (each bytes) _ (xs, rest) e (λ x x_is e1.
    bind_some (entries_from each n x.1) _ (xs, rest) e1 (λ ys ys_is e2.
    let first = stands bytes x.0 x.1 are x_is in
    let others = entries-sound each text ok stands n x.1 ys.0 ys.1 (rest-bytes bytes (text x.0) x.1 first.0 are) ys_is in
    let p = some_pair_parts (x.0 ∷ ys.0) xs ys.1 rest e2 in
    let l : suc (length ys.0) ≡ length xs = ap length p.0 in
    let h : list_all ok xs ≡ true = rw (sym p.0) (and_from _ _ first.1 others.1) in
    let back : x.1 ≡ flat_map text ys.0 ++ rest = others.0 ∙ ap (λ z. flat_map text ys.0 ++ z) p.1 in
    let t : bytes ≡ (text x.0 ++ flat_map text ys.0) ++ rest = first.0 ∙ ap (λ z. text x.0 ++ z) back ∙ sym (append_assoc (text x.0) (flat_map text ys.0) rest) in
    (subst (λ (zs : List A). bytes ≡ flat_map text zs ++ rest) p.0 t, h, sym l ∙ ap suc others.2)))

-- the same after their number
pub counted-sound : {A : Type 0} → StandsByForm → (most : ℕ) → most < 2 ^ 64
    → (each : List ℕ → Read A) (text : A → List ℕ) (ok : A → Bool) → Stands each text ok
    → (bytes : List ℕ) (xs : List A) (rest : List ℕ) → AreBytes bytes
    → counted_from most each bytes ≡ Some (xs, rest) → (bytes ≡ counted text xs ++ rest) × (list_all ok xs ≡ true) × (length xs ≤ most)
counted-sound numbers most small each text ok stands bytes xs rest are e =
    bind_some (number_from most bytes) _ (xs, rest) e (λ n n_is e1.
    let count = (numbers most n.0 bytes n.1 small are).0 n_is in
    let p = entries-sound each text ok stands n.0 n.1 xs rest (rest-bytes bytes (uleb n.0) n.1 count.0 are) e1 in
    let t : bytes ≡ (uleb (length xs) ++ flat_map text xs) ++ rest =
    count.0 ∙ ap (λ z. uleb n.0 ++ z) p.0 ∙ ap (λ z. uleb z ++ (flat_map text xs ++ rest)) (sym p.2) ∙ sym (append_assoc (uleb (length xs)) (flat_map text xs) rest) in
    let le : n.0 ≤ most = count.1 in
    (t, p.1, omega (arith, p.2)))

-- a header that may stand in a module
abbrev pub header_fits : Header → Bool
header_fits h = list_any (λ k. k == h.kind) kinds && nat_lt 0 h.length

-- a header's text
pub header-sound : StandsByForm → Stands header_from header_text header_fits
unfolding header_from
header-sound numbers [] h rest are e = absurd (none-some (h, rest) e)
header-sound numbers (b ∷ bytes) h rest are e =
    bind_some (byte_from (b ∷ bytes)) _ (h, rest) e (λ kind kind_is e1.
    bind_some (number_from 65536 kind.1) _ (h, rest) e1 (λ offset offset_is e2.
    bind_some (number_from 65536 offset.1) _ (h, rest) e2 (λ size size_is e3.
    let k = some_pair_parts b kind.0 bytes kind.1 kind_is in
    let are1 : AreBytes kind.1 = subst AreBytes k.1 (bytes-behind (b ∷ []) bytes are) in
    let first = (numbers 65536 offset.0 kind.1 offset.1 (lit< tt) are1).0 offset_is in
    let are2 : AreBytes offset.1 = rest-bytes kind.1 (uleb offset.0) offset.1 first.0 are1 in
    let second = (numbers 65536 size.0 offset.1 size.1 (lit< tt) are2).0 size_is in
    let p = then_some_parts (list_any (λ k. k == kind.0) kinds && nat_lt 0 size.0) _ (h, rest) e3 in
    let made : record { kind = kind.0; offset = offset.0; length = size.0 } ≡ h = ap (λ (z : Header × List ℕ). z.0) p.1 in
    let left : size.1 ≡ rest = ap (λ (z : Header × List ℕ). z.1) p.1 in
    let t : b ∷ bytes ≡ kind.0 ∷ ((uleb offset.0 ++ uleb size.0) ++ rest) =
    ap (λ z. z ∷ bytes) k.0 ∙ ap (λ z. kind.0 ∷ z) (k.1 ∙ first.0 ∙ ap (λ z. uleb offset.0 ++ z) (second.0 ∙ ap (λ z. uleb size.0 ++ z) left) ∙ sym (append_assoc (uleb offset.0) (uleb size.0) rest)) in
    (subst (λ (z : Header). b ∷ bytes ≡ header_text z ++ rest) made t, subst (λ (z : Header). header_fits z ≡ true) made p.0))))

-- whether a table has bytes
abbrev pub has_bytes : Table → Bool
has_bytes t = nat_lt 0 (length t.content)

-- whether a header tells of bytes
abbrev pub tells_bytes : Header → Bool
tells_bytes h = nat_lt 0 h.length

-- taken bytes stand at the front
pub bytes-sound : (n : ℕ) (bytes taken rest : List ℕ) → bytes_from n bytes ≡ Some (taken, rest) → (bytes ≡ taken ++ rest) × (length taken ≡ n)
bytes-sound n bytes taken rest e =
    let p = then_some_parts (nat_le n (length bytes)) (take n bytes, drop n bytes) (taken, rest) e in
    let t : take n bytes ≡ taken = ap (λ (z : List ℕ × List ℕ). z.0) p.1 in
    let d : drop n bytes ≡ rest = ap (λ (z : List ℕ × List ℕ). z.1) p.1 in
    let le : n ≤ length bytes = leb-true n (length bytes) p.0 in
    let l : length (take n bytes) ≡ n = length-take-le n bytes le in
    (sym (take-append-drop n bytes) ∙ ap (λ z. z ++ drop n bytes) t ∙ ap (λ z. taken ++ z) d, sym (ap length t) ∙ l)

-- what the contents that were read are
pub record Placed (offset : ℕ) (hs : List Header) (bytes : List ℕ) (ts : List Table) (rest : List ℕ) : Type 0 where
  pub listed : IsPermutation hs (headers_from offset ts)
  pub stand : bytes ≡ flat_map (λ t. t.content) ts ++ rest
  pub ends : offset ≤ 65536 → offset + length (flat_map (λ t. t.content) ts) ≤ 65536
  pub full : list_all has_bytes ts ≡ true

-- a header by its parts
made : ℕ → ℕ → ℕ → Header
made kind offset size = record { kind = kind; offset = offset; length = size }

none_left : (offset : ℕ) (bytes : List ℕ) (ts : List Table) (rest : List ℕ) → ([] ≡ ts) × (bytes ≡ rest) → Placed offset [] bytes ts rest
none_left offset bytes [] rest p = record { listed = IsPermutation-refl []; stand = p.1; ends = λ le. (let z : offset + 0 ≤ 65536 = omega arith in z); full = refl }
none_left offset bytes (t ∷ ts) rest p = absurd (let e : ◌≡◌ {A = List Table} [] (t ∷ ts) = p.0 in cc)

one_more : (offset end : ℕ) (hs : List Header) (first : Header) (left : List Header) (bytes content behind : List ℕ) (others : List Table) (last : List ℕ) (ts : List Table) (rest : List ℕ)
    → IsPermutation hs (first ∷ left) → first.offset ≡ offset → nat_lt 0 first.length ≡ true → offset + first.length ≤ 65536 → offset + first.length ≡ end
    → (bytes ≡ content ++ behind) × (length content ≡ first.length) → Placed end left behind others last
    → ((record { kind = first.kind; content = content } ∷ others) ≡ ts) × (last ≡ rest) → Placed offset hs bytes ts rest
unfolding made
one_more offset end hs first left bytes content behind others last ts rest perm at some small end_is taken below p =
    let t : Table = record { kind = first.kind; content = content } in
    let h : first ≡ record { kind = t.kind; offset = offset; length = length t.content } = ap (λ z. made first.kind z first.length) at ∙ ap (made first.kind offset) (sym taken.1) in
    let e : end ≡ offset + length t.content = sym end_is ∙ ap (λ z. offset + z) (sym taken.1) in
    let listed : IsPermutation left (headers_from (offset + length t.content) others) = subst (λ z. IsPermutation left (headers_from z others)) e below.listed in
    let whole : IsPermutation hs (record { kind = t.kind; offset = offset; length = length t.content } ∷ headers_from (offset + length t.content) others) =
    IsPermutation-trans hs (first ∷ left) _ perm (subst (λ (z : Header). IsPermutation (first ∷ left) (z ∷ headers_from (offset + length t.content) others)) h (IsPermutation-cons first left _ listed)) in
    let stand : bytes ≡ (content ++ flat_map (λ t. t.content) others) ++ rest =
    taken.0 ∙ ap (λ z. content ++ z) (below.stand ∙ ap (λ z. flat_map (λ t. t.content) others ++ z) p.1) ∙ sym (append_assoc content (flat_map (λ t. t.content) others) rest) in
    let le : end ≤ 65536 = omega arith in
    let ends : offset + length (content ++ flat_map (λ t. t.content) others) ≤ 65536 = omega (arith, length-append content (flat_map (λ t. t.content) others), below.ends le, taken.1) in
    let full : nat_lt 0 (length content) ≡ true = ap (nat_lt 0) taken.1 ∙ some in
    subst (λ (zs : List Table). Placed offset hs bytes zs rest) p.0 (record {
      listed = whole;
      stand = stand;
      ends = λ small. ends;
      full = and_from _ _ full below.full;
    })

pub contents-sound : (turns offset : ℕ) (hs : List Header) (bytes : List ℕ) (ts : List Table) (rest : List ℕ) → list_all tells_bytes hs ≡ true
    → contents_from turns offset hs bytes ≡ Some (ts, rest) → Placed offset hs bytes ts rest
unfolding contents_from made
contents-sound zero offset [] bytes ts rest full e = none_left offset bytes ts rest (some_pair_parts [] ts bytes rest e)
contents-sound (suc turns) offset [] bytes ts rest full e = none_left offset bytes ts rest (some_pair_parts [] ts bytes rest e)
contents-sound zero offset (h ∷ hs) bytes ts rest full e = absurd (none-some (ts, rest) e)
contents-sound (suc turns) offset (h ∷ hs) bytes ts rest full e =
    bind_some (find (begins_at offset) (h ∷ hs)) _ (ts, rest) e (λ first first_is e1.
    bind_some (then_some (nat_le (offset + first.length) 65536) (offset + first.length)) _ (ts, rest) e1 (λ end end_is e2.
    bind_some (bytes_from first.length bytes) _ (ts, rest) e2 (λ content content_is e3.
    bind_some (contents_from turns end (without (begins_at offset) (h ∷ hs)) content.1) _ (ts, rest) e3 (λ others others_is e4.
    let q = then_some_parts (nat_le (offset + first.length) 65536) (offset + first.length) end end_is in
    let t : Table = record { kind = first.kind; content = content.0 } in
    let taken = bytes-sound first.length bytes content.0 content.1 content_is in
    let below = contents-sound turns end (without (begins_at offset) (h ∷ hs)) content.1 others.0 others.1 (others-in_all tells_bytes (begins_at offset) (h ∷ hs) full) others_is in
    let p = some_pair_parts (t ∷ others.0) ts others.1 rest e4 in
    one_more offset end (h ∷ hs) first (without (begins_at offset) (h ∷ hs)) bytes content.0 content.1 others.0 others.1 ts rest
    (permutation-without (begins_at offset) (h ∷ hs) first first_is)
    (eqb-true first.offset offset (found-passes (begins_at offset) (h ∷ hs) first first_is))
    (found-in_all tells_bytes (begins_at offset) (h ∷ hs) first full first_is)
    (leb-true (offset + first.length) 65536 q.0) q.1 taken below p))))

-- a table as it stands in the module, where it has bytes
abbrev pub if_full : Table → List Table → List Table
if_full t ts = cond (has_bytes t) (t ∷ ts) ts

by_find : (kind : ℕ) (ts : List Table) → list_all has_bytes ts ≡ true → (o : Option Table) → find (is_of kind) ts ≡ o
    → IsPermutation ts (if_full (record { kind = kind; content = content_of kind ts }) (without (is_of kind) ts))
by_find kind ts full None e =
    let c : content_of kind ts ≡ [] = rw e refl in
    let w : without (is_of kind) ts ≡ ts = without-none (is_of kind) ts e in
    rw (c, w) (IsPermutation-refl ts)
by_find kind ts full (Some t) e =
    let c : content_of kind ts ≡ t.content = rw e refl in
    let k : t.kind ≡ kind = eqb-true t.kind kind (found-passes (is_of kind) ts t e) in
    let f : nat_lt 0 (length t.content) ≡ true = found-in_all has_bytes (is_of kind) ts t full e in
    rw (c, f) (subst (λ z. IsPermutation ts (record { kind = z; content = t.content } ∷ without (is_of kind) ts)) k (permutation-without (is_of kind) ts t e))

-- one kind is taken out
pub kind-taken : (kind : ℕ) (ts : List Table) → list_all has_bytes ts ≡ true → IsPermutation ts (if_full (record { kind = kind; content = content_of kind ts }) (without (is_of kind) ts))
kind-taken kind ts full = by_find kind ts full (find (is_of kind) ts) refl

-- further tables stay in their order
pub if_full-then : (t : Table) (ts us vs : List Table) → IsPermutation ts (if_full t us) → IsPermutation us vs → IsPermutation ts (if_full t vs)
if_full-then t ts us vs p q =
    elim (cases_Bool (has_bytes t)) [
      | inl h ↦
          let p' : IsPermutation ts (t ∷ us) = rw h at p in
          rw h (IsPermutation-trans ts (t ∷ us) (t ∷ vs) p' (IsPermutation-cons t us vs q))
      | inr h ↦
          let p' : IsPermutation ts us = rw h at p in
          rw h (IsPermutation-trans ts us vs p' q)
    ]
