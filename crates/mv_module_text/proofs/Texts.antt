-- Fronts of bytes, and entries one after another.
use Rattle.std.proofs.Common.{◌≡◌, ℕ, ◌+◌, ◌^◌, ◌<◌, ◌≤◌, List, [], ◌∷◌, ◌++◌, take, drop, length, arith, refl, ap, suc, zero, sym, ◌∙◌, subst}
use Rattle.std.proofs.Common.{take-append-drop, append_assoc, length-append, length-take, Option, Some, None, IsTrue, Bool, ◌&&◌, nat_le}
use Rattle.std.proofs.Common.{flat_map, eqb}
use Rattle.std.specs.List.{list_all}
use Rattle.std.proofs.lemmas.Bool.{and_parts, and_from, leb-true, le-leb, eqb-true}
use Rattle.std.proofs.lemmas.List.Folds.{list_all-append}
use Rattle.std.proofs.lemmas.Option.{some_pair_parts, none-some, same_Some}
use Rattle.mv_uleb.specs.Uleb.{uleb}
use Rattle.mv_uleb.specs.Parsing.{number_from}
use Rattle.mv_uleb.proofs.Spelled.{number_from-parts, number_from-uleb, then_some-parts}
use Rattle.mv_move_types.specs.Options.{◌>>=◌}
use Rattle.mv_module_text.specs.Fits.{is_byte, is_index}
use Rattle.mv_module_text.specs.Parsing.{Read, index_from, byte_from, mark_from, bytes_from, entries_from, counted_from, all_from}
use Rattle.mv_module_text.specs.Entries.{counted}
use Rattle.mv_module_text.specs.Laws.{AreBytes, StandsByText, StandAsTexts}

-- these bytes stand at the front, and the rest are bytes
pub record Front (x bytes rest : List ℕ) : Type 0 where
  pub text : bytes ≡ x ++ rest
  pub left : AreBytes rest

-- what is read is an entry's text that may be written
abbrev pub Parts : {A : Type 0} → (List ℕ → Read A) → (A → List ℕ) → (A → Bool) → Type 0
Parts {A} from text fits =
    (bytes rest : List ℕ) (v : A) → AreBytes bytes → from bytes ≡ Some (v, rest) → Front (text v) bytes rest × IsTrue (fits v)

-- the text of an entry that may be written is read, whatever follows
abbrev pub Whole : {A : Type 0} → (List ℕ → Read A) → (A → List ℕ) → (A → Bool) → Type 0
Whole {A} from text fits = (rest : List ℕ) (v : A) → IsTrue (fits v) → from (text v ++ rest) ≡ Some (v, rest)

-- no text is empty
abbrev pub Takes : {A : Type 0} → (A → List ℕ) → (A → Bool) → Type 0
Takes {A} text fits = (v : A) → IsTrue (fits v) → 0 < length (text v)

-- the law of an entry
pub stands : {A : Type 0} (from : List ℕ → Read A) (text : A → List ℕ) (fits : A → Bool) → Parts from text fits → Whole from text fits
    → StandsByText from text fits
stands from text fits parts whole = λ bytes rest v ok.
    (λ e. let p = parts bytes rest v ok e in (p.0.text, p.1), λ p. ap from p.0 ∙ whole rest v p.1)

-- what follows from a step that gave something
pub on_bind : {A B P : Type 0} (o : Option A) (f : A → Option B) (y : B) → (o >>= f) ≡ Some y → ((x : A) → o ≡ Some x → f x ≡ Some y → P) → P
on_bind None f y e k = absurd (none-some y e)
on_bind (Some x) f y e k = k x refl e

-- a part of bytes
pub bytes_after : (x y : List ℕ) → AreBytes (x ++ y) → AreBytes x × AreBytes y
bytes_after x y ok = and_parts (list_all is_byte x) (list_all is_byte y) (sym (list_all-append is_byte x y) ∙ ok)

-- a front, by its bytes
pub Front-from : (x bytes rest : List ℕ) → AreBytes bytes → bytes ≡ x ++ rest → Front x bytes rest
Front-from x bytes rest ok e = record { text = e; left = (bytes_after x rest (subst AreBytes e ok)).1 }

-- one front after another
pub Front-join : (x y bytes more rest : List ℕ) → Front x bytes more → Front y more rest → Front (x ++ y) bytes rest
Front-join x y bytes more rest a b = record { text = a.text ∙ ap (λ z. x ++ z) b.text ∙ sym (append_assoc x y rest); left = b.left }

-- what is given, as it is named
pub Front-as : {A : Type 0} (text : A → List ℕ) (fits : A → Bool) (bytes r rest : List ℕ) (w v : A) → ◌≡◌ {A = Read A} (Some (w, r)) (Some (v, rest))
    → Front (text w) bytes r → IsTrue (fits w) → Front (text v) bytes rest × IsTrue (fits v)
Front-as text fits bytes r rest w v e front ok =
    let p = some_pair_parts w v r rest e in
    (subst (λ z. Front (text v) bytes z) p.1 (subst (λ z. Front (text z) bytes r) p.0 front), subst (λ z. IsTrue (fits z)) p.0 ok)

-- a number at the front
pub number-front : (most n : ℕ) (bytes rest : List ℕ) → most < 2 ^ 64 → AreBytes bytes → number_from most bytes ≡ Some (n, rest) → Front (uleb n) bytes rest × (n ≤ most)
number-front most n bytes rest lt ok e = let p = number_from-parts most n bytes rest lt ok e in (Front-from (uleb n) bytes rest ok p.0, p.1)

-- a number is read
pub number-whole : (most n : ℕ) (rest : List ℕ) → most < 2 ^ 64 → n ≤ most → number_from most (uleb n ++ rest) ≡ Some (n, rest)
number-whole most n rest lt le = number_from-uleb most n rest (omega arith) le

-- an index at the front
pub index-parts : Parts index_from uleb is_index
index-parts bytes rest n ok e =
    let p = number-front 65535 n bytes rest (omega arith) ok e in
    (p.0, le-leb (suc n) 65536 (omega (arith, p.1)))

-- an index is read
pub index-whole : Whole index_from uleb is_index
index-whole rest n fits = let lt : suc n ≤ 65536 = leb-true (suc n) 65536 fits in number-whole 65535 n rest (omega arith) (omega arith)

-- a byte at the front
pub byte-front : (b : ℕ) (bytes rest : List ℕ) → AreBytes bytes → byte_from bytes ≡ Some (b, rest) → Front (b ∷ []) bytes rest
byte-front b [] rest ok e = absurd (none-some (b, rest) e)
byte-front b (c ∷ bytes) rest ok e =
    let p = some_pair_parts c b bytes rest e in
    Front-from (b ∷ []) (c ∷ bytes) rest ok (ap (λ z. z ∷ bytes) p.0 ∙ ap (λ z. b ∷ z) p.1)

-- a byte that has to be one
pub mark-front : (b : ℕ) (bytes rest : List ℕ) → AreBytes bytes → mark_from b bytes ≡ Some rest → Front (b ∷ []) bytes rest
mark-front b [] rest ok e = absurd (none-some rest e)
mark-front b (c ∷ bytes) rest ok e =
    let p = then_some-parts (eqb c b) bytes rest e in
    Front-from (b ∷ []) (c ∷ bytes) rest ok (ap (λ z. z ∷ bytes) (eqb-true c b p.0) ∙ ap (λ z. b ∷ z) p.1)

-- so many bytes at the front
pub bytes-front : (n : ℕ) (x bytes rest : List ℕ) → AreBytes bytes → bytes_from n bytes ≡ Some (x, rest) → Front x bytes rest × (length x ≡ n)
bytes-front n x bytes rest ok e =
    let p = then_some-parts (nat_le n (length bytes)) (take n bytes, drop n bytes) (x, rest) e in
    let front : take n bytes ≡ x = ap (λ z. z.0) p.1 in
    let back : drop n bytes ≡ rest = ap (λ z. z.1) p.1 in
    let le : n ≤ length bytes = leb-true n (length bytes) p.0 in
    let len : length (take n bytes) ≡ n = omega (arith, length-take n bytes) in (
      Front-from x bytes rest ok (sym (take-append-drop n bytes) ∙ ap (λ z. z ++ drop n bytes) front ∙ ap (λ z. x ++ z) back),
      sym (ap length front) ∙ len,
    )

-- the first bytes, and those after them
take-front : (x rest : List ℕ) → take (length x) (x ++ rest) ≡ x
take-front [] rest = refl
take-front (b ∷ x) rest = ap (λ z. b ∷ z) (take-front x rest)

drop-front : (x rest : List ℕ) → drop (length x) (x ++ rest) ≡ rest
drop-front [] rest = refl
drop-front (b ∷ x) rest = drop-front x rest

-- they are read
pub bytes-whole : (n : ℕ) (x rest : List ℕ) → length x ≡ n → bytes_from n (x ++ rest) ≡ Some (x, rest)
bytes-whole n x rest len =
    let le : length x ≤ length (x ++ rest) = omega (arith, length-append x rest) in
    subst (λ z. bytes_from z (x ++ rest) ≡ Some (x, rest)) len
    (rw (le-leb (length x) (length (x ++ rest)) le, take-front x rest, drop-front x rest) refl)

-- so many entries at the front
pub entries-front : {A : Type 0} (each : List ℕ → Read A) (text : A → List ℕ) (fits : A → Bool) → Parts each text fits
    → (n : ℕ) (bytes rest : List ℕ) (xs : List A) → AreBytes bytes → entries_from each n bytes ≡ Some (xs, rest)
    → Front (flat_map text xs) bytes rest × IsTrue (list_all fits xs) × (length xs ≡ n)
entries-front each text fits parts zero bytes rest xs ok e =
    let p = some_pair_parts [] xs bytes rest e in
    subst (λ z. Front (flat_map text z) bytes rest × IsTrue (list_all fits z) × (length z ≡ zero)) p.0 (Front-from [] bytes rest ok p.1, refl, refl)
entries-front each text fits parts (suc n) bytes rest xs ok e =
    on_bind (each bytes) _ (xs, rest) e (λ x x_is e1.
    on_bind (entries_from each n x.1) _ (xs, rest) e1 (λ more more_is e2.
    let p = parts bytes x.1 x.0 ok x_is in
    let q = entries-front each text fits parts n x.1 more.1 more.0 p.0.left more_is in
    let s = some_pair_parts (x.0 ∷ more.0) xs more.1 rest e2 in
    let front : Front (text x.0 ++ flat_map text more.0) bytes more.1 = Front-join (text x.0) (flat_map text more.0) bytes x.1 more.1 p.0 q.0 in
    subst (λ z. Front (flat_map text z) bytes rest × IsTrue (list_all fits z) × (length z ≡ suc n)) s.0 (
      subst (λ z. Front (text x.0 ++ flat_map text more.0) bytes z) s.1 front,
      and_from (fits x.0) (list_all fits more.0) p.1 q.1,
      ap suc q.2,
    )))

-- they are read
pub entries-whole : {A : Type 0} (each : List ℕ → Read A) (text : A → List ℕ) (fits : A → Bool) → Whole each text fits
    → (rest : List ℕ) (xs : List A) → IsTrue (list_all fits xs) → entries_from each (length xs) (flat_map text xs ++ rest) ≡ Some (xs, rest)
entries-whole each text fits whole rest [] ok = refl
entries-whole each text fits whole rest (x ∷ xs) ok =
    let p = and_parts (fits x) (list_all fits xs) ok in
    rw (append_assoc (text x) (flat_map text xs) rest, whole (flat_map text xs ++ rest) x p.0, entries-whole each text fits whole rest xs p.1) refl

-- entries after their number
pub counted-parts : {A : Type 0} (most : ℕ) (each : List ℕ → Read A) (text : A → List ℕ) (fits : A → Bool) → most < 2 ^ 64 → Parts each text fits
    → Parts (counted_from most each) (counted text) (λ xs. nat_le (length xs) most && list_all fits xs)
counted-parts most each text fits lt parts bytes rest xs ok e =
    on_bind (number_from most bytes) _ (xs, rest) e (λ n n_is e1.
    let p = number-front most n.0 bytes n.1 lt ok n_is in
    let q = entries-front each text fits parts n.0 n.1 rest xs p.0.left e1 in
    let same : n.0 ≡ length xs = sym q.2 in
    let count : Front (uleb (length xs)) bytes n.1 = subst (λ z. Front (uleb z) bytes n.1) same p.0 in
    let le : length xs ≤ most = omega (arith, p.1, q.2) in (
      Front-join (uleb (length xs)) (flat_map text xs) bytes n.1 rest count q.0,
      and_from (nat_le (length xs) most) (list_all fits xs) (le-leb (length xs) most le) q.1,
    ))

-- they are read
pub counted-whole : {A : Type 0} (most : ℕ) (each : List ℕ → Read A) (text : A → List ℕ) (fits : A → Bool) → most < 2 ^ 64 → Whole each text fits
    → Whole (counted_from most each) (counted text) (λ xs. nat_le (length xs) most && list_all fits xs)
counted-whole most each text fits lt whole rest xs ok =
    let p = and_parts (nat_le (length xs) most) (list_all fits xs) ok in
    let le : length xs ≤ most = leb-true (length xs) most p.0 in
    rw (append_assoc (uleb (length xs)) (flat_map text xs) rest, number-whole most (length xs) (flat_map text xs ++ rest) lt le)
    (entries-whole each text fits whole rest xs p.1)

-- entries up to the end
pub all-parts : {A : Type 0} (each : List ℕ → Read A) (text : A → List ℕ) (fits : A → Bool) → Parts each text fits
    → (turns : ℕ) (bytes : List ℕ) (xs : List A) → AreBytes bytes → all_from each turns bytes ≡ Some xs
    → (bytes ≡ flat_map text xs) × IsTrue (list_all fits xs)
all-parts each text fits parts turns [] xs ok e =
    subst (λ z. ([] ≡ flat_map text z) × IsTrue (list_all fits z)) (same_Some [] xs e) (refl, refl)
all-parts each text fits parts zero (b ∷ bytes) xs ok e = absurd (none-some xs e)
all-parts each text fits parts (suc turns) (b ∷ bytes) xs ok e =
    on_bind (each (b ∷ bytes)) _ xs e (λ x x_is e1.
    on_bind (all_from each turns x.1) _ xs e1 (λ more more_is e2.
    let p = parts (b ∷ bytes) x.1 x.0 ok x_is in
    let q = all-parts each text fits parts turns x.1 more p.0.left more_is in
    subst (λ z. (b ∷ bytes ≡ flat_map text z) × IsTrue (list_all fits z)) (same_Some (x.0 ∷ more) xs e2)
    (p.0.text ∙ ap (λ z. text x.0 ++ z) q.0, and_from (fits x.0) (list_all fits more) p.1 q.1)))

-- a turn where bytes are left
all_from-step : {A : Type 0} (each : List ℕ → Read A) (turns : ℕ) (bytes : List ℕ) → 0 < length bytes
    → all_from each (suc turns) bytes ≡ (each bytes >>= λ x. all_from each turns x.1 >>= λ xs. Some (x.0 ∷ xs))
all_from-step each turns [] lt = absurd (omega arith)
all_from-step each turns (b ∷ bytes) lt = refl

-- they are read
pub all-whole : {A : Type 0} (each : List ℕ → Read A) (text : A → List ℕ) (fits : A → Bool) → Whole each text fits → Takes text fits
    → (turns : ℕ) (xs : List A) → length (flat_map text xs) ≤ turns → IsTrue (list_all fits xs) → all_from each turns (flat_map text xs) ≡ Some xs
all-whole each text fits whole takes turns [] le ok = refl
all-whole each text fits whole takes zero (x ∷ xs) le ok =
    let p = and_parts (fits x) (list_all fits xs) ok in
    absurd (omega (arith, takes x p.0, length-append (text x) (flat_map text xs)))
all-whole each text fits whole takes (suc turns) (x ∷ xs) le ok =
    let p = and_parts (fits x) (list_all fits xs) ok in
    let some : 0 < length (text x) = takes x p.0 in
    let len : length (text x ++ flat_map text xs) ≡ length (text x) + length (flat_map text xs) = length-append (text x) (flat_map text xs) in
    all_from-step each turns (text x ++ flat_map text xs) (omega arith)
    ∙ rw (whole (flat_map text xs) x p.0, all-whole each text fits whole takes turns xs (omega arith) p.1) refl

-- the law of entries up to the end
pub stand_all : {A : Type 0} (from : List ℕ → Read A) (text : A → List ℕ) (fits : A → Bool) → Parts from text fits → Whole from text fits → Takes text fits
    → StandAsTexts from text fits
stand_all from text fits parts whole takes = λ turns bytes xs le ok. (
  all-parts from text fits parts turns bytes xs ok,
  λ p. ap (all_from from turns) p.0 ∙ all-whole from text fits whole takes turns xs (subst (λ z. length z ≤ turns) p.0 le) p.1,
)
