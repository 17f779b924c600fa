-- Changes that are noted, and taken back, whatever they change.
use Rattle.std.proofs.Common.{[], ℕ, ◌++◌, ◌∙◌, ◌∷◌, ◌≡◌, ◌≤◌, List, ap, arith, length, refl, suc, zero, sym, drop}
use Rattle.std.specs.List.{AllByRecursion}
use Rattle.std.proofs.lemmas.List.{drop-append-le}
use Rattle.mv_undo.specs.Undo.{undone, marks_of, AreMarks}

-- changes one after the other
pub undone-append : {S C : Type 0} (back : C → S → S) (us ws : List C) (h : S) → undone back (us ++ ws) h ≡ undone back us (undone back ws h)
undone-append back [] ws h = refl
undone-append back (u ∷ us) ws h = ap (back u) (undone-append back us ws h)

-- with one more change, at a mark
pub undone-last : {S C : Type 0} (back : C → S → S) (us : List C) (u : C) (m : ℕ) (h : S) → m ≤ length us
    → undone back (drop m (us ++ u ∷ [])) h ≡ undone back (drop m us) (back u h)
undone-last back us u m h le = ap (λ x. undone back x h) (drop-append-le m us (u ∷ []) le) ∙ undone-append back (drop m us) (u ∷ []) h

-- A change that is noted leaves what was held at each mark.
pub marks-noted : {S C : Type 0} (back : C → S → S) (us : List C) (u : C) (marks : List ℕ) (old new : S) → AreMarks marks (length us)
    → back u new ≡ old → marks_of back (us ++ u ∷ []) marks new ≡ marks_of back us marks old
marks-noted back us u [] old new a e = refl
marks-noted back us u (m ∷ ms) old new a e =
    let one : undone back (drop m (us ++ u ∷ [])) new ≡ undone back (drop m us) old = undone-last back us u m new a.0 ∙ ap (undone back (drop m us)) e in
    let rest : marks_of back (us ++ u ∷ []) ms new ≡ marks_of back us ms old = marks-noted back us u ms old new a.2 e in
    cc

pub AreMarks-more : (marks : List ℕ) (m n : ℕ) → m ≤ n → AreMarks marks m → AreMarks marks n
AreMarks-more [] m n le a = tt
AreMarks-more (x ∷ xs) m n le a = (omega (arith, le, a.0), a.1, AreMarks-more xs m n le a.2)

pub all-append : {X : Type 0} (P : X → Type 0) (xs ys : List X) → AllByRecursion P xs → AllByRecursion P ys → AllByRecursion P (xs ++ ys)
all-append P [] ys a b = b
all-append P (x ∷ xs) ys a b = (a.0, all-append P xs ys a.1 b)

pub all-before : {X : Type 0} (P : X → Type 0) (xs ys : List X) → AllByRecursion P (xs ++ ys) → AllByRecursion P xs
all-before P [] ys a = tt
all-before P (x ∷ xs) ys a = (a.0, all-before P xs ys a.1)

pub all-behind : {X : Type 0} (P : X → Type 0) (xs ys : List X) → AllByRecursion P (xs ++ ys) → AllByRecursion P ys
all-behind P [] ys a = a
all-behind P (x ∷ xs) ys a = all-behind P xs ys a.1

-- ---- marks

marks-append : (ms : List ℕ) (n : ℕ) → AreMarks ms n → AreMarks (ms ++ n ∷ []) n
marks-append [] n a = (omega arith, tt, tt)
marks-append (m ∷ ms) n a = (a.0, all-append (λ k. m ≤ k) ms (n ∷ []) a.1 (a.0, tt), marks-append ms n a.2)

pub AreMarks-begun : (ms : List ℕ) (n : ℕ) → AreMarks ms n → AreMarks (ms ++ n ∷ []) n
AreMarks-begun ms n a = marks-append ms n a

pub AreMarks-last : (ms : List ℕ) (m n : ℕ) → AreMarks (ms ++ m ∷ []) n → m ≤ n
AreMarks-last [] m n a = a.0
AreMarks-last (x ∷ xs) m n a = AreMarks-last xs m n a.2

-- without the newest mark, up to it
pub AreMarks-back : (ms : List ℕ) (m n : ℕ) → AreMarks (ms ++ m ∷ []) n → AreMarks ms m
AreMarks-back [] m n a = tt
AreMarks-back (x ∷ xs) m n a = ((all-behind (λ k. x ≤ k) xs (m ∷ []) a.1).0, all-before (λ k. x ≤ k) xs (m ∷ []) a.1, AreMarks-back xs m n a.2)

pub AreMarks-before : (ms : List ℕ) (m n : ℕ) → AreMarks (ms ++ m ∷ []) n → AreMarks ms n
AreMarks-before [] m n a = tt
AreMarks-before (x ∷ xs) m n a = (a.0, all-before (λ k. x ≤ k) xs (m ∷ []) a.1, AreMarks-before xs m n a.2)

pub marks-append-of : {S C : Type 0} (back : C → S → S) (us : List C) (ms : List ℕ) (m : ℕ) (h : S) → marks_of back us (ms ++ m ∷ []) h ≡ marks_of back us ms h ++ undone back (drop m us) h ∷ []
marks-append-of back us [] m h = refl
marks-append-of back us (x ∷ xs) m h = ap (λ r. undone back (drop x us) h ∷ r) (marks-append-of back us xs m h)

-- marks at which the same was held
pub marks-same : {S C : Type 0} (back : C → S → S) (us ws : List C) (ms : List ℕ) (m : ℕ) (old new : S) → AreMarks ms m
    → ((k : ℕ) → k ≤ m → undone back (drop k ws) new ≡ undone back (drop k us) old) → marks_of back ws ms new ≡ marks_of back us ms old
marks-same back us ws [] m old new a f = refl
marks-same back us ws (x ∷ xs) m old new a f =
    let one : undone back (drop x ws) new ≡ undone back (drop x us) old = f x a.0 in
    let rest : marks_of back ws xs new ≡ marks_of back us xs old = marks-same back us ws xs m old new a.2 f in
    cc

-- no change after a mark
pub undone-none : {S C : Type 0} (back : C → S → S) (us : List C) (m : ℕ) (h : S) → length us ≤ m → undone back (drop m us) h ≡ h
undone-none back [] zero h le = refl
undone-none back [] (suc m) h le = refl
undone-none back (u ∷ us) zero h le = absurd (omega (arith, le))
undone-none back (u ∷ us) (suc m) h le = undone-none back us m h (omega (arith, le))

-- one change taken back leaves what was held at a mark before it
pub back-same : {S C : Type 0} (back : C → S → S) (us : List C) (u : C) (m : ℕ) (old new : S) → new ≡ back u old → m ≤ length us
    → undone back (drop m us) new ≡ undone back (drop m (us ++ u ∷ [])) old
back-same back us u m old new e le = ap (undone back (drop m us)) e ∙ sym (undone-last back us u m old le)
