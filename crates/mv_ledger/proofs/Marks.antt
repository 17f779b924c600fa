-- What was held at marks, where a block is begun and where it is taken back.
use Rattle.std.proofs.Common.{suc}
use Rattle.mv_undo.proofs.Lasts.{last-some}
use Rattle.mv_undo.proofs.Parts.{all-begun, all-back}
use Rattle.mv_ledger.proofs.Common.{[], ◌++◌, ◌∙◌, ◌∷◌, ◌≡◌, Bool, List, None, Option, Some, ap, false, length, refl, sym, true, ℕ, FlatEntry, Replies, Leaves, Told, ToldPublished, ToldRefused, ToldRejected, ToldLines, RanOut, RanToAbort, RanToEnd, LedgerView, IsLedger, all_of}
use Rattle.mv_ledger_state.specs.View.{HeldView, HeldModules}
use Rattle.mv_ledger.specs.Marks.{AreLedgers, held_at, held_marks, marked}

-- a block is begun: what is held now is what is held at the new mark
pub held-begun : (ps : List HeldModules) (ss : List (List FlatEntry)) (rs : List ℕ) (p : HeldModules) (s : List FlatEntry) (r : ℕ) → AreLedgers ps ss rs
    → held_marks (ps ++ p ∷ []) (ss ++ s ∷ []) (rs ++ r ∷ []) ≡ held_marks ps ss rs ++ held_at p s r ∷ []
held-begun [] [] [] p s r h = refl
held-begun [] [] (z ∷ rs) p s r h = absurd h
held-begun [] (y ∷ ss) rs p s r h = absurd h
held-begun (x ∷ ps) [] rs p s r h = absurd h
held-begun (x ∷ ps) (y ∷ ss) [] p s r h = absurd h
held-begun (x ∷ ps) (y ∷ ss) (z ∷ rs) p s r h = ap (λ hs. held_at x y z ∷ hs) (held-begun ps ss rs p s r h.1)

-- which is a ledger, as those at the older marks are
pub ledgers-begun : (ps : List HeldModules) (ss : List (List FlatEntry)) (rs : List ℕ) (p : HeldModules) (s : List FlatEntry) (r : ℕ) → AreLedgers ps ss rs
    → IsLedger p.modules s (all_of p.tallies) r → AreLedgers (ps ++ p ∷ []) (ss ++ s ∷ []) (rs ++ r ∷ [])
ledgers-begun = all-begun (λ (p : HeldModules) (stored : List FlatEntry) (runs : ℕ). IsLedger p.modules stored (all_of p.tallies) runs)

-- a block is taken back: what was held at the newest mark is a ledger, as those at the older marks are
pub ledgers-back : (ps : List HeldModules) (ss : List (List FlatEntry)) (rs : List ℕ) (p : HeldModules) (s : List FlatEntry) (r : ℕ) → AreLedgers (ps ++ p ∷ []) (ss ++ s ∷ []) (rs ++ r ∷ [])
    → IsLedger p.modules s (all_of p.tallies) r × AreLedgers ps ss rs
ledgers-back = all-back (λ (p : HeldModules) (stored : List FlatEntry) (runs : ℕ). IsLedger p.modules stored (all_of p.tallies) runs)

-- no block is open in any part
pub none-open : (ps : List HeldModules) (ss : List (List FlatEntry)) (rs : List ℕ) → ps ≡ [] → ss ≡ [] → rs ≡ [] → AreLedgers ps ss rs
none-open ps ss rs p q r = rw (p, q, r) tt

-- where a block is open, each part has one
pub are-open : (ps : List HeldModules) (ss : List (List FlatEntry)) (rs : List ℕ) (r : ℕ) → AreLedgers ps ss (rs ++ r ∷ []) → (ps ≡ [] → ⊥) × (ss ≡ [] → ⊥)
are-open [] [] [] r h = absurd h
are-open [] [] (z ∷ rs) r h = absurd h
are-open [] (s ∷ ss) rs r h = absurd h
are-open (p ∷ ps) [] [] r h = absurd h
are-open (p ∷ ps) [] (z ∷ rs) r h = absurd h
are-open (p ∷ ps) (s ∷ ss) rs r h = (λ e. let no : ⊥ = cc in no, λ e. let no : ⊥ = cc in no)

-- what a call that says whether a block was open did, where one was
pub was-open : {A B : Type 0} (said : Bool) → (said ≡ true → A) → (said ≡ false → B) → (B → ⊥) → A
was-open true f g h = f refl
was-open false f g h = absurd (h (g refl))

-- ---- lists that end alike

cons-same : {X : Type 0} (x y : X) (xs ys : List X) → x ∷ xs ≡ y ∷ ys → (x ≡ y) × (xs ≡ ys)
cons-same x y xs ys e = (cc, cc)

pub ends-same : {X : Type 0} (xs ys : List X) (x y : X) → xs ++ x ∷ [] ≡ ys ++ y ∷ [] → (xs ≡ ys) × (x ≡ y)
ends-same [] [] x y e = (refl, (cons-same x y [] [] e).0)
ends-same [] (b ∷ ys) x y e = absurd (last-some ys y (sym (cons-same x b [] (ys ++ y ∷ []) e).1))
ends-same (a ∷ xs) [] x y e = absurd (last-some xs x (cons-same a y (xs ++ x ∷ []) [] e).1)
ends-same (a ∷ xs) (b ∷ ys) x y e =
    let parts = cons-same a b (xs ++ x ∷ []) (ys ++ y ∷ []) e in
    let rest = ends-same xs ys x y parts.1 in
    (ap (λ zs. a ∷ zs) rest.0 ∙ ap (λ z. z ∷ ys) parts.0, rest.1)

-- what was stored where the newest block was begun is held at the storage's newest mark
no-marks : (ps : List HeldModules) (ss : List (List FlatEntry)) (rs : List ℕ) → AreLedgers ps ss rs → held_marks ps ss rs ≡ [] → ss ≡ []
no-marks [] [] [] a e = refl
no-marks [] [] (z ∷ rs) a e = absurd a
no-marks [] (y ∷ ss) rs a e = absurd a
no-marks (x ∷ ps) [] rs a e = absurd a
no-marks (x ∷ ps) (y ∷ ss) [] a e = absurd a
no-marks (x ∷ ps) (y ∷ ss) (z ∷ rs) a e = absurd (let no : ⊥ = cc in no)

pub no-modules : (ps : List HeldModules) (ss : List (List FlatEntry)) (rs : List ℕ) → AreLedgers ps ss rs → held_marks ps ss rs ≡ [] → ps ≡ []
no-modules [] ss rs a e = refl
no-modules (x ∷ ps) [] rs a e = absurd a
no-modules (x ∷ ps) (y ∷ ss) [] a e = absurd a
no-modules (x ∷ ps) (y ∷ ss) (z ∷ rs) a e = absurd (let no : ⊥ = cc in no)

pub stored-newest : (ps : List HeldModules) (ss : List (List FlatEntry)) (rs : List ℕ) (hs : List HeldView) (h : HeldView) → AreLedgers ps ss rs → held_marks ps ss rs ≡ hs ++ h ∷ []
    → (xs : List (List FlatEntry)) × (ss ≡ xs ++ h.stored ∷ [])
stored-newest [] [] [] hs h a e = absurd (last-some hs h (sym e))
stored-newest [] [] (z ∷ rs) hs h a e = absurd a
stored-newest [] (y ∷ ss) rs hs h a e = absurd a
stored-newest (x ∷ ps) [] rs hs h a e = absurd a
stored-newest (x ∷ ps) (y ∷ ss) [] hs h a e = absurd a
stored-newest (x ∷ ps) (y ∷ ss) (z ∷ rs) [] h a e =
    let parts = cons-same (held_at x y z) h (held_marks ps ss rs) [] e in
    let alone : ss ≡ [] = no-marks ps ss rs a.1 parts.1 in
    ([], ap (λ (ts : List (List FlatEntry)). y ∷ ts) alone ∙ ap (λ (v : HeldView). v.stored ∷ []) parts.0)
stored-newest (x ∷ ps) (y ∷ ss) (z ∷ rs) (g ∷ gs) h a e =
    let rest = stored-newest ps ss rs gs h a.1 (cons-same (held_at x y z) g (held_marks ps ss rs) (gs ++ h ∷ []) e).1 in
    (y ∷ rest.0, ap (λ (ts : List (List FlatEntry)). y ∷ ts) rest.1)

-- the same of the modules
pub modules-newest : (ps : List HeldModules) (ss : List (List FlatEntry)) (rs : List ℕ) (hs : List HeldView) (h : HeldView) → AreLedgers ps ss rs → held_marks ps ss rs ≡ hs ++ h ∷ []
    → (xs : List HeldModules) × (p : HeldModules) × (ps ≡ xs ++ p ∷ []) × (p.modules ≡ h.published)
modules-newest [] [] [] hs h a e = absurd (last-some hs h (sym e))
modules-newest [] [] (z ∷ rs) hs h a e = absurd a
modules-newest [] (y ∷ ss) rs hs h a e = absurd a
modules-newest (x ∷ ps) [] rs hs h a e = absurd a
modules-newest (x ∷ ps) (y ∷ ss) [] hs h a e = absurd a
modules-newest (x ∷ ps) (y ∷ ss) (z ∷ rs) [] h a e =
    let parts = cons-same (held_at x y z) h (held_marks ps ss rs) [] e in
    ([], x, ap (λ (qs : List HeldModules). x ∷ qs) (no-modules ps ss rs a.1 parts.1), ap (λ (v : HeldView). v.published) parts.0)
modules-newest (x ∷ ps) (y ∷ ss) (z ∷ rs) (g ∷ gs) h a e =
    let rest = modules-newest ps ss rs gs h a.1 (cons-same (held_at x y z) g (held_marks ps ss rs) (gs ++ h ∷ []) e).1 in
    (x ∷ rest.0, rest.1, ap (λ (qs : List HeldModules). x ∷ qs) rest.2, rest.3)

-- there are as many marks as counts of runs
pub marks-long : (ps : List HeldModules) (ss : List (List FlatEntry)) (rs : List ℕ) → AreLedgers ps ss rs → length (held_marks ps ss rs) ≡ length rs
marks-long [] [] [] a = refl
marks-long [] [] (z ∷ rs) a = absurd a
marks-long [] (y ∷ ss) rs a = absurd a
marks-long (x ∷ ps) [] rs a = absurd a
marks-long (x ∷ ps) (y ∷ ss) [] a = absurd a
marks-long (x ∷ ps) (y ∷ ss) (z ∷ rs) a = ap suc (marks-long ps ss rs a.1)

-- ---- a reply leaves what was held at marks

leaves-marked : (reply : Told) (old new : LedgerView) (marks : List HeldView) → Leaves reply old new → Leaves reply (marked old marks) (marked new marks)
leaves-marked (ToldPublished n) old new marks l = (l.0, l.1, refl)
leaves-marked (ToldRefused phase) old new marks l = ap (λ (v : LedgerView). marked v marks) l
leaves-marked (ToldRejected reason) old new marks l = ap (λ (v : LedgerView). marked v marks) l
leaves-marked (RanToEnd steps) old new marks l = refl
leaves-marked (RanToAbort kind n steps) old new marks l = ap (λ (v : LedgerView). marked v marks) l
leaves-marked (RanOut stop steps) old new marks l = ap (λ (v : LedgerView). marked v marks) l
leaves-marked (ToldLines lines) old new marks l = ap (λ (v : LedgerView). marked v marks) l

-- what is replied by a ledger with no block open is replied with any open
pub replies-marked : (kind : ℕ) (payload : List ℕ) (reply : Option Told) (old new : LedgerView) (marks : List HeldView) → Replies kind payload reply old new
    → Replies kind payload reply (marked old marks) (marked new marks)
replies-marked kind payload None old new marks same = ap (λ (v : LedgerView). marked v marks) same
replies-marked kind payload (Some t) old new marks r = record { answers = r.answers; leaves = leaves-marked t old new marks r.leaves; rightly = r.rightly }

-- where each part kept what it held at its marks, so did the ledger
module _ (ps qs : List HeldModules) (ss ts : List (List FlatEntry)) (rs : List ℕ) (p : qs ≡ ps) (q : ts ≡ ss) where
  pub marks-kept : held_marks qs ts rs ≡ held_marks ps ss rs
  marks-kept = rw (p, q) refl

  pub ledgers-kept : AreLedgers ps ss rs → AreLedgers qs ts rs
  ledgers-kept h = rw (p, q) h
