-- A block of the ledger is begun, taken back and kept where blocks of its parts are.
--   begun-holds, begun-is      a block is begun in each part
--   taken-back                 a block of each part is taken back
--   kept-holds, kept-is        or kept
use Rattle.mv_ledger.proofs.Common.{[], ◌++◌, ◌∷◌, ◌≡◌, List, ap, arith, length, refl, subst, ℕ, FlatEntry, LedgerView, PublishedView, IsLedger, all_of, view_of}
use Rattle.mv_ledger_state.specs.View.{HeldView, HeldModules, held_of, held_now}
use Rattle.mv_ledger.specs.Marks.{AreLedgers, held_at, held_marks, marked}
use Rattle.mv_ledger.proofs.Marks.{held-begun, ledgers-begun, ledgers-back}

-- what a ledger with these parts holds, now and at its marks
abbrev pub whole : PublishedView → List FlatEntry → ℕ → List (List FlatEntry) → List ℕ → LedgerView
whole p s runs ss rs = marked (view_of p.modules s (all_of p.tallies) runs) (held_marks p.marks ss rs)

-- what holds of these parts between calls
abbrev pub Holds : PublishedView → List FlatEntry → ℕ → List (List FlatEntry) → List ℕ → Type 0
Holds p s runs ss rs = IsLedger p.modules s (all_of p.tallies) runs × AreLedgers p.marks ss rs

-- ---- a block is begun

module _ (p q : PublishedView) (s t : List FlatEntry) (runs : ℕ) (ss ts : List (List FlatEntry)) (rs us : List ℕ)
    (first : q ≡ record p { marks = p.marks ++ held_now p ∷ [] }) (same : t ≡ s) (second : ts ≡ ss ++ s ∷ []) (third : us ≡ rs ++ runs ∷ []) where
  pub begun-holds : Holds p s runs ss rs → Holds q t runs ts us
  begun-holds h = rw (first, same, second, third) (h.0, ledgers-begun p.marks ss rs (held_now p) s runs h.1 h.0)

  pub begun-is : AreLedgers p.marks ss rs → whole q t runs ts us ≡ marked (whole p s runs ss rs) (held_marks p.marks ss rs ++ held_of (whole p s runs ss rs) ∷ [])
  begun-is a = rw (first, same, second, third) (ap (marked (view_of p.modules s (all_of p.tallies) runs)) (held-begun p.marks ss rs (held_now p) s runs a))

-- ---- a block is closed

module _ (ps qs : List HeldModules) (p : HeldModules) (ss ts : List (List FlatEntry)) (s : List FlatEntry) (rs us : List ℕ) (r : ℕ) (first : ps ≡ qs ++ p ∷ []) (second : ss ≡ ts ++ s ∷ [])
    (third : rs ≡ us ++ r ∷ []) (a : AreLedgers ps ss rs) where
  with-last : AreLedgers (qs ++ p ∷ []) (ts ++ s ∷ []) (us ++ r ∷ [])
  with-last =
      subst (λ xs. AreLedgers xs (ts ++ s ∷ []) (us ++ r ∷ [])) first (subst (λ ys. AreLedgers ps ys (us ++ r ∷ [])) second (subst (λ zs. AreLedgers ps ss zs) third a))

  -- what was held at the newest mark is a ledger, as what was held at the older ones
  pub closed-holds : IsLedger p.modules s (all_of p.tallies) r × AreLedgers qs ts us
  closed-holds = ledgers-back qs ts us p s r with-last

  pub closed-marks : held_marks ps ss rs ≡ held_marks qs ts us ++ held_at p s r ∷ []
  closed-marks = rw (first, second, third) (held-begun qs ts us p s r closed-holds.1)

-- a block is kept: what is held stays
module _ (p q : PublishedView) (s t : List FlatEntry) (runs : ℕ) (modules : q.modules ≡ p.modules) (tallies : q.tallies ≡ p.tallies) (same : t ≡ s) where
  pub kept-holds : IsLedger p.modules s (all_of p.tallies) runs → IsLedger q.modules t (all_of q.tallies) runs
  kept-holds is = rw (modules, tallies, same) is

  pub kept-is : (ms ns : List HeldView) → ms ≡ ns → marked (view_of p.modules s (all_of p.tallies) runs) ms ≡ marked (view_of q.modules t (all_of q.tallies) runs) ns
  kept-is ms ns is = rw (modules, tallies, same) (ap (marked (view_of p.modules s (all_of p.tallies) runs)) is)

-- no block is open: nothing is held at a mark
pub no-runs : (ps : List HeldModules) (ss : List (List FlatEntry)) → held_marks ps ss [] ≡ []
no-runs [] ss = refl
no-runs (p ∷ ps) [] = refl
no-runs (p ∷ ps) (s ∷ ss) = refl

pub no-items : (xs : List ℕ) → length xs ≡ 0 → xs ≡ []
no-items [] e = refl
no-items (x ∷ xs) e = absurd (omega (arith, e))
