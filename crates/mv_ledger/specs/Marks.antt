-- What a ledger held where its open blocks were begun.
--   marked v marks                       the same, with these marks
--   held_at modules stored runs          what a ledger with these parts holds
--   held_marks modules stored runs       what was held at each mark, by the marks of the parts
--   AreLedgers modules stored runs       the parts have as many marks, and at each of them they make a ledger
use Rattle.std.specs.Prelude.{ℕ, List, [], ◌∷◌}
use Rattle.mv_undo.specs.Parts.{AreAll}
use Rattle.mv_machine.specs.Flat.{FlatEntry}
use Rattle.mv_machine.specs.Tallies.{all_of}
use Rattle.mv_ledger_state.specs.View.{LedgerView, HeldView, HeldModules, IsLedger, held_of, view_of}

-- what is held stays, with these marks
abbrev pub marked : LedgerView → List HeldView → LedgerView
marked v marks = record v { marks = marks }

-- what a ledger with these parts holds
abbrev pub held_at : HeldModules → List FlatEntry → ℕ → HeldView
held_at p stored runs = held_of (view_of p.modules stored (all_of p.tallies) runs)

-- what was held at each mark, the oldest first
abbrev pub held_marks : List HeldModules → List (List FlatEntry) → List ℕ → List HeldView
held_marks [] ss rs = []
held_marks (p ∷ ps) [] rs = []
held_marks (p ∷ ps) (s ∷ ss) [] = []
held_marks (p ∷ ps) (s ∷ ss) (r ∷ rs) = held_at p s r ∷ held_marks ps ss rs

-- the parts have as many marks, and at each of them they make a ledger
abbrev pub AreLedgers : List HeldModules → List (List FlatEntry) → List ℕ → Type 0
AreLedgers = AreAll (λ (p : HeldModules) (stored : List FlatEntry) (runs : ℕ). IsLedger p.modules stored (all_of p.tallies) runs)
