-- What is held at the marks of the open blocks.
--   tally_back change tss         what the tallies were before a change
--   first_of marks modules        the modules at the oldest of these marks, where the newest of all are these
--   held_at noted marks ..        what is held at each of these marks, oldest first
--   is_open marks                 whether a block is open
--   AreHeld modules tallies b     what holds of open blocks between calls
-- The others are parts of these.
use Rattle.std.specs.Prelude.{◌≡◌, ℕ, ◌+◌, ◌≤◌, Bool, false, true, List, [], ◌∷◌, map, drop, length, unwrap_or, slice_get, slice_set}
use Rattle.std.specs.List.{AllByRecursion}
use Rattle.std.specs.Vec.{vec_len, vec_capacity}
use Rattle.mv_undo.specs.Undo.{undone, AreMarks}
use Rattle.mv_machine.specs.declared.Tally.{Tally}
use Rattle.mv_move_types.specs.Published.{PublishedModule}
use Rattle.mv_ledger_state.specs.declared.blocks.TallyBefore.{TallyBefore}
use Rattle.mv_ledger_state.specs.declared.blocks.TallyBefore.TheVariants.{Added, Replaced, Counted}
use Rattle.mv_ledger_state.specs.declared.blocks.Mark.{Mark}
use Rattle.mv_ledger_state.specs.declared.blocks.Blocks.{Blocks}
use Rattle.mv_ledger_state.specs.View.{HeldModules, IsTalliedStore}

-- all but the last
abbrev pub but_last : {X : Type 0} → List X → List X
but_last [] = []
but_last (x ∷ []) = []
but_last (x ∷ y ∷ ys) = x ∷ but_last (y ∷ ys)

-- what the tallies were before a change
abbrev pub tally_back : TallyBefore → List (List Tally) → List (List Tally)
tally_back Added tss = but_last tss
tally_back (Replaced place was) tss = slice_set tss place was.items
tally_back (Counted place index was) tss = slice_set tss place (slice_set (unwrap_or (slice_get tss place) []) index was)

-- the modules at the oldest of these marks, where these are there after the newest
abbrev pub first_of : List Mark → List PublishedModule → List PublishedModule
first_of [] modules = modules
first_of (m ∷ ms) modules = unwrap_or m.store (first_of ms modules)

-- what is held at each of these marks
abbrev pub held_at : List TallyBefore → List Mark → List PublishedModule → List (List Tally) → List HeldModules
held_at noted [] modules tallies = []
held_at noted (m ∷ ms) modules tallies =
    record { modules = first_of (m ∷ ms) modules; tallies = undone tally_back (drop m.noted noted) tallies } ∷ held_at noted ms modules tallies

-- how many changes were noted before each of these marks
abbrev pub counts_at : List Mark → List ℕ
counts_at marks = map (λ m. m.noted) marks

-- what is held at the mark of each open block
abbrev pub held_in : Blocks → List PublishedModule → List (List Tally) → List HeldModules
held_in b = held_at b.noted.items b.marks.items

-- whether a block is open
abbrev pub is_open : List Mark → Bool
is_open [] = false
is_open (m ∷ ms) = true

-- so many changes can be noted where a block is open
abbrev pub CanNote : ℕ → Blocks → Type 0
CanNote count b = is_open b.marks.items ≡ true → vec_len b.noted + count ≤ vec_capacity b.noted

-- Marks ascend, what is held at each is a store with its tallies, and there is the room that was made.
pub record AreHeld (b : Blocks) (modules : List PublishedModule) (tallies : List (List Tally)) : Type 0 where
  pub ascend : AreMarks (counts_at b.marks.items) (length b.noted.items)
  pub each : AllByRecursion (λ (h : HeldModules). IsTalliedStore h.modules h.tallies) (held_in b modules tallies)
  pub room : vec_len b.noted + b.room ≤ vec_capacity b.noted

-- the marks ascend, and none is beyond what was noted
abbrev pub Ascend : Blocks → Type 0
Ascend b = AreMarks (counts_at b.marks.items) (length b.noted.items)
