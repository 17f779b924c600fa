-- The names of a folder that a save changes: what each leads to, what the calls do to them, and what a crash may leave.
use Rattle.std.specs.Prelude.{◌≡◌, ◌⊎◌, ◌≤◌, ℕ, List, Bool, true, Option, None}

-- what stands under the name of the ledger, under the one by which what stood there is kept, under that of the new file, and under
-- the one by which a new file stays that can't have its place
pub record Stands : Type 0 where
  pub place : Option (List ℕ)
  pub beside : Option (List ℕ)
  pub fresh : Option (List ℕ)
  pub unsaved : Option (List ℕ)

-- what is said of names that no proof sees
abbrev pub unknown : Stands
unknown = record { place = None; beside = None; fresh = None; unsaved = None }

-- what stands in the place has one more name
abbrev pub kept_beside : Stands → Stands → Stands
kept_beside now s = record { place = s.place; beside = now.place; fresh = s.fresh; unsaved = s.unsaved }

-- the new file has the name of the ledger, and no other
abbrev pub placed : Stands → Stands → Stands
placed now s = record { place = now.fresh; beside = s.beside; fresh = None; unsaved = s.unsaved }

-- the new file has the name of the ledger, beside its own
abbrev pub placed_too : Stands → Stands → Stands
placed_too now s = record { place = now.fresh; beside = s.beside; fresh = s.fresh; unsaved = s.unsaved }

-- the new file has one more name
abbrev pub kept_unsaved : Stands → Stands → Stands
kept_unsaved now s = record { place = s.place; beside = s.beside; fresh = s.fresh; unsaved = now.fresh }

-- each new outcome of a crash is an old one, with this change or without it
abbrev pub May : (Stands → Stands) → (Stands → Type 0) → (Stands → Type 0) → Type 0
May change old new = (c : Stands) → new c → (d : Stands) × old d × ((c ≡ d) ⊎ (c ≡ change d))

-- a crash leaves this and nothing else
abbrev pub Only : Stands → (Stands → Type 0) → Type 0
Only s outcomes = (c : Stands) → outcomes c → c ≡ s

-- Time goes on: a crash since t might have left what it might have left before, or what it may leave now.
pub record Elapses (before now : ℕ) (past since : ℕ → Stands → Type 0) (may_leave : Stands → Type 0) : Type 0 where
  pub later : before ≤ now
  pub nothing_else : (t : ℕ) (c : Stands) → t ≤ before → since t c → past t c ⊎ may_leave c

-- A crash at any moment since old leaves names that have P.
pub record LeavesOnly {N : Type 0} (moment : N → ℕ) (left_since : N → ℕ → Stands → Type 0) (old new : N) (P : Stands → Type 0) : Type 0 where
  pub later : moment old ≤ moment new
  pub each : (c : Stands) → left_since new (moment old) c → P c

-- The name leads to what stood there, or to the new file; then what had to stay has its other name.
abbrev pub IsKept : Bool → Stands → Stands → Type 0
IsKept stays s c = (c.place ≡ s.place) ⊎ ((c.place ≡ s.fresh) × (stays ≡ true → c.beside ≡ s.place))

-- The name of the ledger, and that of what was kept, lead where they might have led.
abbrev pub IsElsewhere : (Stands → Type 0) → Stands → Type 0
IsElsewhere outcomes c = (d : Stands) × outcomes d × (c.place ≡ d.place) × (c.beside ≡ d.beside)
