-- What is promised of a reading that may take memory.
--   Takes show from old result new   the value that is shown so stood at the front, unless an allocation failed
--   Decides spelled result           the value is the one that is spelled, unless an allocation failed
use Rattle.std.specs.Prelude.{◌≡◌, Option, Some, None, Result, Ok, Err, ⊤}
use Rattle.mv_move_types.specs.declared.refusal.Refusal.{Refusal}
use Rattle.mv_move_types.specs.declared.refusal.Refusal.TheVariants.{Phase, Memory}

-- what was read stood at the front, and new is what is left; what was refused, in phase 2, stood not there
abbrev pub Takes : {A B S : Type 0} → (B → A) → (S → Option (A × S)) → S → Result B Refusal → S → Type 0
Takes show from old (Ok x) new = from old ≡ Some (show x, new)
Takes show from old (Err (Phase p)) new = (p ≡ 2) × (from old ≡ None)
Takes show from old (Err Memory) new = ⊤

-- what was read is what is spelled; where it was refused, in phase 2, nothing is
abbrev pub Decides : {A : Type 0} → Option A → Result A Refusal → Type 0
Decides spelled (Ok x) = spelled ≡ Some x
Decides spelled (Err (Phase p)) = (p ≡ 2) × (spelled ≡ None)
Decides spelled (Err Memory) = ⊤
