-- What a reader promises.
--   Reads from old result new          the value, at once
--   ReadsAs show from old result new   the value that is shown so, at once
--   Marks from old result new          bytes that have to be there, at once
--   Collects from old result new       the values of a list, in memory of its own
use Rattle.std.specs.Prelude.{◌≡◌, ℕ, List, Option, Some, None, Result, Ok, Err}
use Rattle.std.specs.declared.vec.Vec.{Vec}
use Rattle.std.specs.declared.alloc.Global.{Global}
use Rattle.mv_move_types.specs.declared.refusal.Refusal.{Refusal}
use Rattle.mv_move_types.specs.declared.refusal.Refusal.TheVariants.{Phase, Memory}
use Rattle.mv_module_text.specs.Parsing.{Read}

-- what was read stood at the front, and new is what is left; what was refused, in phase 2, stood not there
abbrev pub Reads : {A : Type 0} → (List ℕ → Read A) → List ℕ → Result A Refusal → List ℕ → Type 0
Reads from old (Ok x) new = from old ≡ Some (x, new)
Reads from old (Err e) new = (e ≡ Phase 2) × (from old ≡ None)

-- the same of a value that stands for another
abbrev pub ReadsAs : {A B : Type 0} → (B → A) → (List ℕ → Read A) → List ℕ → Result B Refusal → List ℕ → Type 0
ReadsAs show from old (Ok x) new = from old ≡ Some (show x, new)
ReadsAs show from old (Err e) new = (e ≡ Phase 2) × (from old ≡ None)

-- the same of bytes that have to be there
abbrev pub Marks : {A : Type 0} → (List ℕ → Option (List ℕ)) → List ℕ → Result A Refusal → List ℕ → Type 0
Marks from old (Ok u) new = from old ≡ Some new
Marks from old (Err e) new = (e ≡ Phase 2) × (from old ≡ None)

-- the same of a list; where an allocation failed, nothing was read
abbrev pub Collects : {A : Type 0} → (List ℕ → Read (List A)) → List ℕ → Result (Vec A Global) Refusal → List ℕ → Type 0
Collects from old (Ok v) new = from old ≡ Some (v.items, new)
Collects from old (Err (Phase p)) new = (p ≡ 2) × (from old ≡ None)
Collects from old (Err Memory) new = new ≡ old
