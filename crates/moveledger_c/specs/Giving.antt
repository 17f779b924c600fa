-- Texts that are given to C.
--   IsGiven    one text
--   AreGiven   two texts, or neither
use Rattle.std.specs.Prelude.{◌≡◌, ℕ, ℤ, List, [], Result, Ok, Err, ◌⊎◌}
use Rattle.std.specs.Global.{Vec}
use Rattle.std.specs.declared.alloc.AllocError.{AllocError}
use Rattle.moveledger_c.specs.Statuses.{done, memory}

-- the text is given; or memory ran out, here or before, and none is
abbrev pub IsGiven : Result (Vec ℕ) AllocError → ℤ → List ℕ → Type 0
IsGiven (Ok v) status text = ((status ≡ done) × (text ≡ v.items)) ⊎ ((status ≡ memory) × (text ≡ []))
IsGiven (Err e) status text = (status ≡ memory) × (text ≡ [])

-- both texts are given; or memory ran out, here or before, and neither is
abbrev pub AreGiven : (first second : Result (Vec ℕ) AllocError) → ℤ → (text other : List ℕ) → Type 0
AreGiven (Ok v) (Ok w) status text other =
    ((status ≡ done) × (text ≡ v.items) × (other ≡ w.items)) ⊎ ((status ≡ memory) × (text ≡ []) × (other ≡ []))
AreGiven _ _ status text other = (status ≡ memory) × (text ≡ []) × (other ≡ [])
