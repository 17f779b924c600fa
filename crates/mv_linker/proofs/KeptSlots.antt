-- Slots that mean one function for ever.
--   IsSlot m exports s name    a slot leads to the public function of this name
--   KeepsSlots m old n new     each slot of an old module leads to a function of the same name in the new one
use Rattle.std.specs.Prelude.{◌≡◌, ℕ, List, Some, slice_get}
use Rattle.mv_move_types.specs.Module.{Module}
use Rattle.mv_linker.specs.Slots.{IsOpen}

-- a slot leads to the public function of this name
pub record IsSlot (m : Module) (exports : List ℕ) (s : ℕ) (name : List ℕ) : Type 0 where
  pub index : ℕ
  pub leads : slice_get exports s ≡ Some index
  pub function : IsOpen m index name

-- each slot of an old module leads to a function of the same name in the new one
abbrev pub KeepsSlots : Module → List ℕ → Module → List ℕ → Type 0
KeepsSlots m old n new = (s : ℕ) (name : List ℕ) → IsSlot m old s name → IsSlot n new s name
