-- The codes of modules: that each is linked code of its module.
--   IsCallee modules codes place m i c   the callee of a handle leads to the function that the handle names
--   IsCode modules codes place m code    the code is the module's
use Rattle.std.specs.Prelude.{◌≡◌, ℕ, List, length, Some, slice_get}
use Rattle.mv_move_types.specs.Module.{Module}
use Rattle.mv_linker.specs.declared.store.code.Callee.{Callee}
use Rattle.mv_linker.specs.declared.store.code.Callee.TheVariants.{Own, Foreign}
use Rattle.mv_linker.specs.declared.store.code.Code.{Code}
use Rattle.mv_interface.specs.Interface.{IsInterface}
use Rattle.mv_linker.specs.DependencyGraph.{AreNeeds}
use Rattle.mv_linker.specs.Lowered.{AreOthers, AreOwnSizes, IsCalled}
use Rattle.mv_lowering.specs.Lowered.{IsLowered}
use Rattle.mv_lowering.specs.Resolved.{AreWidths}
use Rattle.mv_linker.specs.Slots.{AreSlots, IsOpen}

-- the function that a handle names is that of a slot of the module at a place
pub record IsSlotOf (modules : List Module) (codes : List Code) (m : Module) (i place slot arguments : ℕ) : Type 0 where
  pub index : ℕ
  pub called : IsCalled modules m i (record { place = place; index = index }) arguments
  pub code : Code
  pub code_at : slice_get codes place ≡ Some code
  pub leads : slice_get code.exports.items slot ≡ Some index
  pub is_open : IsOpen called.at.home index called.at.index.name

-- the callee of a handle leads to the function that the handle names
abbrev pub IsCallee : List Module → List Code → ℕ → Module → ℕ → Callee → Type 0
IsCallee modules codes place m i (Own index arguments) = IsCalled modules m i (record { place = place; index = index }) arguments
IsCallee modules codes place m i (Foreign other slot arguments) = IsSlotOf modules codes m i other slot arguments

-- the code of a module at its place
pub record IsCode (modules : List Module) (codes : List Code) (place : ℕ) (m : Module) (code : Code) : Type 0 where
  pub widths : List ℕ
  pub handles : AreWidths modules m widths
  pub lowered : IsLowered place m widths code.functions.items code.literals.items
  pub count : length code.callees.items ≡ length m.function_handles
  pub callees : (i : ℕ) (c : Callee) → slice_get code.callees.items i ≡ Some c → IsCallee modules codes place m i c
  pub exports : AreSlots m code.exports.items
  pub others : AreOthers modules m code.others.items
  pub sizes : AreOwnSizes modules m code.sizes.items
  pub interface : IsInterface modules m code.interface
  pub needs : AreNeeds modules m code.needs
