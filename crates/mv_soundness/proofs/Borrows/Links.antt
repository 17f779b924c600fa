-- How a waiting frame and the frame above it belong together.
use Rattle.std.specs.Prelude.{◌≡◌, ◌⊎◌, ℕ, ◌<◌, true, ◌==◌, List, length, Some, slice_get, Ok, ⊤}
use Rattle.std.specs.List.{list_any}
use Rattle.mv_move_types.specs.declared.tables.FunctionHandle.{FunctionHandle}
use Rattle.mv_move_types.specs.declared.token.Token.{Token}
use Rattle.mv_move_types.specs.declared.instruction.Instruction.TheVariants.{Call, MutBorrowGlobal, ImmBorrowGlobal, MoveFrom}
use Rattle.mv_move_types.specs.Module.{Module, FunctionDefinition, own_acquires}
use Rattle.mv_machine.specs.State.{Frame}
use Rattle.mv_machine.specs.StepParts.{Here}
use Rattle.mv_machine.specs.StepControl.{Callee, callee}
use Rattle.mv_move_types.specs.declared.instruction.Instruction.{Instruction}

-- the lower frame, of this function, waits at a Call, by which the upper one, whose function has this acquires list, was entered
pub record IsCall (depends : ℕ → ℕ → Type 0) (home : Module) (function : FunctionDefinition) (lower upper : Frame) (acquires : List ℕ) : Type 0 where
  pub index : ℕ
  pub handle : FunctionHandle
  pub parameters : List Token
  pub results : List Token
  pub is_call : slice_get function.code lower.at ≡ Some (Call index)
  pub is_handle : slice_get home.function_handles index ≡ Some handle
  pub is_parameters : slice_get home.signatures handle.parameters ≡ Some parameters
  pub is_results : slice_get home.signatures handle.results ≡ Some results
  -- so many arguments were lent
  pub passed : length upper.entered_with ≡ length parameters
  pub later : lower.number < upper.number
  -- within one module the callee is the function with this handle, and what it acquires the caller acquires
  pub own : lower.function.place ≡ upper.function.place → own_acquires home index ≡ acquires
  pub acquired : (t : ℕ) → list_any (λ y. y == t) (own_acquires home index) ≡ true → list_any (λ y. y == t) function.acquires ≡ true
  -- the callee's module is the caller's, or one that it depends on
  pub leads : (lower.function.place ≡ upper.function.place) ⊎ depends lower.function.place upper.function.place

-- what the store's rules give of a Call by this instruction: within one module the callee is the function with the handle, its module is the own one
-- or one that the own depends on, and the caller acquires what it acquires
pub record CallFacts (depends : ℕ → ℕ → Type 0) (h : Here) (i : ℕ) : Type 0 where
  pub own : (c : Callee) → callee h i ≡ Ok c → h.state.top.function.place ≡ c.function.place → own_acquires h.home i ≡ c.definition.acquires
  pub leads : (c : Callee) → callee h i ≡ Ok c → (h.state.top.function.place ≡ c.function.place) ⊎ depends h.state.top.function.place c.function.place
  pub acquired : (t : ℕ) → list_any (λ y. y == t) (own_acquires h.home i) ≡ true → list_any (λ y. y == t) h.function.acquires ≡ true

-- the struct definitions that the instruction reaches in the storage are in the acquires list
abbrev pub Reaches : List ℕ → Instruction → Type 0
Reaches acquires (MoveFrom i) = list_any (λ z. z == i) acquires ≡ true
Reaches acquires (MutBorrowGlobal i) = list_any (λ z. z == i) acquires ≡ true
Reaches acquires (ImmBorrowGlobal i) = list_any (λ z. z == i) acquires ≡ true
Reaches acquires _ = ⊤
