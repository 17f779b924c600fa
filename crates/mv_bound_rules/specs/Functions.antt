-- What a function's index leads to.
use Rattle.std.specs.Prelude.{◌≡◌, ◌<◌, ℕ, List, length, map, slice_get, Some}
use Rattle.mv_move_types.specs.declared.instruction.Instruction.{Instruction}
use Rattle.mv_move_types.specs.declared.tables.FunctionHandle.{FunctionHandle}
use Rattle.mv_move_types.specs.Module.{Module, FunctionDefinition}

-- the definition at an index, and its handle, whose signatures are there
pub record IsDefined (m : Module) (f : ℕ) (d : FunctionDefinition) (h : FunctionHandle) : Type 0 where
  pub definition : slice_get m.functions f ≡ Some d
  pub handle : slice_get m.function_handles d.handle ≡ Some h
  pub parameters : h.parameters < length m.signatures
  pub results : h.results < length m.signatures
  pub locals : d.locals < length m.signatures

-- the code of each function
abbrev pub codes_of : Module → List (List Instruction)
codes_of m = map (λ (d : FunctionDefinition). d.code) m.functions
