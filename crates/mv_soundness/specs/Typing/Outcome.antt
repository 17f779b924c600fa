-- How a run ends that meets no fault.
use Rattle.std.specs.Prelude.{List}
use Rattle.mv_move_types.specs.Module.{Module}
use Rattle.mv_machine.specs.Run.{RunOutcome, Returned, Aborted, Exhausted, Faulted}
use Rattle.mv_soundness.specs.Typing.StateTyped.{StorageTyped}

-- no fault at all, and a typed storage at the end
abbrev pub Faultless : List Module → RunOutcome → Type 0
Faultless modules (Returned steps storage events) = StorageTyped modules storage
Faultless modules (Aborted kind number steps) = Unit {0}
Faultless modules (Exhausted stop steps) = Unit {0}
Faultless modules (Faulted fault steps) = ⊥
