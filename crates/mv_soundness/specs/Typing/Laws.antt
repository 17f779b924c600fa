-- What a step does from a typed state over accepted modules.
use Rattle.std.specs.Prelude.{List, Result, Ok, Err}
use Rattle.mv_move_types.specs.Module.{Module}
use Rattle.mv_machine.specs.State.{State}
use Rattle.mv_machine.specs.Typing.{Failure}
use Rattle.mv_machine.specs.Step.{Turn, step}
use Rattle.mv_soundness.specs.Typing.StateTyped.{StateTyped, TurnTyped, Harmless}
use Rattle.mv_soundness.specs.Typing.Unreached.{StepGuarded}
use Rattle.mv_soundness.specs.Typing.Accepted.{StoreAccepted}

-- what a step leads to is typed, and if it fails it is by no fault of types, links or dangling references
abbrev pub StepTyped : List Module → Result Turn Failure → Type 0
StepTyped modules (Ok turn) = TurnTyped modules turn
StepTyped modules (Err failure) = Harmless failure

-- a step from a typed state, where no live reference leads into what it removes
abbrev pub EveryStepIsTyped : Type 0
EveryStepIsTyped =
    (modules : List Module) (s : State) → StoreAccepted modules → StateTyped modules s → StepGuarded modules s → StepTyped modules (step modules s)
