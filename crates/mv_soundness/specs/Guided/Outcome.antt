-- The states that a run comes to.
use Rattle.std.specs.Prelude.{◌≡◌, ℕ, List, Ok}
use Rattle.mv_move_types.specs.Module.{Module}
use Rattle.mv_machine.specs.State.{State}
use Rattle.mv_machine.specs.StepParts.{Goes}
use Rattle.mv_machine.specs.Step.{step}

-- steps lead from one state to another, whatever is counted
pub data ComesTo (modules : List Module) (s : State) : State → Type 0 where
  at_once : ComesTo modules s s
  onward : (t next : State) (steps : ℕ) → ComesTo modules s t → step modules t ≡ Ok (Goes next) → ComesTo modules s (record next { steps = steps })
