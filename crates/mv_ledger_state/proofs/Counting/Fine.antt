-- States that are fine over a store whose abilities hold, and what a step moves.
use Rattle.std.specs.Prelude.{◌≡◌, ◌+◌, List, [], ◌∷◌, Option, Some, None}
use Rattle.mv_move_types.specs.Names.{StructName}
use Rattle.mv_move_types.specs.Module.{Module}
use Rattle.mv_machine.specs.Value.{Value}
use Rattle.mv_machine.specs.State.{Frame, State, frames}
use Rattle.mv_soundness.specs.Typing.StateTyped.{Numbered}
use Rattle.mv_ledger_state.specs.Counting.Kept.{IsKept, StorageIsKept, IsAscending}
use Rattle.mv_ledger_state.proofs.Counting.Held.{held, made, unmade}

-- all operands are kept (specs/Counting/Kept.antt)
abbrev pub StackIsKept : List Module → List Value → Type 0
StackIsKept modules [] = Unit {0}
StackIsKept modules (v ∷ vs) = IsKept modules v × StackIsKept modules vs

-- so with what a local holds
abbrev pub LocalIsKept : List Module → Option Value → Type 0
LocalIsKept modules None = Unit {0}
LocalIsKept modules (Some v) = IsKept modules v

-- so with all locals
abbrev pub LocalsAreKept : List Module → List (Option Value) → Type 0
LocalsAreKept modules [] = Unit {0}
LocalsAreKept modules (x ∷ xs) = LocalIsKept modules x × LocalsAreKept modules xs

-- so with a frame
pub record FrameIsKept (modules : List Module) (f : Frame) : Type 0 where
  pub locals : LocalsAreKept modules f.locals
  pub stack : StackIsKept modules f.stack

-- so with frames
abbrev pub FramesAreKept : List Module → List Frame → Type 0
FramesAreKept modules [] = Unit {0}
FramesAreKept modules (f ∷ fs) = FrameIsKept modules f × FramesAreKept modules fs

-- values are kept, keys ascend, and no two frames have one number
pub record IsFine (modules : List Module) (s : State) : Type 0 where
  pub framed : FramesAreKept modules (frames s)
  pub stored : StorageIsKept modules s.storage
  pub ascending : IsAscending s.storage
  pub numbered : Numbered s.entered (frames s)

-- from one state to another as many values are made as unmade or there in addition
abbrev pub Balances : StructName → State → State → Type 0
Balances name s t = (held name t + unmade name t.events) + made name s.events ≡ (held name s + unmade name s.events) + made name t.events
