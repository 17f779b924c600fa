-- How many values of a struct a state holds, and how often events made or unmade one.
use Rattle.std.specs.Prelude.{ℕ, ◌+◌, not, ◌&&◌, cond, List, [], ◌∷◌, Option, Some, None}
use Rattle.mv_move_types.specs.Names.{StructName, same_struct}
use Rattle.mv_machine.specs.Value.{Value}
use Rattle.mv_machine.specs.State.{Event, Frame, State}
use Rattle.mv_machine.specs.Count.{count, count_in}

-- the struct's values among operands
abbrev pub held_in_stack : StructName → List Value → ℕ
held_in_stack s [] = 0
held_in_stack s (v ∷ vs) = count_in s v + held_in_stack s vs

-- the struct's values in what a local holds
abbrev pub held_in_local : StructName → Option Value → ℕ
held_in_local s None = 0
held_in_local s (Some v) = count_in s v

-- the struct's values among locals
abbrev pub held_in_locals : StructName → List (Option Value) → ℕ
held_in_locals s [] = 0
held_in_locals s (x ∷ xs) = held_in_local s x + held_in_locals s xs

-- the struct's values in a frame
abbrev pub held_in_frame : StructName → Frame → ℕ
held_in_frame s f = held_in_locals s f.locals + held_in_stack s f.stack

-- the struct's values in frames
abbrev pub held_in_frames : StructName → List Frame → ℕ
held_in_frames s [] = 0
held_in_frames s (f ∷ fs) = held_in_frame s f + held_in_frames s fs

-- the struct's values in the storage and in all frames; what references lead to is not counted again
abbrev pub held : StructName → State → ℕ
held s state = count state.storage s + (held_in_frame s state.top + held_in_frames s state.below)

-- how many events made (or unmade) a value of the struct
abbrev pub made : StructName → List Event → ℕ
made s [] = 0
made s (e ∷ es) = cond (e.is_pack && same_struct e.struct s) 1 0 + made s es

abbrev pub unmade : StructName → List Event → ℕ
unmade s [] = 0
unmade s (e ∷ es) = cond (not e.is_pack && same_struct e.struct s) 1 0 + unmade s es
