-- No live reference leads into what a step empties, overwrites or leaves behind.
--   Avoid, FrameAvoids, BelowAvoid       no reference of a list, of a frame, of the waiting frames leads to such a root
--   Unreached gone s                     none of the state's does
--   Unborrowed s l                       none leads into a local that holds a value other than a reference
--   Unlent s k                           none leads into what is stored at the address on top
--   Leaving s                            none that outlives the frame leads into its locals
--   Guarded i s, StepGuarded modules s   what the borrow rules have to give at an instruction that empties, overwrites or leaves;
--                                        the same of the one that comes next
use Rattle.std.specs.Prelude.{◌≡◌, ℕ, List, [], ◌∷◌, filter_map, Option, Some, None, slice_get}
use Rattle.mv_move_types.specs.declared.token.LeafKind.TheVariants.{Address}
use Rattle.mv_move_types.specs.declared.instruction.Instruction.{Instruction}
use Rattle.mv_move_types.specs.declared.instruction.Instruction.TheVariants.{Ret, MoveLoc, StLoc, MoveFrom}
use Rattle.mv_move_types.specs.Module.{Module, FunctionDefinition}
use Rattle.mv_machine.specs.Value.{Root, Local, Stored, Reference, Value, Leaf}
use Rattle.mv_machine.specs.State.{Frame, State}
use Rattle.mv_machine.specs.Live.{reference_of, references, local_references}

-- none of these references leads there
abbrev pub Avoid : (Root → Type 0) → List Reference → Type 0
Avoid gone [] = Unit {0}
Avoid gone (r ∷ rs) = (gone r.place.root → ⊥) × Avoid gone rs

-- none of a frame's
abbrev pub FrameAvoids : (Root → Type 0) → Frame → Type 0
FrameAvoids gone f = Avoid gone (local_references f.locals) × Avoid gone (references f.stack)

-- none of the waiting frames', the lent arguments included
abbrev pub BelowAvoid : (Root → Type 0) → List (Option Reference) → List Frame → Type 0
BelowAvoid gone lent [] = Unit {0}
BelowAvoid gone lent (f ∷ fs) = Avoid gone (filter_map (λ r. r) lent) × FrameAvoids gone f × BelowAvoid gone f.entered_with fs

-- none of the state's
abbrev pub Unreached : (Root → Type 0) → State → Type 0
Unreached gone s = FrameAvoids gone s.top × BelowAvoid gone s.top.entered_with s.below

-- no live reference leads into a local of the frame at work that holds a value other than a reference
abbrev pub Unborrowed : State → ℕ → Type 0
Unborrowed s l = (v : Value) → slice_get s.top.locals l ≡ Some (Some v) → reference_of v ≡ None → Unreached (λ root. root ≡ Local s.top.number l) s

-- no live reference leads into what is stored at the address on top of the stack
abbrev pub Unlent : State → ℕ → Type 0
Unlent s k = (a : ℕ) (rest : List Value) → s.top.stack ≡ Leaf Address a ∷ rest
    → Unreached (λ root. root ≡ Stored (record { address = a; place = s.top.function.place; index = k })) s

-- no live reference of a result or of a waiting frame leads into the locals of the frame that returns
abbrev pub Leaving : State → Type 0
Leaving s = Avoid (λ root. (l : ℕ) × (root ≡ Local s.top.number l)) (references s.top.stack)
    × BelowAvoid (λ root. (l : ℕ) × (root ≡ Local s.top.number l)) [] s.below

-- what the borrow rules have to give at an instruction that removes something
abbrev pub Guarded : Instruction → State → Type 0
Guarded (MoveLoc l) s = Unborrowed s l
Guarded (StLoc l) s = Unborrowed s l
Guarded (MoveFrom i) s = Unlent s i
Guarded Ret s = Leaving s
Guarded _ s = Unit {0}

-- at the instruction that comes next
abbrev pub StepGuarded : List Module → State → Type 0
StepGuarded modules s =
    (home : Module) (function : FunctionDefinition) (i : Instruction)
    → slice_get modules s.top.function.place ≡ Some home → slice_get home.functions s.top.function.index ≡ Some function
    → slice_get function.code s.top.at ≡ Some i → Guarded i s
