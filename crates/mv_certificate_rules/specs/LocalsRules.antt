-- What is known of locals, its order, and the rules that change it.
--   availability_leq, locals_leq   the order of availabilities, and of states: Maybe is above both others
--   start_locals m d               the state at a function's start: its parameters hold values
--   needs_available l              the local holds a value: it may be read, moved or borrowed
--   store_known, leave_known       StLoc and Ret: what may be lost has to have drop
--   locals_after p i locals        phase 10: the state after an instruction, if the one before it is what it needs
-- The others are parts of these.
use Rattle.std.specs.Prelude.{Bool, true, false, ◌&&◌, List, [], ◌∷◌, ℕ, Option, slice_get, Some, slice_set, ◌++◌, ◌-◌, length, replicate}
use Rattle.std.specs.Bool.{then_some}
use Rattle.std.specs.Option.{option_map_or}
use Rattle.mv_move_types.specs.declared.borrow.Availability.{Availability}
use Rattle.mv_move_types.specs.declared.borrow.Availability.TheVariants.{Unavailable, Available, Maybe}
use Rattle.mv_move_types.specs.Options.{◌>>=◌}
use Rattle.mv_move_types.specs.declared.token.Token.{Token}
use Rattle.mv_type_rules.specs.TypeRules.{token_abilities}
use Rattle.mv_type_rules.specs.TypesHold.{Point}
use Rattle.mv_move_types.specs.Module.{local_tokens, local_type, Module, FunctionDefinition, parameter_tokens}
use Rattle.mv_move_types.specs.declared.instruction.Instruction.{Instruction}
use Rattle.mv_move_types.specs.declared.instruction.Instruction.TheVariants.{Ret, CopyLoc, MoveLoc, StLoc, MutBorrowLoc, ImmBorrowLoc}

-- each availability is below itself and below Maybe
abbrev pub availability_leq : Availability → Availability → Bool
availability_leq a Maybe = true
availability_leq Available Available = true
availability_leq Unavailable Unavailable = true
availability_leq _ _ = false

-- each local's availability is below the other one's
abbrev pub locals_leq : List Availability → List Availability → Bool
locals_leq [] [] = true
locals_leq [] (b ∷ bs) = false
locals_leq (a ∷ rest) [] = false
locals_leq (a ∷ rest) (b ∷ bs) = availability_leq a b && locals_leq rest bs

-- whether a local surely holds a value
abbrev pub is_available : Availability → Bool
is_available Available = true
is_available Unavailable = false
is_available Maybe = false

-- at the start the parameters hold values, and the other locals hold none
abbrev pub start_locals : Module → FunctionDefinition → Option (List Availability)
start_locals m d = do
  parameters ← parameter_tokens m d
  locals ← local_tokens m d
  Some (replicate (length parameters) Available ++ replicate (length locals - length parameters) Unavailable)

-- the local may be read, moved or borrowed
abbrev pub needs_available : ℕ → List Availability → Option (List Availability)
needs_available l locals = slice_get locals l >>= λ a. then_some (is_available a) locals

-- whether values of a type may be dropped
abbrev pub has_drop : Point → Token → Bool
has_drop p t = option_map_or (λ a. a.drop) (token_abilities p.home t) false

-- what may still stand in the local may be dropped
abbrev pub may_overwrite : Point → Token → Availability → Bool
may_overwrite p t Unavailable = true
may_overwrite p t Available = has_drop p t
may_overwrite p t Maybe = has_drop p t

-- each local that can't be dropped holds nothing
abbrev pub may_leave : Point → List Token → List Availability → Bool
may_leave p (t ∷ ts) (Unavailable ∷ locals) = may_leave p ts locals
may_leave p (t ∷ ts) (Available ∷ locals) = has_drop p t && may_leave p ts locals
may_leave p (t ∷ ts) (Maybe ∷ locals) = has_drop p t && may_leave p ts locals
may_leave p ts [] = true
may_leave p [] locals = true

-- a write needs drop where a value may still stand, and makes the local available
abbrev pub store_known : Point → ℕ → List Availability → Option (List Availability)
store_known p l locals = do
  t ← local_type p.home p.function l
  a ← slice_get locals l
  then_some (may_overwrite p t a) (slice_set locals l Available)

-- a return leaves no local behind that may hold what can't be dropped
abbrev pub leave_known : Point → List Availability → Option (List Availability)
leave_known p locals = local_tokens p.home p.function >>= λ ts. then_some (may_leave p ts locals) locals

-- the availabilities after an instruction, if those before it are what it needs
unfoldable pub locals_after : Point → Instruction → List Availability → Option (List Availability)
locals_after p (CopyLoc l) locals = needs_available l locals
locals_after p (MoveLoc l) locals = needs_available l locals >>= λ before. Some (slice_set before l Unavailable)
locals_after p (StLoc l) locals = store_known p l locals
locals_after p (MutBorrowLoc l) locals = needs_available l locals
locals_after p (ImmBorrowLoc l) locals = needs_available l locals
locals_after p Ret locals = leave_known p locals
locals_after p _ locals = Some locals
