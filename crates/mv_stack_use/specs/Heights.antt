-- The height of the operand stack: what each instruction takes and gives.
--   StackEffect                             how many operands an instruction takes, and how many it gives
--   call_effect, .., unpack_effect          what depends on a signature or on a struct's fields
--   effect_of m d i                         the effect of each instruction: a line for each
--   raised height e                         the height after it, within the limit (why only between instructions: decision 5)
--   height_through m d is height            the height after these instructions
--   block_is_level, function_is_level m d   a block, and each block of a function, begins and ends with nothing on the stack
use Rattle.std.specs.Prelude.{ℕ, ◌+◌, ◌-◌, Bool, false, ◌&&◌, ◌==◌, nat_le, List, [], ◌∷◌, length, Option, Some, slice_get, slice_range}
use Rattle.std.specs.Bool.{then_some}
use Rattle.std.specs.List.{list_all}
use Rattle.std.specs.Option.{option_map_or}
use Rattle.mv_move_types.specs.Limits.{most_operands}
use Rattle.mv_move_types.specs.declared.instruction.Instruction.{Instruction}
use Rattle.mv_move_types.specs.declared.instruction.Instruction.TheVariants.{Pop, Ret, BrTrue, BrFalse, Branch, LdU64, LdConst, LdTrue, LdFalse}
use Rattle.mv_move_types.specs.declared.instruction.Instruction.TheVariants.{CopyLoc, MoveLoc, StLoc, MutBorrowLoc, ImmBorrowLoc, MutBorrowField}
use Rattle.mv_move_types.specs.declared.instruction.Instruction.TheVariants.{ImmBorrowField, Call, Pack, Unpack, ReadRef, WriteRef, Add, Sub, Mul}
use Rattle.mv_move_types.specs.declared.instruction.Instruction.TheVariants.{Mod, Div, BitOr, BitAnd, Xor, Or, And, Not, Eq, Neq, Lt, Gt, Le, Ge}
use Rattle.mv_move_types.specs.declared.instruction.Instruction.TheVariants.{Abort, Nop, Exists, MutBorrowGlobal, ImmBorrowGlobal, MoveFrom, MoveTo}
use Rattle.mv_move_types.specs.declared.instruction.Instruction.TheVariants.{FreezeRef, Shl, Shr, LdU8, LdU128, CastU8, CastU64, CastU128, LdU16}
use Rattle.mv_move_types.specs.declared.instruction.Instruction.TheVariants.{LdU32, CastU16, CastU32}
use Rattle.mv_move_types.specs.Options.{◌>>=◌}
use Rattle.mv_move_types.specs.Module.{Module, FunctionDefinition}
use Rattle.mv_cfg.specs.Blocks.{BasicBlock, blocks}

-- how many operands an instruction takes, and how many it gives
pub record StackEffect : Type 0 where
  pub takes : ℕ
  pub gives : ℕ

-- an instruction takes so many, and gives so many
abbrev pub effect : ℕ → ℕ → Option StackEffect
effect takes gives = Some (record { takes = takes; gives = gives })

-- a call takes the parameters and gives the results
abbrev pub call_effect : Module → ℕ → Option StackEffect
call_effect m i = do
  handle ← slice_get m.function_handles i
  parameters ← slice_get m.signatures handle.parameters
  results ← slice_get m.signatures handle.results
  effect (length parameters) (length results)

-- a return takes the results
abbrev pub return_effect : Module → FunctionDefinition → Option StackEffect
return_effect m d = do
  handle ← slice_get m.function_handles d.handle
  results ← slice_get m.signatures handle.results
  effect (length results) 0

-- a struct is made of its fields
abbrev pub pack_effect : Module → ℕ → Option StackEffect
pack_effect m i = slice_get m.structs i >>= λ struct. effect (length struct.fields) 1

-- and taken apart into them
abbrev pub unpack_effect : Module → ℕ → Option StackEffect
unpack_effect m i = slice_get m.structs i >>= λ struct. effect 1 (length struct.fields)

-- the effect of each instruction, where what it names is there
abbrev pub effect_of : Module → FunctionDefinition → Instruction → Option StackEffect
effect_of m d Pop = effect 1 0
effect_of m d Ret = return_effect m d
effect_of m d (BrTrue t) = effect 1 0
effect_of m d (BrFalse t) = effect 1 0
effect_of m d (Branch t) = effect 0 0
effect_of m d (LdU64 n) = effect 0 1
effect_of m d (LdConst i) = effect 0 1
effect_of m d LdTrue = effect 0 1
effect_of m d LdFalse = effect 0 1
effect_of m d (CopyLoc l) = effect 0 1
effect_of m d (MoveLoc l) = effect 0 1
effect_of m d (StLoc l) = effect 1 0
effect_of m d (MutBorrowLoc l) = effect 0 1
effect_of m d (ImmBorrowLoc l) = effect 0 1
effect_of m d (MutBorrowField i) = effect 1 1
effect_of m d (ImmBorrowField i) = effect 1 1
effect_of m d (Call i) = call_effect m i
effect_of m d (Pack i) = pack_effect m i
effect_of m d (Unpack i) = unpack_effect m i
effect_of m d ReadRef = effect 1 1
effect_of m d WriteRef = effect 2 0
effect_of m d Add = effect 2 1
effect_of m d Sub = effect 2 1
effect_of m d Mul = effect 2 1
effect_of m d Mod = effect 2 1
effect_of m d Div = effect 2 1
effect_of m d BitOr = effect 2 1
effect_of m d BitAnd = effect 2 1
effect_of m d Xor = effect 2 1
effect_of m d Or = effect 2 1
effect_of m d And = effect 2 1
effect_of m d Not = effect 1 1
effect_of m d Eq = effect 2 1
effect_of m d Neq = effect 2 1
effect_of m d Lt = effect 2 1
effect_of m d Gt = effect 2 1
effect_of m d Le = effect 2 1
effect_of m d Ge = effect 2 1
effect_of m d Abort = effect 1 0
effect_of m d Nop = effect 0 0
effect_of m d (Exists i) = effect 1 1
effect_of m d (MutBorrowGlobal i) = effect 1 1
effect_of m d (ImmBorrowGlobal i) = effect 1 1
effect_of m d (MoveFrom i) = effect 1 1
effect_of m d (MoveTo i) = effect 2 0
effect_of m d FreezeRef = effect 1 1
effect_of m d Shl = effect 2 1
effect_of m d Shr = effect 2 1
effect_of m d (LdU8 n) = effect 0 1
effect_of m d (LdU128 n) = effect 0 1
effect_of m d CastU8 = effect 1 1
effect_of m d CastU64 = effect 1 1
effect_of m d CastU128 = effect 1 1
effect_of m d (LdU16 n) = effect 0 1
effect_of m d (LdU32 n) = effect 0 1
effect_of m d CastU16 = effect 1 1
effect_of m d CastU32 = effect 1 1

-- the height after an effect, where there is as much as it takes and the stack never has more than 128
abbrev pub raised : ℕ → StackEffect → Option ℕ
raised height e = then_some (nat_le e.takes height && nat_le (height - e.takes + e.gives) most_operands) (height - e.takes + e.gives)

-- the height after these instructions
abbrev pub height_through : Module → FunctionDefinition → List Instruction → ℕ → Option ℕ
height_through m d [] height = Some height
height_through m d (i ∷ is) height = do
  e ← effect_of m d i
  after ← raised height e
  height_through m d is after

-- a block begins and ends with nothing on the stack
abbrev pub block_is_level : Module → FunctionDefinition → BasicBlock → Bool
block_is_level m d b = option_map_or (λ h. h == 0) (height_through m d (slice_range d.code b.first (b.last + 1)) 0) false

-- in every block, reached or not
abbrev pub function_is_level : Module → FunctionDefinition → Bool
function_is_level m d = list_all (block_is_level m d) (blocks d.code)
