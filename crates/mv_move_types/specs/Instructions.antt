-- What an instruction names or holds, how control leaves it, and the table of opcodes.
--   immediate_of i        what an instruction names or holds: an index, a target or a number
--   exit_of i             how control leaves it
--   Form, Row             an opcode's form, and its row in the table
--   rows                  the table of opcodes
--   given form n          the instruction of a form, with its index or number
--   row_of version code   the row of an opcode, in a version that has it
--   code_of i             an instruction's opcode
use Rattle.std.specs.Prelude.{ℕ, Bool, true, false, not, ◌==◌, ◌&&◌, ◌||◌, List, [], ◌∷◌, Option, option_map, find}
use Rattle.mv_move_types.specs.declared.token.Width.{Width}
use Rattle.mv_move_types.specs.declared.token.Width.TheVariants.{U8, U16, U32, U64, U128}
use Rattle.mv_move_types.specs.declared.instruction.Instruction.{Instruction}
use Rattle.mv_move_types.specs.declared.instruction.Instruction.TheVariants.{Pop, Ret, BrTrue, BrFalse, Branch, LdU64, LdConst, LdTrue, LdFalse}
use Rattle.mv_move_types.specs.declared.instruction.Instruction.TheVariants.{CopyLoc, MoveLoc, StLoc, MutBorrowLoc, ImmBorrowLoc, MutBorrowField}
use Rattle.mv_move_types.specs.declared.instruction.Instruction.TheVariants.{ImmBorrowField, Call, Pack, Unpack, ReadRef, WriteRef, Add, Sub, Mul}
use Rattle.mv_move_types.specs.declared.instruction.Instruction.TheVariants.{Mod, Div, BitOr, BitAnd, Xor, Or, And, Not, Eq, Neq, Lt, Gt, Le, Ge}
use Rattle.mv_move_types.specs.declared.instruction.Instruction.TheVariants.{Abort, Nop, Exists, MutBorrowGlobal, ImmBorrowGlobal, MoveFrom, MoveTo}
use Rattle.mv_move_types.specs.declared.instruction.Instruction.TheVariants.{FreezeRef, Shl, Shr, LdU8, LdU128, CastU8, CastU64, CastU128, LdU16}
use Rattle.mv_move_types.specs.declared.instruction.Instruction.TheVariants.{LdU32, CastU16, CastU32}
use Rattle.mv_move_types.specs.declared.instruction.Immediate.{Immediate}
use Rattle.mv_move_types.specs.declared.instruction.Immediate.TheVariants.{Nothing, Local, Struct, Field, Function, Constant, Target, Literal}
use Rattle.mv_move_types.specs.declared.instruction.Exit.{Exit}
use Rattle.mv_move_types.specs.declared.instruction.Exit.TheVariants.{Next, Fork, Jump, Leave}

-- what an instruction names or holds
abbrev pub immediate_of : Instruction → Immediate
immediate_of Pop = Nothing
immediate_of Ret = Nothing
immediate_of (BrTrue i) = Target i
immediate_of (BrFalse i) = Target i
immediate_of (Branch i) = Target i
immediate_of (LdU64 n) = Literal U64 n
immediate_of (LdConst i) = Constant i
immediate_of LdTrue = Nothing
immediate_of LdFalse = Nothing
immediate_of (CopyLoc i) = Local i
immediate_of (MoveLoc i) = Local i
immediate_of (StLoc i) = Local i
immediate_of (MutBorrowLoc i) = Local i
immediate_of (ImmBorrowLoc i) = Local i
immediate_of (MutBorrowField i) = Field i
immediate_of (ImmBorrowField i) = Field i
immediate_of (Call i) = Function i
immediate_of (Pack i) = Struct i
immediate_of (Unpack i) = Struct i
immediate_of ReadRef = Nothing
immediate_of WriteRef = Nothing
immediate_of Add = Nothing
immediate_of Sub = Nothing
immediate_of Mul = Nothing
immediate_of Mod = Nothing
immediate_of Div = Nothing
immediate_of BitOr = Nothing
immediate_of BitAnd = Nothing
immediate_of Xor = Nothing
immediate_of Or = Nothing
immediate_of And = Nothing
immediate_of Not = Nothing
immediate_of Eq = Nothing
immediate_of Neq = Nothing
immediate_of Lt = Nothing
immediate_of Gt = Nothing
immediate_of Le = Nothing
immediate_of Ge = Nothing
immediate_of Abort = Nothing
immediate_of Nop = Nothing
immediate_of (Exists i) = Struct i
immediate_of (MutBorrowGlobal i) = Struct i
immediate_of (ImmBorrowGlobal i) = Struct i
immediate_of (MoveFrom i) = Struct i
immediate_of (MoveTo i) = Struct i
immediate_of FreezeRef = Nothing
immediate_of Shl = Nothing
immediate_of Shr = Nothing
immediate_of (LdU8 n) = Literal U8 n
immediate_of (LdU128 n) = Literal U128 n
immediate_of CastU8 = Nothing
immediate_of CastU64 = Nothing
immediate_of CastU128 = Nothing
immediate_of (LdU16 n) = Literal U16 n
immediate_of (LdU32 n) = Literal U32 n
immediate_of CastU16 = Nothing
immediate_of CastU32 = Nothing

-- how control leaves an instruction
abbrev pub exit_of : Instruction → Exit
exit_of Pop = Next
exit_of Ret = Leave
exit_of (BrTrue i) = Fork i
exit_of (BrFalse i) = Fork i
exit_of (Branch i) = Jump i
exit_of (LdU64 n) = Next
exit_of (LdConst i) = Next
exit_of LdTrue = Next
exit_of LdFalse = Next
exit_of (CopyLoc i) = Next
exit_of (MoveLoc i) = Next
exit_of (StLoc i) = Next
exit_of (MutBorrowLoc i) = Next
exit_of (ImmBorrowLoc i) = Next
exit_of (MutBorrowField i) = Next
exit_of (ImmBorrowField i) = Next
exit_of (Call i) = Next
exit_of (Pack i) = Next
exit_of (Unpack i) = Next
exit_of ReadRef = Next
exit_of WriteRef = Next
exit_of Add = Next
exit_of Sub = Next
exit_of Mul = Next
exit_of Mod = Next
exit_of Div = Next
exit_of BitOr = Next
exit_of BitAnd = Next
exit_of Xor = Next
exit_of Or = Next
exit_of And = Next
exit_of Not = Next
exit_of Eq = Next
exit_of Neq = Next
exit_of Lt = Next
exit_of Gt = Next
exit_of Le = Next
exit_of Ge = Next
exit_of Abort = Leave
exit_of Nop = Next
exit_of (Exists i) = Next
exit_of (MutBorrowGlobal i) = Next
exit_of (ImmBorrowGlobal i) = Next
exit_of (MoveFrom i) = Next
exit_of (MoveTo i) = Next
exit_of FreezeRef = Next
exit_of Shl = Next
exit_of Shr = Next
exit_of (LdU8 n) = Next
exit_of (LdU128 n) = Next
exit_of CastU8 = Next
exit_of CastU64 = Next
exit_of CastU128 = Next
exit_of (LdU16 n) = Next
exit_of (LdU32 n) = Next
exit_of CastU16 = Next
exit_of CastU32 = Next

-- an instruction alone, one for each index, or one for each number of a width
pub data Form : Type 0 where
  Bare : (instruction : Instruction) → Form
  Indexed : (make : ℕ → Instruction) → Form
  Numbered : (width : Width) (make : ℕ → Instruction) → Form

-- an opcode, whether version 6 alone has it, and what it stands for
pub record Row : Type 0 where
  pub code : ℕ
  pub is_late : Bool
  pub form : Form

-- an opcode of all versions
abbrev pub row : ℕ → Form → Row
row code form = record { code = code; is_late = false; form = form }

-- an opcode of version 6 alone
abbrev pub late_row : ℕ → Form → Row
late_row code form = record { code = code; is_late = true; form = form }

-- the opcodes
abbrev pub rows : List Row
rows =
    row 0x01 (Bare Pop)
    ∷ row 0x02 (Bare Ret)
    ∷ row 0x03 (Indexed BrTrue)
    ∷ row 0x04 (Indexed BrFalse)
    ∷ row 0x05 (Indexed Branch)
    ∷ row 0x06 (Numbered U64 LdU64)
    ∷ row 0x07 (Indexed LdConst)
    ∷ row 0x08 (Bare LdTrue)
    ∷ row 0x09 (Bare LdFalse)
    ∷ row 0x0A (Indexed CopyLoc)
    ∷ row 0x0B (Indexed MoveLoc)
    ∷ row 0x0C (Indexed StLoc)
    ∷ row 0x0D (Indexed MutBorrowLoc)
    ∷ row 0x0E (Indexed ImmBorrowLoc)
    ∷ row 0x0F (Indexed MutBorrowField)
    ∷ row 0x10 (Indexed ImmBorrowField)
    ∷ row 0x11 (Indexed Call)
    ∷ row 0x12 (Indexed Pack)
    ∷ row 0x13 (Indexed Unpack)
    ∷ row 0x14 (Bare ReadRef)
    ∷ row 0x15 (Bare WriteRef)
    ∷ row 0x16 (Bare Add)
    ∷ row 0x17 (Bare Sub)
    ∷ row 0x18 (Bare Mul)
    ∷ row 0x19 (Bare Mod)
    ∷ row 0x1A (Bare Div)
    ∷ row 0x1B (Bare BitOr)
    ∷ row 0x1C (Bare BitAnd)
    ∷ row 0x1D (Bare Xor)
    ∷ row 0x1E (Bare Or)
    ∷ row 0x1F (Bare And)
    ∷ row 0x20 (Bare Not)
    ∷ row 0x21 (Bare Eq)
    ∷ row 0x22 (Bare Neq)
    ∷ row 0x23 (Bare Lt)
    ∷ row 0x24 (Bare Gt)
    ∷ row 0x25 (Bare Le)
    ∷ row 0x26 (Bare Ge)
    ∷ row 0x27 (Bare Abort)
    ∷ row 0x28 (Bare Nop)
    ∷ row 0x29 (Indexed Exists)
    ∷ row 0x2A (Indexed MutBorrowGlobal)
    ∷ row 0x2B (Indexed ImmBorrowGlobal)
    ∷ row 0x2C (Indexed MoveFrom)
    ∷ row 0x2D (Indexed MoveTo)
    ∷ row 0x2E (Bare FreezeRef)
    ∷ row 0x2F (Bare Shl)
    ∷ row 0x30 (Bare Shr)
    ∷ row 0x31 (Numbered U8 LdU8)
    ∷ row 0x32 (Numbered U128 LdU128)
    ∷ row 0x33 (Bare CastU8)
    ∷ row 0x34 (Bare CastU64)
    ∷ row 0x35 (Bare CastU128)
    ∷ late_row 0x48 (Numbered U16 LdU16)
    ∷ late_row 0x49 (Numbered U32 LdU32)
    ∷ late_row 0x4B (Bare CastU16)
    ∷ late_row 0x4C (Bare CastU32)
    ∷ []

-- the instruction of a form, with this index or number where it has one
abbrev pub given : Form → ℕ → Instruction
given (Bare instruction) n = instruction
given (Indexed make) n = make n
given (Numbered width make) n = make n

-- whether a row is the opcode's, in a version that has it
abbrev pub is_row_of : ℕ → ℕ → Row → Bool
is_row_of version code r = (r.code == code) && (not r.is_late || version == 6)

-- the row of an opcode in a version
abbrev pub row_of : ℕ → ℕ → Option Row
row_of version code = find (is_row_of version code) rows

-- an instruction's opcode
abbrev pub code_of : Instruction → ℕ
code_of Pop = 0x01
code_of Ret = 0x02
code_of (BrTrue i) = 0x03
code_of (BrFalse i) = 0x04
code_of (Branch i) = 0x05
code_of (LdU64 n) = 0x06
code_of (LdConst i) = 0x07
code_of LdTrue = 0x08
code_of LdFalse = 0x09
code_of (CopyLoc i) = 0x0A
code_of (MoveLoc i) = 0x0B
code_of (StLoc i) = 0x0C
code_of (MutBorrowLoc i) = 0x0D
code_of (ImmBorrowLoc i) = 0x0E
code_of (MutBorrowField i) = 0x0F
code_of (ImmBorrowField i) = 0x10
code_of (Call i) = 0x11
code_of (Pack i) = 0x12
code_of (Unpack i) = 0x13
code_of ReadRef = 0x14
code_of WriteRef = 0x15
code_of Add = 0x16
code_of Sub = 0x17
code_of Mul = 0x18
code_of Mod = 0x19
code_of Div = 0x1A
code_of BitOr = 0x1B
code_of BitAnd = 0x1C
code_of Xor = 0x1D
code_of Or = 0x1E
code_of And = 0x1F
code_of Not = 0x20
code_of Eq = 0x21
code_of Neq = 0x22
code_of Lt = 0x23
code_of Gt = 0x24
code_of Le = 0x25
code_of Ge = 0x26
code_of Abort = 0x27
code_of Nop = 0x28
code_of (Exists i) = 0x29
code_of (MutBorrowGlobal i) = 0x2A
code_of (ImmBorrowGlobal i) = 0x2B
code_of (MoveFrom i) = 0x2C
code_of (MoveTo i) = 0x2D
code_of FreezeRef = 0x2E
code_of Shl = 0x2F
code_of Shr = 0x30
code_of (LdU8 n) = 0x31
code_of (LdU128 n) = 0x32
code_of CastU8 = 0x33
code_of CastU64 = 0x34
code_of CastU128 = 0x35
code_of (LdU16 n) = 0x48
code_of (LdU32 n) = 0x49
code_of CastU16 = 0x4B
code_of CastU32 = 0x4C
