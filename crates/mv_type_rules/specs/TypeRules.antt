-- The types on the stack: what each instruction takes and gives.
-- First types on a stack and what is taken from it, then kinds of types, then a rule for each family, then all instructions.
--   Types                                    the types of the operands, the topmost first
--   top_type, taken wanted                   the topmost type; and the types below these, which have to be there
--   takes_gives wanted given                 takes these, and gives those
--   boolean, number w, address               the types of leaves
--   plain_of, target_of, mutable_target_of   what a type is of, or refers to
--   of_two_numbers, .., of_equality          the rules of numbers and tests
--   of_pop, of_copy, of_borrow_local         of operands and locals
--   of_mutable_field, .., of_return          of fields, calls and returns
--   of_pack, .., of_freeze                   of structs and references
--   of_global, of_move_to                    of the storage
--   types_after m d i s                      the types after an instruction, if those before it are what it needs: a line for each
use Rattle.std.specs.Prelude.{ℕ, Bool, List, [], ◌∷◌, ◌++◌, map, reverse, length, take, drop, Option, Some, None, slice_get}
use Rattle.std.specs.Bool.{then_some}
use Rattle.mv_move_types.specs.declared.token.Width.{Width}
use Rattle.mv_move_types.specs.declared.token.Width.TheVariants.{U8, U16, U32, U64, U128}
use Rattle.mv_move_types.specs.declared.token.LeafKind.TheVariants.{Boolean, Number, Address, Signer}
use Rattle.mv_move_types.specs.declared.token.ValueType.{ValueType}
use Rattle.mv_move_types.specs.declared.token.ValueType.TheVariants.{OfLeaf, OfStruct}
use Rattle.mv_move_types.specs.declared.token.Token.{Token}
use Rattle.mv_move_types.specs.declared.token.Token.TheVariants.{Plain, Reference, MutableReference}
use Rattle.mv_move_types.specs.declared.instruction.Instruction.{Instruction}
use Rattle.mv_move_types.specs.declared.instruction.Instruction.TheVariants.{Pop, Ret, BrTrue, BrFalse, Branch, LdU64, LdConst, LdTrue, LdFalse}
use Rattle.mv_move_types.specs.declared.instruction.Instruction.TheVariants.{CopyLoc, MoveLoc, StLoc, MutBorrowLoc, ImmBorrowLoc, MutBorrowField}
use Rattle.mv_move_types.specs.declared.instruction.Instruction.TheVariants.{ImmBorrowField, Call, Pack, Unpack, ReadRef, WriteRef, Add, Sub, Mul}
use Rattle.mv_move_types.specs.declared.instruction.Instruction.TheVariants.{Mod, Div, BitOr, BitAnd, Xor, Or, And, Not, Eq, Neq, Lt, Gt, Le, Ge}
use Rattle.mv_move_types.specs.declared.instruction.Instruction.TheVariants.{Abort, Nop, Exists, MutBorrowGlobal, ImmBorrowGlobal, MoveFrom, MoveTo}
use Rattle.mv_move_types.specs.declared.instruction.Instruction.TheVariants.{FreezeRef, Shl, Shr, LdU8, LdU128, CastU8, CastU64, CastU128, LdU16}
use Rattle.mv_move_types.specs.declared.instruction.Instruction.TheVariants.{LdU32, CastU16, CastU32}
use Rattle.mv_move_types.specs.Options.{◌>>=◌}
use Rattle.mv_move_types.specs.Tokens.{same_value_type, same_tokens}
use Rattle.mv_move_types.specs.Module.{Module, FunctionDefinition, local_type, struct_abilities}
pub use Rattle.mv_abilities.specs.Abilities.{value_type_abilities, token_abilities}

-- the types of the operands, the topmost first
abbrev pub Types : Type 0
Types = List Token

-- the stack itself, if the test passed
abbrev pub provided : Bool → Types → Option Types
provided test stack = then_some test stack

-- the topmost type, and those below it
abbrev pub top_type : Types → Option (Token × Types)
top_type [] = None
top_type (t ∷ below) = Some (t, below)

-- The types below these, the last of them topmost: a call that takes a u8 and then a bool finds the bool on top, so that
-- taken (u8 ∷ bool ∷ []) (bool ∷ u8 ∷ below) is Some below.
abbrev pub taken : List Token → Types → Option Types
taken wanted stack =
    provided (same_tokens (take (length wanted) stack) (reverse wanted)) (drop (length wanted) stack)

-- Takes these, and gives those, the last of them topmost: takes_gives (u8 ∷ bool ∷ []) (address ∷ []) (bool ∷ u8 ∷ below) is
-- Some (address ∷ below).
abbrev pub takes_gives : List Token → List Token → Types → Option Types
takes_gives wanted given stack = taken wanted stack >>= λ below. Some (reverse given ++ below)

-- the type of a bool
abbrev pub boolean : Token
boolean = Plain (OfLeaf Boolean)

-- the type of a number of this width
abbrev pub number : Width → Token
number w = Plain (OfLeaf (Number w))

-- the type of an address
abbrev pub address : Token
address = Plain (OfLeaf Address)

-- the width of a number type
abbrev pub width_of : Token → Option Width
width_of (Plain (OfLeaf (Number w))) = Some w
width_of _ = None

-- what a type that is no reference is of
abbrev pub plain_of : Token → Option ValueType
plain_of (Plain t) = Some t
plain_of (Reference t) = None
plain_of (MutableReference t) = None

-- what a reference type refers to
abbrev pub target_of : Token → Option ValueType
target_of (Plain t) = None
target_of (Reference t) = Some t
target_of (MutableReference t) = Some t

-- what a mutable reference type refers to
abbrev pub mutable_target_of : Token → Option ValueType
mutable_target_of (MutableReference t) = Some t
mutable_target_of (Plain t) = None
mutable_target_of (Reference t) = None

-- the width of the topmost number
abbrev pub top_width : Types → Option Width
top_width stack = top_type stack >>= λ top. width_of top.0

-- two numbers of one width give this type
abbrev pub of_two_numbers : (Width → Token) → Types → Option Types
of_two_numbers given stack = top_width stack >>= λ w. takes_gives (number w ∷ number w ∷ []) (given w ∷ []) stack

-- a number and a u8 give a number
abbrev pub of_shift : Types → Option Types
of_shift stack = do
  below ← taken (number U8 ∷ []) stack
  w ← top_width below
  Some below

-- a number becomes one of another width
abbrev pub of_cast : Width → Types → Option Types
of_cast w stack = do
  top ← top_type stack
  old ← width_of top.0
  Some (number w ∷ top.1)

-- two values of one type that are no references and may be dropped
abbrev pub of_equality : Module → Types → Option Types
of_equality m stack = do
  top ← top_type stack
  plain ← plain_of top.0
  a ← token_abilities m top.0
  below ← taken (top.0 ∷ []) top.1
  provided a.drop (boolean ∷ below)

-- a value that may be dropped
abbrev pub of_pop : Module → Types → Option Types
of_pop m stack = do
  top ← top_type stack
  a ← token_abilities m top.0
  provided a.drop top.1

-- a local that may be copied
abbrev pub of_copy : Module → FunctionDefinition → ℕ → Types → Option Types
of_copy m d l stack = do
  t ← local_type m d l
  a ← token_abilities m t
  provided a.copy (t ∷ stack)

-- a local that is no reference
abbrev pub of_borrow_local : (ValueType → Token) → Module → FunctionDefinition → ℕ → Types → Option Types
of_borrow_local given m d l stack = do
  t ← local_type m d l
  plain ← plain_of t
  Some (given plain ∷ stack)

-- the type of a struct definition that has key
abbrev pub keyed_type : Module → ℕ → Option ValueType
keyed_type m i = do
  d ← slice_get m.structs i
  a ← struct_abilities m d
  then_some a.key (OfStruct d.handle)

-- the struct type and the field's type of a field handle
abbrev pub field_types : Module → ℕ → Option (ValueType × ValueType)
field_types m i = do
  handle ← slice_get m.field_handles i
  d ← slice_get m.structs handle.definition
  field ← slice_get d.fields handle.position
  plain ← plain_of field.token
  Some (OfStruct d.handle, plain)

-- a field, from a mutable reference to its struct
abbrev pub of_mutable_field : Module → ℕ → Types → Option Types
of_mutable_field m i stack = do
  types ← field_types m i
  takes_gives (MutableReference types.0 ∷ []) (MutableReference types.1 ∷ []) stack

-- a field, from either reference to its struct
abbrev pub of_immutable_field : Module → ℕ → Types → Option Types
of_immutable_field m i stack = do
  types ← field_types m i
  top ← top_type stack
  target ← target_of top.0
  provided (same_value_type target types.0) (Reference types.1 ∷ top.1)

-- the parameters, and the results in their place
abbrev pub of_call : Module → ℕ → Types → Option Types
of_call m i stack = do
  handle ← slice_get m.function_handles i
  parameters ← slice_get m.signatures handle.parameters
  results ← slice_get m.signatures handle.results
  takes_gives parameters results stack

-- nothing else than the results is on the stack
abbrev pub of_return : Module → FunctionDefinition → Types → Option Types
of_return m d stack = do
  handle ← slice_get m.function_handles d.handle
  results ← slice_get m.signatures handle.results
  provided (same_tokens stack (reverse results)) []

-- the fields, and the struct in their place
abbrev pub of_pack : Module → ℕ → Types → Option Types
of_pack m i stack = do
  d ← slice_get m.structs i
  takes_gives (map (λ f. f.token) d.fields) (Plain (OfStruct d.handle) ∷ []) stack

-- the struct, and the fields in its place
abbrev pub of_unpack : Module → ℕ → Types → Option Types
of_unpack m i stack = do
  d ← slice_get m.structs i
  takes_gives (Plain (OfStruct d.handle) ∷ []) (map (λ f. f.token) d.fields) stack

-- what a reference refers to, which may be copied
abbrev pub of_read : Module → Types → Option Types
of_read m stack = do
  top ← top_type stack
  target ← target_of top.0
  a ← value_type_abilities m target
  provided a.copy (Plain target ∷ top.1)

-- a value, and a mutable reference to such a one, which may be dropped
abbrev pub of_write : Module → Types → Option Types
of_write m stack = do
  top ← top_type stack
  target ← mutable_target_of top.0
  a ← value_type_abilities m target
  below ← taken (Plain target ∷ []) top.1
  provided a.drop below

-- a mutable reference becomes an immutable one
abbrev pub of_freeze : Types → Option Types
of_freeze stack = do
  top ← top_type stack
  target ← mutable_target_of top.0
  Some (Reference target ∷ top.1)

-- a constant's type
abbrev pub of_constant : Module → ℕ → Types → Option Types
of_constant m i stack = slice_get m.constants i >>= λ c. Some (c.token ∷ stack)

-- an address, and what is given for a struct with key
abbrev pub of_global : (ValueType → Token) → Module → ℕ → Types → Option Types
of_global given m i stack = keyed_type m i >>= λ s. takes_gives (address ∷ []) (given s ∷ []) stack

-- a reference to a signer, and a value of a struct with key
abbrev pub of_move_to : Module → ℕ → Types → Option Types
of_move_to m i stack = keyed_type m i >>= λ s. takes_gives (Reference (OfLeaf Signer) ∷ Plain s ∷ []) [] stack

-- the types after an instruction, if those before it are what it needs
unfoldable pub types_after : Module → FunctionDefinition → Instruction → Types → Option Types
types_after m d Pop s = of_pop m s
types_after m d Ret s = of_return m d s
types_after m d (BrTrue t) s = taken (boolean ∷ []) s
types_after m d (BrFalse t) s = taken (boolean ∷ []) s
types_after m d (Branch t) s = Some s
types_after m d (LdU64 n) s = Some (number U64 ∷ s)
types_after m d (LdConst i) s = of_constant m i s
types_after m d LdTrue s = Some (boolean ∷ s)
types_after m d LdFalse s = Some (boolean ∷ s)
types_after m d (CopyLoc l) s = of_copy m d l s
types_after m d (MoveLoc l) s = local_type m d l >>= λ t. Some (t ∷ s)
types_after m d (StLoc l) s = local_type m d l >>= λ t. taken (t ∷ []) s
types_after m d (MutBorrowLoc l) s = of_borrow_local MutableReference m d l s
types_after m d (ImmBorrowLoc l) s = of_borrow_local Reference m d l s
types_after m d (MutBorrowField i) s = of_mutable_field m i s
types_after m d (ImmBorrowField i) s = of_immutable_field m i s
types_after m d (Call i) s = of_call m i s
types_after m d (Pack i) s = of_pack m i s
types_after m d (Unpack i) s = of_unpack m i s
types_after m d ReadRef s = of_read m s
types_after m d WriteRef s = of_write m s
types_after m d Add s = of_two_numbers number s
types_after m d Sub s = of_two_numbers number s
types_after m d Mul s = of_two_numbers number s
types_after m d Mod s = of_two_numbers number s
types_after m d Div s = of_two_numbers number s
types_after m d BitOr s = of_two_numbers number s
types_after m d BitAnd s = of_two_numbers number s
types_after m d Xor s = of_two_numbers number s
types_after m d Or s = takes_gives (boolean ∷ boolean ∷ []) (boolean ∷ []) s
types_after m d And s = takes_gives (boolean ∷ boolean ∷ []) (boolean ∷ []) s
types_after m d Not s = takes_gives (boolean ∷ []) (boolean ∷ []) s
types_after m d Eq s = of_equality m s
types_after m d Neq s = of_equality m s
types_after m d Lt s = of_two_numbers (λ w. boolean) s
types_after m d Gt s = of_two_numbers (λ w. boolean) s
types_after m d Le s = of_two_numbers (λ w. boolean) s
types_after m d Ge s = of_two_numbers (λ w. boolean) s
types_after m d Abort s = taken (number U64 ∷ []) s
types_after m d Nop s = Some s
types_after m d (Exists i) s = of_global (λ t. boolean) m i s
types_after m d (MutBorrowGlobal i) s = of_global MutableReference m i s
types_after m d (ImmBorrowGlobal i) s = of_global Reference m i s
types_after m d (MoveFrom i) s = of_global Plain m i s
types_after m d (MoveTo i) s = of_move_to m i s
types_after m d FreezeRef s = of_freeze s
types_after m d Shl s = of_shift s
types_after m d Shr s = of_shift s
types_after m d (LdU8 n) s = Some (number U8 ∷ s)
types_after m d (LdU128 n) s = Some (number U128 ∷ s)
types_after m d CastU8 s = of_cast U8 s
types_after m d CastU64 s = of_cast U64 s
types_after m d CastU128 s = of_cast U128 s
types_after m d (LdU16 n) s = Some (number U16 ∷ s)
types_after m d (LdU32 n) s = Some (number U32 ∷ s)
types_after m d CastU16 s = of_cast U16 s
types_after m d CastU32 s = of_cast U32 s
