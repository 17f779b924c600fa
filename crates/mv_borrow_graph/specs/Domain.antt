-- The edges of a function's borrow graph as a domain of states.
--   Function                   a function, with the tables of its module
--   ordered found              edges in their order
--   edges_step m d at edges    what the instruction at a place makes of the edges
--   edges_order m d            the edges of a function's references, their order and steps
--   is_low types               the stack is within its limit
--   is_picked mutable t        whether a type is a reference, or a mutable one
--   LeavesEdges p i            where the instruction finds what it needs, it leaves the edges as they are
--   places_reference m d i     whether an instruction puts a reference where none stood, which takes memory
-- is_reference_local is a part of these.
use Rattle.std.specs.Prelude.{◌≡◌, ℕ, Bool, true, false, nat_le, List, ◌++◌, length, IsTrue, Option, Some, slice_get, IsSome}
use Rattle.std.specs.Option.{option_map_or}
use Rattle.mv_move_types.specs.Limits.{most_operands}
use Rattle.mv_move_types.specs.declared.token.Token.{Token}
use Rattle.mv_move_types.specs.Options.{◌>>=◌}
use Rattle.mv_move_types.specs.Module.{Module, FunctionDefinition, local_type}
use Rattle.mv_move_types.specs.declared.instruction.Instruction.{Instruction}
use Rattle.mv_move_types.specs.declared.instruction.Instruction.TheVariants.{CopyLoc, MoveLoc, StLoc, MutBorrowLoc, ImmBorrowLoc, MutBorrowField}
use Rattle.mv_move_types.specs.declared.instruction.Instruction.TheVariants.{ImmBorrowField, Call, MutBorrowGlobal, ImmBorrowGlobal}
use Rattle.mv_type_rules.specs.TypeRules.{Types}
use Rattle.mv_type_rules.specs.TypesHold.{Point, point_at}
use Rattle.mv_type_rules.specs.Sound.{types_before}
use Rattle.mv_edges.specs.Ascending.{are_ascending}
use Rattle.mv_edges.specs.Edges.{Edge, edges_leq}
use Rattle.mv_edges.specs.Sorted.{sorted}
use Rattle.mv_lattice.specs.Order.{Order}
use Rattle.mv_certificate_rules.specs.BorrowRules.{edges_after, is_mutable_token, is_reference_token}
use Rattle.mv_certificate_rules.specs.Nodes.{may_begin_with, are_few, IsGraphOf}

-- a function, and the tables of its module
pub record Function : Type 0 where
  pub home : Module
  pub function : FunctionDefinition

-- the edges in their order, if there are any
abbrev pub ordered : Option (List Edge) → Option (List Edge)
ordered found = found >>= λ edges. Some (sorted edges)

-- what the instruction at a place makes of the edges
abbrev pub edges_step : Module → FunctionDefinition → ℕ → List Edge → Option (List Edge)
edges_step m d at edges = do
  i ← slice_get d.code at
  types ← slice_get (types_before m d) at
  ordered (edges_after (point_at m d types) i edges)

-- the edges of a function's references: a block may begin with those between nodes that are there and no operand, and a search may state few
abbrev pub edges_order : Module → FunctionDefinition → Order (List Edge)
edges_order m d = record {
  size = length d.code;
  is_graph = IsGraphOf m d;
  is_state = λ s. IsTrue (are_ascending s);
  may_begin = λ s. IsTrue (may_begin_with m d s);
  below = λ a b. IsTrue (edges_leq a b);
  joined = λ a b. sorted (a ++ b);
  steps = edges_step m d;
  is_small = λ s. IsTrue (are_few s);
}

-- a stack never has more than 128 values
abbrev pub is_low : Types → Bool
is_low types = nat_le (length types) most_operands

-- whether a type is a reference, or a mutable one where only those are asked for
abbrev pub is_picked : Bool → Token → Bool
is_picked true t = is_mutable_token t
is_picked false t = is_reference_token t

-- where an instruction finds what it needs, it leaves the edges as they are
abbrev pub LeavesEdges : Point → Instruction → Type 0
LeavesEdges p i = (edges : List Edge) → IsSome (edges_after p i edges) → edges_after p i edges ≡ Some edges

-- whether a local is of a reference type
abbrev pub is_reference_local : Module → FunctionDefinition → ℕ → Bool
is_reference_local m d l = option_map_or is_reference_token (local_type m d l) false

-- whether an instruction puts a reference where none stood: its edges take memory, and those of no other instruction
abbrev pub places_reference : Module → FunctionDefinition → Instruction → Bool
places_reference m d (CopyLoc l) = is_reference_local m d l
places_reference m d (MoveLoc l) = is_reference_local m d l
places_reference m d (StLoc l) = is_reference_local m d l
places_reference m d (MutBorrowLoc l) = true
places_reference m d (ImmBorrowLoc l) = true
places_reference m d (MutBorrowField i) = true
places_reference m d (ImmBorrowField i) = true
places_reference m d (MutBorrowGlobal i) = true
places_reference m d (ImmBorrowGlobal i) = true
places_reference m d (Call i) = true
places_reference m d _ = false
