-- The rules for borrows, as a partial step on edges.
-- First nodes and tests of edges, then the rule of each family, then calls and returns, then all instructions.
--   next_temp, top_temp p                        the next place on the stack, and the topmost operand
--   is_mutable_token, is_reference_token         whether a type is a mutable reference, or any
--   is_mutable p n                               whether a node is a mutable reference
--   no_edge_out n, no_mutable_from p n           no edge leads out of the node; or none to a mutable reference
--   copy_edges, move_edges, store_edges          CopyLoc, MoveLoc and StLoc
--   mutable_field_edges, immutable_field_edges   the borrows of fields
--   global_edges p i                             the reference to a stored value
--   call_edges p i                               Call: no edge leads out of mutable arguments and acquired globals; results get edges
--   return_edges p                               Ret: no result leads into what the frame or the storage holds, or into a mutable result
--   edges_after p i edges                        phase 11: the edges after an instruction, if those before it are what it needs
-- The others are parts of these. Within a block the edges are held otherwise: decision 52.
use Rattle.std.specs.Prelude.{ℕ, ◌+◌, ◌-◌, Bool, true, false, not, ◌&&◌, ◌||◌, ◌==◌, List, [], ◌∷◌, ◌++◌}
use Rattle.std.specs.Prelude.{filter, flat_map, length, reverse, Option, Some, slice_get, if◌then◌else◌}
use Rattle.std.specs.Bool.{then_some}
use Rattle.std.specs.List.{list_all, list_any}
use Rattle.std.specs.Option.{option_map_or}
use Rattle.mv_move_types.specs.declared.borrow.Node.{Node}
use Rattle.mv_move_types.specs.declared.borrow.Node.TheVariants.{Slot, Own, Glob, Temp}
use Rattle.mv_move_types.specs.declared.token.Token.{Token}
use Rattle.mv_move_types.specs.declared.token.Token.TheVariants.{Plain, Reference, MutableReference}
use Rattle.mv_move_types.specs.declared.instruction.Instruction.{Instruction}
use Rattle.mv_move_types.specs.declared.instruction.Instruction.TheVariants.{Pop, Ret, CopyLoc, MoveLoc, StLoc, MutBorrowLoc, ImmBorrowLoc}
use Rattle.mv_move_types.specs.declared.instruction.Instruction.TheVariants.{MutBorrowField, ImmBorrowField, Call, ReadRef, WriteRef, MutBorrowGlobal}
use Rattle.mv_move_types.specs.declared.instruction.Instruction.TheVariants.{ImmBorrowGlobal, MoveFrom, MoveTo, FreezeRef}
use Rattle.mv_move_types.specs.Options.{◌>>=◌}
use Rattle.mv_move_types.specs.Module.{local_type, own_acquires}
use Rattle.mv_type_rules.specs.TypesHold.{Point}
use Rattle.mv_edges.specs.Edges.{Edge, same_node, here, extended, opened, agrees, out_of, inherited, without, renamed, an_edge, without_each}

-- the next place on the stack
abbrev pub next_temp : Point → Node
next_temp p = Temp (length p.types)

-- the topmost operand
abbrev pub top_temp : Point → Node
top_temp p = Temp (length p.types - 1)

-- whether a type is a mutable reference
abbrev pub is_mutable_token : Token → Bool
is_mutable_token (Plain t) = false
is_mutable_token (Reference t) = false
is_mutable_token (MutableReference t) = true

-- whether a type is a reference
abbrev pub is_reference_token : Token → Bool
is_reference_token (Plain t) = false
is_reference_token (Reference t) = true
is_reference_token (MutableReference t) = true

-- whether a node's type is a mutable reference
abbrev pub is_mutable : Point → Node → Bool
is_mutable p (Slot l) = option_map_or is_mutable_token (local_type p.home p.function l) false
is_mutable p (Temp k) = option_map_or is_mutable_token (slice_get (reverse p.types) k) false
is_mutable p (Own l) = false
is_mutable p (Glob t) = false

-- whether there is no edge
abbrev pub is_empty : List Edge → Bool
is_empty edges = length edges == 0

-- no edge leads out of the node
abbrev pub no_edge_out : Node → List Edge → Bool
no_edge_out n edges = is_empty (out_of n edges)

-- none leads from the node to a mutable one
abbrev pub no_mutable_from : Point → Node → List Edge → Bool
no_mutable_from p n edges = not (list_any (λ e. is_mutable p e.to) (out_of n edges))

-- a copied reference has the edges of its original, and a mutable one is also its child
abbrev pub copy_edges : Point → ℕ → Token → List Edge → Option (List Edge)
copy_edges p l (Plain t) edges = then_some (no_mutable_from p (Own l) edges) edges
copy_edges p l (Reference t) edges = Some (edges ++ inherited (λ label. label) (Slot l) (next_temp p) edges)
copy_edges p l (MutableReference t) edges =
    then_some (no_edge_out (Slot l) edges)
    (edges ++ inherited (λ label. label) (Slot l) (next_temp p) edges ++ an_edge (Slot l) here (next_temp p) ∷ [])

-- a moved reference takes its edges along, and a moved value may have none
abbrev pub move_edges : Point → ℕ → Token → List Edge → Option (List Edge)
move_edges p l (Plain t) edges = then_some (no_edge_out (Own l) edges) edges
move_edges p l (Reference t) edges = Some (renamed (Slot l) (next_temp p) edges)
move_edges p l (MutableReference t) edges = Some (renamed (Slot l) (next_temp p) edges)

-- a stored reference takes its edges along, and an overwritten value may have none
abbrev pub store_edges : Point → ℕ → Token → List Edge → Option (List Edge)
store_edges p l (Plain t) edges = then_some (no_edge_out (Own l) edges) edges
store_edges p l (Reference t) edges = Some (renamed (top_temp p) (Slot l) (without (Slot l) edges))
store_edges p l (MutableReference t) edges = Some (renamed (top_temp p) (Slot l) (without (Slot l) edges))

-- the new reference to a field stands where its operand stood
abbrev pub field_edges : Point → ℕ → List Edge → List Edge
field_edges p f edges = without (top_temp p) edges ++ inherited (extended f) (top_temp p) (top_temp p) edges

-- a mutable borrow of a field needs that no edge out of its operand agrees with the field
abbrev pub mutable_field_edges : Point → ℕ → List Edge → Option (List Edge)
mutable_field_edges p f edges =
    then_some (not (list_any (λ e. agrees f e.label) (out_of (top_temp p) edges))) (field_edges p f edges)

-- an immutable one needs that no such edge leads to a mutable node
abbrev pub immutable_field_edges : Point → ℕ → List Edge → Option (List Edge)
immutable_field_edges p f edges =
    then_some (not (list_any (λ e. is_mutable p e.to && agrees f e.label) (out_of (top_temp p) edges))) (field_edges p f edges)

-- the position that a field handle names
abbrev pub position_of : Point → ℕ → Option ℕ
position_of p i = slice_get p.home.field_handles i >>= λ h. Some h.position

-- the borrowed global's reference stands where the address stood
abbrev pub global_edges : Point → ℕ → List Edge → List Edge
global_edges p i edges = edges ++ an_edge (Glob i) here (top_temp p) ∷ []

-- ---- calls and returns

-- the nodes of the references among these types, which stand on the stack from a place on
abbrev pub reference_nodes : (Token → Bool) → ℕ → List Token → List Node
reference_nodes test k [] = []
reference_nodes test k (t ∷ ts) = (if test t then (Temp k ∷ []) else []) ++ reference_nodes test (k + 1) ts

-- the opened incoming edges of these nodes, for another
abbrev pub opened_edges : List Node → Node → List Edge → List Edge
opened_edges nodes new edges = flat_map (λ n. inherited opened n new edges) nodes

-- a mutable result comes from the mutable arguments, any other reference from all
abbrev pub result_edges : List Node → List Node → ℕ → List Token → List Edge → List Edge
result_edges mutable all k [] edges = []
result_edges mutable all k (Plain t ∷ ts) edges = result_edges mutable all (k + 1) ts edges
result_edges mutable all k (Reference t ∷ ts) edges = opened_edges all (Temp k) edges ++ result_edges mutable all (k + 1) ts edges
result_edges mutable all k (MutableReference t ∷ ts) edges = opened_edges mutable (Temp k) edges ++ result_edges mutable all (k + 1) ts edges

-- a call needs its mutable arguments and the globals that it acquires to be free, and ties its results to its arguments
abbrev pub call_edges : Point → ℕ → List Edge → Option (List Edge)
call_edges p i edges = do
  handle ← slice_get p.home.function_handles i
  parameters ← slice_get p.home.signatures handle.parameters
  results ← slice_get p.home.signatures handle.results
  let base = length p.types - length parameters in
      let mutable = reference_nodes is_mutable_token base parameters in
      let all = reference_nodes is_reference_token base parameters in
      then_some
      (list_all (λ n. no_edge_out n edges) mutable && list_all (λ t. no_edge_out (Glob t) edges) (own_acquires p.home i))
      (without_each all edges ++ result_edges mutable all base results edges)

-- whether a node is a local's value or a global
abbrev pub is_root_node : Node → Bool
is_root_node (Slot l) = false
is_root_node (Own l) = true
is_root_node (Glob t) = true
is_root_node (Temp k) = false

-- whether a node is an operand
abbrev pub is_temp : Node → Bool
is_temp (Slot l) = false
is_temp (Own l) = false
is_temp (Glob t) = false
is_temp (Temp k) = true

-- no result leads into what the frame or the storage holds, and none into a mutable result
abbrev pub return_edges : Point → List Edge → Option (List Edge)
return_edges p edges =
    then_some (not (list_any (λ e. is_temp e.to && (is_root_node e.from || is_temp e.from && is_mutable p e.from)) edges)) edges

-- the edges after an instruction, if those before it are what it needs
unfoldable pub edges_after : Point → Instruction → List Edge → Option (List Edge)
edges_after p (CopyLoc l) edges = local_type p.home p.function l >>= λ t. copy_edges p l t edges
edges_after p (MoveLoc l) edges = local_type p.home p.function l >>= λ t. move_edges p l t edges
edges_after p (StLoc l) edges = local_type p.home p.function l >>= λ t. store_edges p l t edges
edges_after p (MutBorrowLoc l) edges = then_some (no_edge_out (Own l) edges) (edges ++ an_edge (Own l) here (next_temp p) ∷ [])
edges_after p (ImmBorrowLoc l) edges = then_some (no_mutable_from p (Own l) edges) (edges ++ an_edge (Own l) here (next_temp p) ∷ [])
edges_after p (MutBorrowField i) edges = position_of p i >>= λ f. mutable_field_edges p f edges
edges_after p (ImmBorrowField i) edges = position_of p i >>= λ f. immutable_field_edges p f edges
edges_after p FreezeRef edges = then_some (no_mutable_from p (top_temp p) edges) (filter (λ e. not (same_node e.from (top_temp p))) edges)
edges_after p ReadRef edges = then_some (no_mutable_from p (top_temp p) edges) (without (top_temp p) edges)
edges_after p WriteRef edges = then_some (no_edge_out (top_temp p) edges) (without (top_temp p) edges)
edges_after p Pop edges = Some (without (top_temp p) edges)
edges_after p (MoveTo i) edges = Some (without (Temp (length p.types - 2)) edges)
edges_after p (MutBorrowGlobal i) edges = then_some (no_edge_out (Glob i) edges) (global_edges p i edges)
edges_after p (ImmBorrowGlobal i) edges = then_some (no_mutable_from p (Glob i) edges) (global_edges p i edges)
edges_after p (MoveFrom i) edges = then_some (no_edge_out (Glob i) edges) edges
edges_after p (Call i) edges = call_edges p i edges
edges_after p Ret edges = return_edges p edges
edges_after p _ edges = Some edges
