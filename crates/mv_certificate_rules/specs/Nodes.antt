-- Between which nodes edges lead, and which edges a search may state.
--   has_local test p l, has_place test types k   a local, or a place on the stack, is there and its type passes the test
--   leads_out p n                                an edge may lead from the node: a mutable reference, a local's value or a global
--   leads_in p n                                 an edge may lead to the node: a reference
--   edge_is_there, are_there                     edges lead between two such nodes, by positions of fields
--   may_begin_with m d edges                     they do where a block begins, with nothing on the stack (why asked there: decision 29)
--   are_few edges                                the edges are within the limits of a certificate
--   IsGraphOf m d g                              the flow graph of a function that is well typed
use Rattle.std.specs.Prelude.{ℕ, Bool, false, not, ◌&&◌, nat_lt, nat_le, List, [], length, reverse, slice_get, IsTrue}
use Rattle.std.specs.List.{list_all}
use Rattle.std.specs.Option.{option_map_or}
use Rattle.mv_move_types.specs.Limits.{most_edges, most_fields, most_positions}
use Rattle.mv_move_types.specs.declared.borrow.Node.{Node}
use Rattle.mv_move_types.specs.declared.borrow.Node.TheVariants.{Slot, Own, Glob, Temp}
use Rattle.mv_move_types.specs.declared.token.Token.{Token}
use Rattle.mv_move_types.specs.Module.{Module, FunctionDefinition, StructDefinition, local_type}
use Rattle.mv_cfg.specs.declared.Cfg.{Cfg}
use Rattle.mv_cfg.specs.FlowGraph.{IsFlowGraph}
use Rattle.mv_type_rules.specs.TypeRules.{Types}
use Rattle.mv_type_rules.specs.TypesHold.{Point, function_is_typed, point_at}
use Rattle.mv_edges.specs.Edges.{Edge, same_node}
use Rattle.mv_certificate_rules.specs.BorrowRules.{is_mutable_token, is_reference_token}

-- whether the local is there and its type passes the test
abbrev pub has_local : (Token → Bool) → Point → ℕ → Bool
has_local test p l = option_map_or test (local_type p.home p.function l) false

-- whether the place on the stack, from the bottom, is there and its type passes the test
abbrev pub has_place : (Token → Bool) → Types → ℕ → Bool
has_place test types k = option_map_or test (slice_get (reverse types) k) false

-- edges lead from what mutable references refer to, from locals' values and from globals, where these are there
abbrev pub leads_out : Point → Node → Bool
leads_out p (Slot l) = has_local is_mutable_token p l
leads_out p (Own l) = has_local (λ t. not (is_reference_token t)) p l
leads_out p (Glob t) = nat_lt t (length p.home.structs)
leads_out p (Temp k) = has_place is_mutable_token p.types k

-- and they lead to references that are there
abbrev pub leads_in : Point → Node → Bool
leads_in p (Slot l) = has_local is_reference_token p l
leads_in p (Own l) = false
leads_in p (Glob t) = false
leads_in p (Temp k) = has_place is_reference_token p.types k

-- an edge leads between two such nodes, by positions of fields
abbrev pub edge_is_there : Point → Edge → Bool
edge_is_there p e = leads_out p e.from && leads_in p e.to && not (same_node e.from e.to) && list_all (λ i. nat_lt i most_fields) e.label.path

-- each of the edges does
abbrev pub are_there : Point → List Edge → Bool
are_there p edges = list_all (edge_is_there p) edges

-- where a block begins, the stack is empty, so that no edge is at an operand
abbrev pub may_begin_with : Module → FunctionDefinition → List Edge → Bool
may_begin_with m d edges = are_there (point_at m d []) edges

-- few edges, with short labels
abbrev pub are_few : List Edge → Bool
are_few edges = nat_le (length edges) most_edges && list_all (λ e. nat_le (length e.label.path) most_positions) edges

-- the flow graph of a function that is well typed, in a module whose structs have at most 32 fields, none of them a reference
pub record IsGraphOf (m : Module) (d : FunctionDefinition) (g : Cfg) : Type 0 where
  pub flow : IsFlowGraph d.code g
  pub typed : IsTrue (function_is_typed m d)
  pub fields : IsTrue (list_all (λ (s : StructDefinition). list_all (λ f. not (is_reference_token f.token)) s.fields) m.structs)
  pub few : IsTrue (list_all (λ (s : StructDefinition). nat_le (length s.fields) most_fields) m.structs)
