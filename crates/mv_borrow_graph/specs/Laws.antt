-- What the search for certificates rests on (edges_lawful): the order of edges is a preorder; the union of two is a least state
-- above both; a step that is defined on a state is defined on each state below, with a result below; it leaves ascending edges;
-- and a block that goes on leads to a state with which a block may begin.
--
-- The laws' proofs stand in Laws/. They stay below specs/, since a trait's laws may cite nothing of their own crate but its specs/.
-- In this order each is read after what it cites:
--   Rising        where a step is defined on a state, it is defined on each state below, with a result below
--   Places        what stands where on the stack before and after some of its types are exchanged for others
--   Shifts        which types an instruction exchanges, by its rule for types
--   There         edges between nodes that are there, before and after such an exchange
--   RowsThere     each rule for edges leaves edges between nodes that are there; of a call CallThere
--   KeptThere     the table of all instructions over these
--   BlockTypes    the types before the instructions of a block stand among those of the function
--   BlocksThere   a block that goes on leads to edges between nodes that are there, and so past the operands
pub mod Rising
pub mod Places
pub mod Shifts
pub mod There
pub mod RowsThere
pub mod CallThere
pub mod KeptThere
pub mod BlockTypes
pub mod BlocksThere
use Rattle.std.specs.Prelude.{◌≡◌, List, [], ◌++◌, true, Option, Some, None, slice_get, IsTrue}
use Rattle.std.proofs.Common.{refl, subst}
use Rattle.mv_move_types.specs.Options.{◌>>=◌}
use Rattle.mv_move_types.specs.Module.{Module, FunctionDefinition}
use Rattle.mv_type_rules.specs.Sound.{types_before}
use Rattle.mv_edges.specs.Edges.{Edge}
use Rattle.mv_edges.specs.Ascending.{are_ascending}
use Rattle.mv_edges.specs.Sorted.{sorted}
use Rattle.mv_edges.proofs.Sorting.{ascending-sorted}
use Rattle.mv_edges.proofs.Order.{edges_leq_itself, edges_leq-transitive, join-sorted}
use Rattle.mv_lattice.specs.Laws.{IsLawful}
use Rattle.mv_certificate_rules.specs.BorrowRules.{edges_after}
use Rattle.mv_borrow_graph.specs.Laws.Rising.{step_below}
use Rattle.mv_certificate_rules.specs.Nodes.{edge_is_there}
use Rattle.mv_borrow_graph.specs.Laws.There.{each_append, each_sorted}
use Rattle.mv_borrow_graph.specs.Laws.BlocksThere.{begins_again}
use Rattle.mv_borrow_graph.specs.Domain.{edges_order, ordered}
use Rattle.mv_module_text.proofs.Texts.{on_bind}
use Rattle.mv_type_rules.specs.TypesHold.{point_at}

ordered_ascend : (found : Option (List Edge)) (b : List Edge) → ordered found ≡ Some b → IsTrue (are_ascending b)
ordered_ascend None b e = cc
ordered_ascend (Some edges) b e = let same : sorted edges ≡ b = cc in subst (λ es. are_ascending es ≡ true) same (ascending-sorted edges)

pub edges_lawful : (m : Module) (d : FunctionDefinition) → IsLawful (edges_order m d)
edges_lawful m d = record {
  reflexive = λ a _. edges_leq_itself a;
  transitive = λ a b c _ _ _ p q. edges_leq-transitive a b c p q;
  joins = λ a b _ _.
      let union = join-sorted a b in
      record { valid = ascending-sorted (a ++ b); left = union.left; right = union.right; least = λ u _ p q. union.least u p q };
  joins_begin = λ a b _ _ p q. each_sorted (edge_is_there (point_at m d [])) (a ++ b) (each_append (edge_is_there (point_at m d [])) a b p q);
  monotone = λ at a b v _ _ _ le e. step_below m d at a b le v e;
  begins = λ g k n b a t graph block next _ begin e. begins_again m d g k n b a t graph block next begin e;
  keeps = λ at a b _ _ e.
      on_bind (slice_get d.code at) (λ i. slice_get (types_before m d) at >>= λ types. ordered (edges_after (point_at m d types) i a)) b e
      (λ i _ e2. on_bind (slice_get (types_before m d) at) (λ types. ordered (edges_after (point_at m d types) i a)) b e2
      (λ types _ e3. ordered_ascend (edges_after (point_at m d types) i a) b e3));
}
