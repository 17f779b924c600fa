use Rattle.std.proofs.Common.{◌≡◌, ◌+◌, ◌++◌, drop}
use Rattle.mv_certificate_rules.specs.BorrowRules.{reference_nodes}
use Rattle.mv_borrow_graph.specs.Domain.{is_picked}
use Rattle.mv_borrow_graph.proofs.nodes.nodes_of.Given as goal

-- with the nodes of the types to come, these are the nodes of all
abbrev pub invariant-loop-i : goal.invariant-loop-i
invariant-loop-i l = l.nodes.items ++ reference_nodes (is_picked l.only_mutable) (l.place + l.i) (drop l.i l.tokens) ≡ reference_nodes (is_picked l.only_mutable) l.place l.tokens
