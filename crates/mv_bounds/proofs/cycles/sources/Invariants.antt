use Rattle.mv_bounds.proofs.Common.{ℕ, ◌≡◌, cond, get_or, length, nat_lt, true, are_nodes, is_zero, times}
use Rattle.mv_bounds.proofs.cycles.sources.Given as goal

abbrev pub invariant-loop-node : goal.invariant-loop-node
invariant-loop-node l = record {
  below : are_nodes (length l.waiting) l.ready.items ≡ true;
  ready : (j : ℕ) → times j l.ready.items ≡ cond (nat_lt j l.node) (is_zero (get_or l.waiting j 0)) 0;
}
