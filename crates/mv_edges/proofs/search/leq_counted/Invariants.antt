use Rattle.mv_edges.proofs.Common.{◌+◌, ◌<◌, ◌≡◌, ◌≤◌, length, take, true, list_all, list_any, counted, edge_leq, longest}
use Rattle.std.proofs.Common.{◌*◌}
use Rattle.mv_edges.proofs.search.leq_counted.Given as goal

abbrev pub invariant-loop-e : goal.invariant-loop-e
invariant-loop-e l = record {
  below : list_all (λ e. list_any (edge_leq e) l.b) (take l.e-index l.a) ≡ true;
  each : 0 < length l.b → counted l.e-index l.fn.comparisons ≤ l.comparisons;
  count : length l.b ≤ 1024 → longest l.b ≤ 8 → l.comparisons ≤ l.fn.comparisons + 110 * l.e-index;
}
