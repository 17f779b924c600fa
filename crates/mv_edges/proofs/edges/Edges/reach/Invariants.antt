use Rattle.mv_edges.proofs.Common.{ℕ, ◌+◌, ◌<◌, ◌≡◌, false, length, list_any, IsCounted, IsWithin, opened_at, same_edge}
use Rattle.mv_edges.proofs.edges.Edges.reach.Given as goal

abbrev pub invariant-loop-count : goal.invariant-loop-count
invariant-loop-count l = record {
  none : (k : ℕ) → k < l.count → list_any (same_edge (opened_at k l.e)) l.self ≡ false;
  counted : IsCounted (length l.self) l.fn.comparisons l.comparisons;
  within : IsWithin (length l.self) (l.count + 1) l.fn.comparisons l.comparisons;
}
