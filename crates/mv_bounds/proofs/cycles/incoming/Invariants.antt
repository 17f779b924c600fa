use Rattle.mv_bounds.proofs.Common.{[], ℕ, ◌*◌, ◌<◌, ◌^◌, ◌≡◌, ◌≤◌, Global, Vec, get_or, length, map, take, edges_to}
use Rattle.mv_bounds.proofs.cycles.incoming.Given as goal

abbrev pub invariant-loop-targets : goal.invariant-loop-targets
invariant-loop-targets l = record {
  len : length l.counts.items ≡ length l.graph;
  counts : (j : ℕ) → j < length l.graph → get_or l.counts.items j 0 ≡ edges_to (map (λ (s : Vec ℕ Global). s.items) (take l.targets-index l.graph)) [] j;
  low : (j : ℕ) → j < length l.graph → get_or l.counts.items j 0 ≤ l.targets-index * 2 ^ 64;
}
