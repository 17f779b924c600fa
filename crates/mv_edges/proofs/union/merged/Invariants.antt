use Rattle.mv_edges.proofs.Common.{◌++◌, ◌+◌, ◌-◌, ◌≡◌, ◌≤◌, drop, length, sorted}
use Rattle.mv_edges.proofs.union.merged.Given as goal

abbrev pub invariant-loop-i : goal.invariant-loop-i
invariant-loop-i l = record {
  left : l.i ≤ length l.a;
  right : l.j ≤ length l.b;
  merged : l.items.items ++ sorted (drop l.i l.a ++ drop l.j l.b) ≡ sorted (l.a ++ l.b);
}

abbrev pub decreases-loop-i : goal.decreases-loop-i
decreases-loop-i l = (length l.a - l.i) + (length l.b - l.j)
