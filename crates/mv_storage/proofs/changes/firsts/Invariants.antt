use Rattle.mv_storage.proofs.Common.{◌≡◌, ◌≤◌, length, get, IsOrdered, Key, key_cmp}
use Rattle.std.proofs.Common.{drop}
use Rattle.mv_storage.specs.Difference.{first_at}
use Rattle.mv_storage.proofs.changes.firsts.Given as goal

-- the oldest changes of those that were passed
abbrev pub invariant-loop-i : goal.invariant-loop-i
invariant-loop-i l = record {
  from : l.mark ≤ l.i;
  within : l.i ≤ length l.undo;
  ordered : IsOrdered key_cmp l.firsts;
  has : (q : Key) → get key_cmp l.firsts q ≡ first_at l.i (drop l.i l.undo) q;
}

abbrev pub decreases-loop-i : goal.decreases-loop-i
decreases-loop-i l = l.i
