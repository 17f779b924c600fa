use Rattle.mv_bounds.proofs.Common.{ℕ, ◌+◌, ◌<◌, ◌≡◌, get_or, length, take, times}
use Rattle.mv_bounds.proofs.cycles.count.Given as goal

abbrev pub invariant-loop-target : goal.invariant-loop-target
invariant-loop-target l = (j : ℕ) → j < length l.counts → get_or l.counts j 0 ≡ get_or l.fn.counts j 0 + times j (take l.target-index l.targets)
