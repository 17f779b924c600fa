use Rattle.mv_bounds.proofs.Common.{length, take, Released}
use Rattle.mv_bounds.proofs.cycles.release.Given as goal

abbrev pub invariant-loop-target : goal.invariant-loop-target
invariant-loop-target l = Released (length l.fn.waiting) l.fn.waiting l.waiting l.fn.ready.items l.ready.items (take l.target-index l.targets)
