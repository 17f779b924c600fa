use Rattle.std.proofs.Common.{take}
use Rattle.mv_lattice.specs.Flow.{IsBelowEach}
use Rattle.mv_lattice.proofs.flow.is_below_each.Given as goal

abbrev pub invariant-loop-n : goal.invariant-loop-n
invariant-loop-n g l = IsBelowEach (g.D.Domain.order l.d) l.flow (take l.n-index l.blocks) l.t
