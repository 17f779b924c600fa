use Rattle.std.proofs.Common.{take, All}
use Rattle.mv_lattice.specs.Flow.{IsStated}
use Rattle.mv_lattice.proofs.search.count_above.Given as goal

abbrev pub invariant-loop-i : goal.invariant-loop-i
invariant-loop-i g l =
    All (λ n. (s : g.row.D-State.Denot) × (IsStated l.states n s × (g.D.Domain.order l.d).below l.t s)) (take l.i l.blocks)
