use Rattle.std.proofs.Common.{◌≡◌, ◌+◌, ◌-◌}
use Rattle.mv_lattice.specs.Flow.{carried, through}
use Rattle.mv_lattice.proofs.flow.carry.Given as goal

abbrev pub invariant-loop-at : goal.invariant-loop-at
invariant-loop-at g l =
    let o = g.D.Domain.order l.d in
    o.is_state l.s × (carried o.steps l.at (l.block.last + 1 - l.at) l.s ≡ through o.steps l.block l.initial.s)
