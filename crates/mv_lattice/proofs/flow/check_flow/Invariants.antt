use Rattle.std.proofs.Common.{ℕ, ◌<◌}
use Rattle.mv_cfg.specs.declared.Block.{Block}
use Rattle.mv_cfg.specs.Graph.{IsBlock}
use Rattle.mv_lattice.specs.Flow.{IsStated, IsClosedAt}
use Rattle.mv_lattice.proofs.flow.check_flow.Given as goal

abbrev pub invariant-loop-k : goal.invariant-loop-k
invariant-loop-k g l =
    (k : ℕ) (b : Block) (s : g.row.D-State.Denot) → k < l.k → IsBlock l.g k b → IsStated l.stated k s → IsClosedAt (g.D.Domain.order l.d) l.stated b s
