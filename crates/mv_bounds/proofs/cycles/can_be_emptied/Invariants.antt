use Rattle.mv_bounds.proofs.Common.{ℕ, Global, Vec, map}
use Rattle.mv_bounds.proofs.RemovalLemmas.{remaining, Removal}
use Rattle.mv_bounds.proofs.cycles.can_be_emptied.Given as goal

abbrev pub invariant-loop-node : goal.invariant-loop-node
invariant-loop-node l = Removal (map (λ (s : Vec ℕ Global). s.items) l.graph) l.waiting.items l.removed.items l.ready.items

abbrev pub decreases-loop-node : goal.decreases-loop-node
decreases-loop-node l = remaining l.removed.items
