use Rattle.mv_edges.proofs.Common.{◌<◌, ℕ, length, option_map_or, suc}
use Rattle.std.specs.Prelude.{IfSome}
use Rattle.mv_ways.specs.Going.{IsReturned}
use Rattle.mv_ways.proofs.ProvenanceGraph.Leading.{ReturnedBehind}
use Rattle.mv_ways.proofs.provenances.ProvenanceGraph.is_derived_from_result.Given as goal

-- what was given is given to the next provenance
abbrev pub invariant-loop-next : goal.invariant-loop-next
invariant-loop-next l = record {
  inside : IfSome l.next (λ k. k < length l.self.provenances);
  behind : (k : ℕ) → IsReturned l.self.provenances l.fn.last 0 k → ReturnedBehind l.self.provenances l.next k;
}

abbrev pub decreases-loop-next : goal.decreases-loop-next
decreases-loop-next l = option_map_or suc l.next 0
