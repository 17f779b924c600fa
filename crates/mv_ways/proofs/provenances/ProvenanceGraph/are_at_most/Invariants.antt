use Rattle.mv_edges.proofs.Common.{◌-◌, ◌≡◌, ◌≤◌, drop, filter, sorted}
use Rattle.mv_ways.specs.Counting.{is_behind}
use Rattle.mv_ways.specs.Provenances.{edges_of}
use Rattle.mv_ways.proofs.provenances.ProvenanceGraph.are_at_most.Given as goal

-- behind the last one are all but those that were counted
abbrev pub invariant-loop-count : goal.invariant-loop-count
invariant-loop-count l = record {
  within : l.count ≤ l.most;
  behind : filter (is_behind l.last) (sorted (edges_of l.self)) ≡ drop l.count (sorted (edges_of l.self));
}

abbrev pub decreases-loop-count : goal.decreases-loop-count
decreases-loop-count l = l.most - l.count
