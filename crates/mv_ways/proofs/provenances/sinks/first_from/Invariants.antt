use Rattle.mv_edges.proofs.Common.{◌-◌, ◌≡◌, ◌≤◌, an_edge, edge_before, false, here, length, true}
use Rattle.std.specs.List.{AllWithin}
use Rattle.mv_ways.proofs.provenances.sinks.first_from.Given as goal

-- what stands before one place comes before all those between the nodes, and what stands from another one on doesn't
abbrev pub invariant-loop-low : goal.invariant-loop-low
invariant-loop-low l = record {
  order : l.low ≤ l.high;
  within : l.high ≤ length l.others;
  before : AllWithin (λ x. edge_before x (an_edge l.fn.from here l.fn.to) ≡ true) l.others 0 l.low;
  behind : AllWithin (λ x. edge_before x (an_edge l.fn.from here l.fn.to) ≡ false) l.others l.high (length l.others);
}

abbrev pub decreases-loop-low : goal.decreases-loop-low
decreases-loop-low l = l.high - l.low
