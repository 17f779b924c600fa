use Rattle.mv_edges.proofs.Common.{◌-◌, ◌<◌, ◌≡◌, ◌≤◌, drop, length, take, true, list_all, edge_before, counted}
use Rattle.mv_edges.proofs.Counting.{Spends}
use Rattle.mv_edges.proofs.search.place_of.Given as goal

abbrev pub invariant-loop-low : goal.invariant-loop-low
invariant-loop-low l = record {
  order : l.low ≤ l.high;
  within : l.high ≤ length l.items;
  before : list_all (λ x. edge_before x l.e) (take l.low l.items) ≡ true;
  after : list_all (edge_before l.e) (drop l.high l.items) ≡ true;
  count : Spends (l.high - l.low) (length l.items) l.fn.comparisons l.comparisons;
  least : l.high - l.low < length l.items → counted 1 l.fn.comparisons ≤ l.comparisons;
  kept : l.fn.comparisons ≤ l.comparisons;
}

abbrev pub decreases-loop-low : goal.decreases-loop-low
decreases-loop-low l = l.high - l.low
