use Rattle.mv_edges.proofs.Common.{◌≡◌, an_edge, edge_before, edge_leq, false, here, length}
use Rattle.std.specs.List.{AllWithin}
use Rattle.mv_ways.proofs.provenances.sinks.is_above_from.Given as goal

-- none of the first ones is above it, and the others don't come before all those between its nodes
abbrev pub invariant-loop-place : goal.invariant-loop-place
invariant-loop-place l = record {
  none : AllWithin (λ x. edge_leq l.e x ≡ false) l.items 0 l.place;
  behind : AllWithin (λ x. edge_before x (an_edge l.e.from here l.e.to) ≡ false) l.items l.place (length l.items);
}
