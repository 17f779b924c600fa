use Rattle.mv_edges.proofs.Common.{◌≡◌, ◌≤◌, edge_leq, list_all, list_any, take, true}
use Rattle.mv_ways.proofs.provenances.along.are_below.Given as goal

-- the first edges are below the others
abbrev pub invariant-loop-e : goal.invariant-loop-e
invariant-loop-e l = record {
  few : l.searched ≤ 16;
  below : list_all (λ e. list_any (edge_leq e) l.others) (take l.e-index l.edges) ≡ true;
}
