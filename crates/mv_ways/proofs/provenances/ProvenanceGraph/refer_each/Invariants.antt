use Rattle.mv_edges.proofs.Common.{◌++◌, ◌≡◌, length, true}
use Rattle.mv_ways.specs.Made.{are_inside, grouped}
use Rattle.mv_ways.specs.Provenances.{edges_of}
use Rattle.mv_ways.proofs.provenances.ProvenanceGraph.refer_each.Given as goal

-- references for the first groups, and the groups that are left
abbrev pub invariant-loop-group : goal.invariant-loop-group
invariant-loop-group l =
    let left = l.group-iterator.rest.items in
    (edges_of l.self ++ grouped l.self.sources left ≡ edges_of l.fn.self ++ grouped l.fn.self.sources l.fn.groups.items) × (are_inside (length l.self.sources) left ≡ true)
