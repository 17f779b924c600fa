use Rattle.mv_edges.proofs.Common.{◌≡◌, take}
use Rattle.mv_ways.specs.Provenances.{edges_of}
use Rattle.mv_ways.proofs.ProvenanceGraph.Made.{IsGrouped}
use Rattle.mv_ways.proofs.provenances.ProvenanceGraph.grouped.Given as goal

-- the edges so far, as groups
abbrev pub invariant-loop-number : goal.invariant-loop-number
invariant-loop-number l = IsGrouped l.self.sources l.groups.items (take l.number l.edges) × (edges_of l.self ≡ edges_of l.fn.self)
