use Rattle.mv_edges.proofs.Common.{◌≡◌, false, flat_map, into, sorted, take}
use Rattle.mv_ways.specs.Listing.{listed}
use Rattle.mv_ways.specs.Provenances.{edges_of}
use Rattle.mv_ways.proofs.provenances.ProvenanceGraph.led_into.Given as goal

-- the edges into the nodes so far
abbrev pub invariant-loop-n : goal.invariant-loop-n
invariant-loop-n l = l.listing.has_failed ≡ false → sorted (listed l.listing) ≡ sorted (flat_map (λ n. into n (edges_of l.self)) (take l.n-index l.nodes))
