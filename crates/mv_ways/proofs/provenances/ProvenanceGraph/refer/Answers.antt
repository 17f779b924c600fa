use Rattle.mv_edges.proofs.Common.{on_ok_weaker}
use Rattle.mv_ways.proofs.ProvenanceGraph.Kept.{edges_referred}
use Rattle.mv_ways.proofs.provenances.ProvenanceGraph.refer.Goals as goal

pub returns-clause-edges : goal.returns-clause-edges
returns-clause-edges c =
    on_ok_weaker c.push_reference.result
    (edges_referred c.args.node c.args.provenance c.args.self.now c.push_provenance.new.self c.push_reference.new.self c.in_ok-place.place c.in_ok-place.ensures.place c.in_ok-place.ensures.pushed c.in_ok-place.ensures.edges)
    c.push_reference.ensures
