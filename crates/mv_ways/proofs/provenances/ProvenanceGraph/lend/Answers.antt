use Rattle.mv_edges.proofs.Common.{on_ok_weaker}
use Rattle.mv_ways.proofs.ProvenanceGraph.Changed.{edges_lent}
use Rattle.mv_ways.proofs.provenances.ProvenanceGraph.lend.Goals as goal

pub returns : goal.returns
returns c =
    on_ok_weaker c.refer.result
    (edges_lent c.args.from c.args.to c.args.self.now c.source.new.self c.pop_provenance_of-over.new.self c.refer.new.self c.in_ok-source.source c.pop_provenance_of-over.result c.in_ok-source.ensures.edges
    c.in_ok-source.ensures.there c.pop_provenance_of-over.ensures.popped)
    c.refer.ensures.edges
