use Rattle.mv_edges.proofs.Common.{on_ok_weaker}
use Rattle.mv_ways.proofs.ProvenanceGraph.Stating.{stated_edges}
use Rattle.mv_ways.proofs.provenances.ProvenanceGraph.state.Goals as goal

pub returns : goal.returns
returns c =
    on_ok_weaker c.refer.result
    (stated_edges c.args.change c.args.to c.args.self.now c.origins.new.self c.refer.new.self c.in_ok-origins.origins.items c.as_slice.result.now c.args.edges.now c.in_ok-origins.ensures.edges
    (c.in_ok-origins.ensures.origins c.args.to) c.as_slice.ensures.value)
    c.refer.ensures.edges
