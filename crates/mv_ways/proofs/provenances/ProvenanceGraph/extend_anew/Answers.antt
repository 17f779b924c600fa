use Rattle.mv_edges.proofs.Common.{on_ok_weaker}
use Rattle.mv_ways.proofs.ProvenanceGraph.Stating.{extended_anew}
use Rattle.mv_ways.proofs.provenances.ProvenanceGraph.extend_anew.Goals as goal

pub returns : goal.returns
returns c =
    on_ok_weaker c.state.result
    (extended_anew c.args.position c.args.n c.args.self.now c.remove.new.self c.state.new.self c.in_ok-edges.edges c.in_ok-edges.ensures c.remove.ensures)
    c.state.ensures
