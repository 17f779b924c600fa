use Rattle.mv_edges.proofs.Common.{◌∙◌, sym}
use Rattle.mv_ways.proofs.ProvenanceGraph.Extending.{edges_extended}
use Rattle.mv_ways.proofs.provenances.ProvenanceGraph.extend.Goals as goal

pub returns : goal.returns
returns c =
    edges_extended c.args.position c.args.n c.args.self.now c.extend_each.new.self c.remove_out_of.new.self (sym c.any_between.ensures ∙ c.if-any_between.false) c.in_ok-extend_each.ensures c.remove_out_of.ensures
