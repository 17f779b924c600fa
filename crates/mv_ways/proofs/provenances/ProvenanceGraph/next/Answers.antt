use Rattle.mv_edges.proofs.Common.{◌∙◌}
use Rattle.mv_ways.specs.Provenances.{edges_of}
use Rattle.mv_ways.proofs.ProvenanceGraph.Counting.{first_all}
use Rattle.mv_ways.proofs.provenances.ProvenanceGraph.next.Goals as goal

pub returns : goal.returns
returns c = c.tell_each.ensures.1 c.requires ∙ first_all c.args.last (edges_of c.args.self.now)
