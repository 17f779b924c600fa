use Rattle.mv_edges.proofs.Common.{◌∙◌, ap, not}
use Rattle.mv_ways.specs.Borrows.{is_related}
use Rattle.mv_ways.proofs.States.{not_all}
use Rattle.mv_ways.proofs.borrows.has_in_graph.Goals as goal

pub returns : goal.returns
returns c = ap not c.all_pass.ensures ∙ not_all (is_related c.args.relation c.args.e.now) c.args.graph.now
