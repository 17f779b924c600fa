use Rattle.mv_edges.proofs.Common.{◌∙◌}
use Rattle.mv_edges.proofs.Searches.{searched}
use Rattle.mv_edges.proofs.edges.Edges.has.Goals as goal

pub returns-clause-value : goal.returns-clause-value
returns-clause-value c = c.is_ok.ensures.value ∙ searched c.args.self.now c.args.e.now c.search.result c.search.ensures.found c.search.ensures.before c.search.ensures.after
