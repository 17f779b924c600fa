use Rattle.std.proofs.Common.{not, ap, ◌∙◌}
use Rattle.mv_borrow_graph.proofs.Between.{to_mutable}
use Rattle.mv_borrow_graph.proofs.site.Site.is_readable.Goals as goal

pub returns : goal.returns
returns c = ap not (c.any_between.ensures ∙ to_mutable c.args.self.now c.args.s.now c.args.node)
