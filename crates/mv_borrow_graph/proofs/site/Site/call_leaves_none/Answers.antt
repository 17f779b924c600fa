use Rattle.std.proofs.Common.{sym, ◌∙◌}
use Rattle.mv_borrow_graph.proofs.NoEdges.{call_none}
use Rattle.mv_borrow_graph.proofs.site.Site.call_leaves_none.Goals as goal

pub returns : goal.returns
returns c = λ some.
    call_none c.args.self.now c.args.callee (λ call. call.place) (λ call. call.parameters.now) (λ call. call.results.now) c.call_of.result c.call_of.ensures.edges (sym c.is_some.ensures ∙ some)
