use Rattle.std.proofs.Common.{sym, ◌∙◌}
use Rattle.mv_borrow_graph.proofs.Rows.{result_edges-immutable}
use Rattle.mv_borrow_graph.proofs.rules.calls.givers_of.Goals as goal

pub returns-else-has_mutable : goal.returns-else-has_mutable
returns-else-has_mutable c = λ all k es. result_edges-immutable _ _ all k c.args.call.now.results.now es (sym c.has_mutable.ensures ∙ c.if-has_mutable.false)
