use Rattle.std.proofs.Common.{sym, ◌∙◌}
use Rattle.mv_certificate_rules.specs.BorrowRules.{edges_after}
use Rattle.mv_borrow_graph.proofs.Rows.{left}
use Rattle.mv_borrow_graph.proofs.site.Site.step.Goals as goal

pub returns-then-leaves-clause-ok : goal.returns-then-leaves-clause-ok
returns-then-leaves-clause-ok c =
    left (edges_after c.args.self.now c.args.instruction.now c.args.s) c.args.s c.requires (c.leaves.ensures c.if-leaves.true c.args.s (sym c.is_met.ensures ∙ c.if-not-is_met.false))
