use Rattle.mv_type_rules.specs.Sound.{types_before}
use Rattle.mv_borrow_graph.proofs.Stacks.{low_stack}
use Rattle.mv_borrow_graph.proofs.domain.BorrowDomain.site.Goals as goal

pub invariant_of-result : goal.invariant_of-result
invariant_of-result c =
    (c.self.invariant.0, low_stack c.self.inside.stacks.now (types_before c.self.inside.scope.module.now c.self.inside.scope.function.now) c.args.at c.before-2.result.now c.self.invariant.2 c.self.invariant.4 c.before-2.ensures)
