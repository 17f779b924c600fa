use Rattle.mv_borrow_graph.proofs.Free.{free_at_once}
use Rattle.mv_borrow_graph.proofs.needed.NeededFree.are_free.Goals as goal

pub returns-else-is_empty : goal.returns-else-is_empty
returns-else-is_empty c = free_at_once c.args.s.now c.args.self.now c.any_between.result c.any_between.ensures
