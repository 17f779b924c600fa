use Rattle.mv_borrow_graph.proofs.Free.{marks_made}
use Rattle.mv_borrow_graph.proofs.needed.are_free_of_many.Goals as goal

pub invariant_of-needed : goal.invariant_of-needed
invariant_of-needed c = marks_made 8192 c.mark_all.new.marks c.args.acquired.now c.mark_all.ensures.count c.mark_all.ensures.marks
