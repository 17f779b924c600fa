use Rattle.mv_borrow_graph.proofs.Stacks.{types_long, types_low}
use Rattle.mv_borrow_graph.proofs.domain.stacks_of.Goals as goal

pub returns-clause-low : goal.returns-clause-low
returns-clause-low c = types_low c.args.m.now c.args.f c.args.function.now c.requires.typed c.requires.known

pub returns-clause-each : goal.returns-clause-each
returns-clause-each c = types_long c.args.m.now c.args.f c.args.function.now c.requires.typed c.requires.known
