use Rattle.mv_type_states.proofs.Common.{AreGraphs}
use Rattle.mv_type_states.proofs.flow_graphs.Given as goal

abbrev pub invariant-loop-f : goal.invariant-loop-f
invariant-loop-f l = AreGraphs l.m.functions l.f l.graphs.items
