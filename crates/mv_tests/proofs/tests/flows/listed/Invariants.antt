use Rattle.std.specs.Prelude.{IsTrue}
use Rattle.mv_edges.specs.Ascending.{are_ascending}
use Rattle.mv_tests.proofs.tests.flows.listed.Given as goal

abbrev pub invariant-loop-at : goal.invariant-loop-at
invariant-loop-at l = IsTrue (are_ascending l.edges)
