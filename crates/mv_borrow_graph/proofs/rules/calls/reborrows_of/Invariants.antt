use Rattle.std.proofs.Common.{◌≡◌, ◌+◌, ◌++◌, List, drop}
use Rattle.mv_edges.specs.Edges.{Edge}
use Rattle.mv_ways.specs.Graph.{taken_over}
use Rattle.mv_certificate_rules.specs.BorrowRules.{result_edges}
use Rattle.mv_borrow_graph.proofs.rules.calls.reborrows_of.Given as goal

-- with the edges of the results to come, these are the edges of all
abbrev pub invariant-loop-i : goal.invariant-loop-i
invariant-loop-i l =
    (es : List Edge) → taken_over l.reborrows.items es ++ result_edges l.mutable l.all (l.place + l.i) (drop l.i l.results) es ≡ result_edges l.mutable l.all l.place l.results es
