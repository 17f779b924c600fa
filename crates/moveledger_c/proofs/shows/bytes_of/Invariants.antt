use Rattle.std.proofs.Common.{◌++◌, ◌≡◌, length}
use Rattle.mv_lines.specs.LinesView.{ended}
use Rattle.moveledger_c.proofs.shows.bytes_of.Given as goal

abbrev pub invariant-each : goal.invariant-each
invariant-each l = l.text.items ++ ended l.lines.left ≡ ended l.fn.lines.left

abbrev pub decreases-each : goal.decreases-each
decreases-each l = length (ended l.lines.left)
