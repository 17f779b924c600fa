use Rattle.mv_lines.proofs.Common.{◌++◌, ◌≡◌, length}
use Rattle.mv_lines.specs.LinesView.{ended}
use Rattle.mv_lines.proofs.lines.Lines.into_text.Given as goal

abbrev pub invariant-each : goal.invariant-each
invariant-each l = l.text.items ++ ended l.self.left ≡ ended l.fn.self.left

abbrev pub decreases-each : goal.decreases-each
decreases-each l = length (ended l.self.left)
