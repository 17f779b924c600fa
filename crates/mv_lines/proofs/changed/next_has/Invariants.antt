use Rattle.mv_lines.proofs.Common.{◌≡◌, length}
use Rattle.mv_lines.specs.Changed.{values_has}
use Rattle.mv_lines.proofs.changed.next_has.Given as goal

abbrev pub invariant-each : goal.invariant-each
invariant-each l = values_has l.initial.changes ≡ values_has l.changes

abbrev pub decreases-each : goal.decreases-each
decreases-each l = length l.changes
