use Rattle.mv_lines.proofs.Common.{◌≡◌, length}
use Rattle.mv_lines.specs.Changed.{values_had}
use Rattle.mv_lines.proofs.changed.next_had.Given as goal

abbrev pub invariant-each : goal.invariant-each
invariant-each l = values_had l.initial.changes ≡ values_had l.changes

abbrev pub decreases-each : goal.decreases-each
decreases-each l = length l.changes
