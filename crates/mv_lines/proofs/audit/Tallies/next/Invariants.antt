use Rattle.mv_lines.proofs.Common.{◌++◌, ◌≡◌, all_of, length}
use Rattle.mv_machine.specs.Tallies.{lists_of}
use Rattle.mv_lines.proofs.audit.Tallies.next.Given as goal

abbrev pub invariant-modules : goal.invariant-modules
invariant-modules l =
    let first = l.initial.self-inside in
    let now = l.self-inside in
    now.left.now ++ all_of (lists_of now.rest.now) ≡ first.left.now ++ all_of (lists_of first.rest.now)

abbrev pub decreases-modules : goal.decreases-modules
decreases-modules l = length l.self-inside.rest.now
