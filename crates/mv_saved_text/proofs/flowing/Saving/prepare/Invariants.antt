use Rattle.mv_saved_text.proofs.Common.{◌≡◌, all_of, state_of, view_of}
use Rattle.mv_saved_text.specs.Flowing.{left_in}
use Rattle.mv_saved_text.specs.Parts.Steps.{rank}
use Rattle.mv_saved_text.proofs.flowing.Saving.prepare.Given as goal

abbrev pub invariant-each : goal.invariant-each
invariant-each l =
    left_in l.self (state_of (view_of l.store l.storage.committed (all_of l.tallies) l.runs)) ≡ left_in l.initial.self (state_of (view_of l.store l.storage.committed (all_of l.tallies) l.runs))

abbrev pub decreases-each : goal.decreases-each
decreases-each l = rank (state_of (view_of l.store l.storage.committed (all_of l.tallies) l.runs)) l.self.position
