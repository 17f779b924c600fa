use Rattle.mv_saved_text.proofs.Common.{length, sections_of}
use Rattle.mv_saved_text.specs.Parts.Saving.{stored_between}
use Rattle.mv_saved_text.proofs.Saves.Filling.{IsFilled}
use Rattle.mv_saved_text.proofs.saving.sections_between.Given as goal

abbrev pub invariant-each : goal.invariant-each
invariant-each l = IsFilled l.layouts (stored_between l.first l.last l.fn.storage.committed) (stored_between l.first l.last l.entries) (sections_of l.rows.items)

abbrev pub decreases-each : goal.decreases-each
decreases-each l = length l.entries
