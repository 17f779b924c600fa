use Rattle.mv_saved_text.proofs.Saves.Coding.{AreCoded}
use Rattle.mv_saved_text.proofs.saving.put_leaves.Given as goal

abbrev pub invariant-each : goal.invariant-each
invariant-each l = AreCoded l.kinds l.words l.i l.fn.text.items l.text.items
