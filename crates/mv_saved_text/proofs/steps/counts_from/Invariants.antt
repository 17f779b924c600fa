use Rattle.mv_saved_text.proofs.Saves.Steps.{IsCounted}
use Rattle.mv_saved_text.proofs.steps.counts_from.Given as goal

abbrev pub invariant-each : goal.invariant-each
invariant-each l = IsCounted l.layouts l.fn.storage.committed l.fn.i l.at l.text.items
