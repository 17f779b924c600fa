use Rattle.mv_saved_text.proofs.Common.{sections_of}
use Rattle.mv_saved_text.proofs.Saves.Sections.{AreEmptyRows}
use Rattle.mv_saved_text.proofs.saving.empty_rows.Given as goal

abbrev pub invariant-each : goal.invariant-each
invariant-each l = AreEmptyRows l.layouts l.place (sections_of l.rows.items)
