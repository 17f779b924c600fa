use Rattle.mv_saved_text.proofs.Common.{◌≡◌, length, All, IsEmpty}
use Rattle.mv_saved_text.proofs.saving.empty_row.Given as goal

abbrev pub invariant-each : goal.invariant-each
invariant-each l = (length l.row.items ≡ l.index) × All IsEmpty l.row.items
