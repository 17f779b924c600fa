use Rattle.mv_saved_text.proofs.Common.{◌≡◌}
use Rattle.mv_saved_text.proofs.loading.singly.replace_stubs.Given as goal

abbrev pub invariant-each : goal.invariant-each
invariant-each l = l.published.marks ≡ l.initial.published.marks
