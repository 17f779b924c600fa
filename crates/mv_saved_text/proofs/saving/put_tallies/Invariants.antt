use Rattle.mv_saved_text.proofs.Common.{◌++◌, ◌≡◌, take, counts_text, all_of}
use Rattle.mv_saved_text.proofs.saving.put_tallies.Given as goal

abbrev pub invariant-each : goal.invariant-each
invariant-each l = l.text.items ≡ l.fn.text.items ++ counts_text (all_of (take l.place l.tallies))
