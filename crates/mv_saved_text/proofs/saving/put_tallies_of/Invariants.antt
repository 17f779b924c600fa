use Rattle.mv_saved_text.proofs.Common.{◌++◌, ◌≡◌, take, counts_text}
use Rattle.mv_saved_text.proofs.saving.put_tallies_of.Given as goal

abbrev pub invariant-each : goal.invariant-each
invariant-each l = l.text.items ≡ l.fn.text.items ++ counts_text (take l.tally-index l.tallies)
