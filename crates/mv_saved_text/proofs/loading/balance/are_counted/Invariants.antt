use Rattle.mv_saved_text.proofs.Common.{take, AllByRecursion, IsTallied}
use Rattle.mv_saved_text.proofs.loading.balance.are_counted.Given as goal

abbrev pub invariant-each : goal.invariant-each
invariant-each l = AllByRecursion (IsTallied l.counts l.runs) (take l.tally-index l.tallies)
