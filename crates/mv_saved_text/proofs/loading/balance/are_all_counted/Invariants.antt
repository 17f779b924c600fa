use Rattle.mv_saved_text.proofs.Common.{take, AllByRecursion, IsTallied, all_of}
use Rattle.mv_saved_text.proofs.loading.balance.are_all_counted.Given as goal

abbrev pub invariant-each : goal.invariant-each
invariant-each l = AllByRecursion (IsTallied l.counts l.runs) (all_of (take l.place l.tallies))
