use Rattle.mv_ledger_state.proofs.Bundles.Placing.{IsPlacing}
use Rattle.mv_ledger_state.proofs.published.placed.Given as goal

abbrev pub invariant-each : goal.invariant-each
invariant-each l = IsPlacing l.store l.tallies l.news l.new-index l.all.items l.next
