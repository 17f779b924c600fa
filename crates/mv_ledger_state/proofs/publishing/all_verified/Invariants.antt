use Rattle.mv_ledger_state.proofs.Bundles.Verifying.{IsVerifying}
use Rattle.mv_ledger_state.proofs.publishing.all_verified.Given as goal

abbrev pub invariant-each : goal.invariant-each
invariant-each l = IsVerifying l.offers l.offer-index l.all.items
