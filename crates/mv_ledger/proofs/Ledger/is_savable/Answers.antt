use Rattle.mv_ledger.proofs.Common.{subst, IsSavable, LedgerView, all_of, state_of}
use Rattle.mv_saved_text.proofs.Saves.SavedLoads.{ledger-savable}
use Rattle.mv_ledger.proofs.Ledger.is_savable.Goals as goal

pub returns : goal.returns
returns c =
    subst (λ (v : LedgerView). IsSavable (state_of v)) c.self.view_is
    (ledger-savable c.modules_are_read_by_text.ensures c.self.inside.published.modules c.self.inside.storage.committed (all_of c.self.inside.published.tallies) c.self.inside.runs
    c.is_tallied.ensures.few c.iter-entries.ensures.few c.self.invariant.0)
