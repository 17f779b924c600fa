use Rattle.mv_saved_text.proofs.Saves.Saved.{ledgers-one}
use Rattle.mv_ledger.proofs.laws.each_text_has_one_ledger.Goals as goal

pub returns : goal.returns
returns c = ledgers-one c.modules_are_read_by_text.ensures
