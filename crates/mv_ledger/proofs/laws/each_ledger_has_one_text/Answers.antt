use Rattle.mv_saved_text.proofs.Saves.Saved.{texts-one}
use Rattle.mv_ledger.proofs.laws.each_ledger_has_one_text.Goals as goal

pub returns : goal.returns
returns c = texts-one
