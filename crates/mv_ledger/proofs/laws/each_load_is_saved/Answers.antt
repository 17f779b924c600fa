use Rattle.mv_saved_text.proofs.Saves.SavedLoads.{loads-save}
use Rattle.mv_ledger.proofs.laws.each_load_is_saved.Goals as goal

pub returns : goal.returns
returns c = loads-save
