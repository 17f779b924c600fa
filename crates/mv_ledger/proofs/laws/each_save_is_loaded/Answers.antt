use Rattle.mv_saved_text.proofs.Saves.SavedLoads.{saves-load}
use Rattle.mv_ledger.proofs.laws.each_save_is_loaded.Goals as goal

pub returns : goal.returns
returns c = saves-load
