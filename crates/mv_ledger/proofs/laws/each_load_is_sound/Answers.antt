use Rattle.mv_saved_text.proofs.Saves.SavedLoads.{loads-sound}
use Rattle.mv_ledger.proofs.laws.each_load_is_sound.Goals as goal

pub returns : goal.returns
returns c = loads-sound c.modules_are_read_by_text.ensures
