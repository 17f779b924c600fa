use Rattle.mv_saved_text.proofs.SavedFails.{loads-one}
use Rattle.mv_ledger.proofs.laws.each_load_is_one.Goals as goal

pub returns : goal.returns
returns c = loads-one c.modules_are_read_by_text.ensures
