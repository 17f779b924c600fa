use Rattle.mv_saved_text.proofs.SavedFails.{loads-hold}
use Rattle.mv_ledger.proofs.laws.no_load_fails.Goals as goal

pub returns : goal.returns
returns c = loads-hold c.modules_are_read_by_text.ensures
