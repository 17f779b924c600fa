use Rattle.mv_saved_text.proofs.SavedFails.{comes-back}
use Rattle.mv_ledger.proofs.laws.each_second_form_comes_back.Goals as goal

pub returns : goal.returns
returns c = comes-back c.modules_are_read_by_text.ensures
