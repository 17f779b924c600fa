use Rattle.mv_ledger_state.specs.View.{state_of}
use Rattle.mv_saved_text.proofs.NeverRefused.{saves-never-refused}
use Rattle.mv_ledger.proofs.laws.no_save_is_refused.Goals as goal

pub returns : goal.returns
returns c = saves-never-refused c.modules_are_read_by_text.ensures (state_of c.args.ledger.now) c.is_sound.ensures c.is_savable.ensures
