use Rattle.mv_ledger_state.specs.View.{state_of}
use Rattle.mv_saved_text.proofs.Saves.Flows.{save-flows}
use Rattle.mv_ledger.proofs.laws.each_save_flows.Goals as goal

pub returns : goal.returns
returns c = save-flows (state_of c.args.ledger.now) c.is_sound.ensures c.is_savable.ensures
