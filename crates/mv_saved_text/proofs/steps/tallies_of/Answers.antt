use Rattle.mv_saved_text.proofs.Common.{all_of}
use Rattle.mv_saved_text.proofs.Saves.Steps.{counts-come}
use Rattle.mv_saved_text.proofs.steps.tallies_of.Goals as goal

pub returns : goal.returns
returns c = λ s same. counts-come s (all_of c.args.tallies.now) c.new-text.result.items c.put_tallies.new.text.items same c.new-text.ensures.items c.in_ok-put_tallies.ensures
