use Rattle.mv_interface.proofs.Common.{length}
use Rattle.mv_interface.proofs.outline.+have_names.Given as goal

abbrev pub decreases-have_names : goal.decreases-have_names
decreases-have_names l = length l.names.now
