use Rattle.mv_interface.proofs.Common.{refl}
use Rattle.mv_interface.proofs.interface.Interface.copied.Goals as goal

pub returns : goal.returns
returns c = rw (c.in_ok-outline.ensures, c.in_ok-parts.ensures, c.in_ok-parameters.ensures, c.in_ok-results.ensures) refl
