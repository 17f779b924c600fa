use Rattle.mv_soundness.proofs.Typing.Whole.{step_typed_law}
use Rattle.mv_soundness.proofs.soundness.every_step_is_typed.Goals as goal

pub returns : goal.returns
returns c = step_typed_law
