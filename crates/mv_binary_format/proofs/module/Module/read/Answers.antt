use Rattle.mv_binary_format.proofs.Common.{arith, common_steps, module_from}
use Rattle.mv_binary_format.proofs.module.Module.read.Goals as goal

pub of-requires : goal.of-requires
unfolding module_from
of-requires c = c.requires _ (grind (arith, common_steps))
