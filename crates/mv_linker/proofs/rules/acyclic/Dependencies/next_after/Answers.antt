use Rattle.mv_linker.proofs.Common.{modules_in}
use Rattle.mv_linker.proofs.Cycles.Finished.{next-after}
use Rattle.mv_linker.proofs.rules.acyclic.Dependencies.next_after.Goals as goal

pub returns : goal.returns
returns c = next-after (modules_in c.args.self.now.scope.now) c.args.base c.args.place c.needs_at.result.now c.args.done.now c.outside.result c.requires.place c.needs_at.ensures c.outside.ensures
