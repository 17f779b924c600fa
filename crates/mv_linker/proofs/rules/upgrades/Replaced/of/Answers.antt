use Rattle.mv_linker.proofs.Joining.Upgrades.{kept-sound}
use Rattle.mv_linker.proofs.rules.upgrades.Replaced.of.Goals as goal

pub returns-clause-kept : goal.returns-clause-kept
returns-clause-kept c = kept-sound c.args.store.now c.args.place c.interface.result.now c.len-count.ensures.store c.interface.ensures
