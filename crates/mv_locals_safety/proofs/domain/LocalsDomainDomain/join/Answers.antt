use Rattle.mv_lattice.proofs.Joins.{made_least}
use Rattle.mv_locals_safety.specs.Laws.{locals_lawful}
use Rattle.mv_locals_safety.proofs.domain.LocalsDomainDomain.join.Goals as goal

pub returns-clause-least : goal.returns-clause-least
returns-clause-least c =
    made_least (locals_lawful c.args.self.now.home c.args.self.now.function) c.args.a.now c.args.b.now c.requires.a c.requires.b c.join.result c.join.ensures
