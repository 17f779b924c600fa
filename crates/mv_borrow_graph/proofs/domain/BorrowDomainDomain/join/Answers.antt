use Rattle.mv_lattice.proofs.Joins.{made_least, made_begins}
use Rattle.mv_borrow_graph.specs.Laws.{edges_lawful}
use Rattle.mv_borrow_graph.proofs.domain.BorrowDomainDomain.join.Goals as goal

pub returns-clause-least : goal.returns-clause-least
returns-clause-least c =
    made_least (edges_lawful c.args.self.now.home c.args.self.now.function) c.args.a.now c.args.b.now c.requires.a c.requires.b c.join.result c.join.ensures.union

pub returns-clause-begins : goal.returns-clause-begins
returns-clause-begins c =
    made_begins (edges_lawful c.args.self.now.home c.args.self.now.function) c.args.a.now c.args.b.now c.requires.a c.requires.b c.join.result c.join.ensures.union
