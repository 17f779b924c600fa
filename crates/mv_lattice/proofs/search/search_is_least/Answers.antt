use Rattle.mv_lattice.proofs.Found.{found_is_least, need_refuses, limit_is_large}
use Rattle.mv_lattice.proofs.search.search_is_least.Goals as goal

pub returns-clause-found : goal.returns-clause-found
returns-clause-found g c =
    let d = c.args.d.now in
    found_is_least (g.met.D.Domain.laws d) c.args.g.now c.requires.graph c.requires.same c.args.start.now c.requires.start c.requires.begins

pub returns-clause-need : goal.returns-clause-need
returns-clause-need g c =
    let d = c.args.d.now in
    need_refuses (g.met.D.Domain.laws d) c.args.g.now c.requires.graph c.requires.same c.args.start.now c.requires.start c.requires.begins

pub returns-clause-complex : goal.returns-clause-complex
returns-clause-complex g c =
    let d = c.args.d.now in
    limit_is_large (g.met.D.Domain.laws d) c.args.g.now c.requires.graph c.requires.same c.args.start.now c.requires.start c.requires.begins
