use Rattle.std.proofs.Common.{arith}
use Rattle.mv_certificate_rules.specs.Certificate.{locals_hold}
use Rattle.mv_certificate.proofs.States.{fit-at, fit-length}
use Rattle.mv_certificate.proofs.Holds.{passes-each}
use Rattle.mv_analyser.proofs.borrows.stated_at.Goals as goal

pub stated_of-requires : goal.stated_of-requires
stated_of-requires c = omega (arith, fit-length c.args.m.now c.args.m.now.functions c.args.c.now c.requires.shape)

pub returns-clause-fits : goal.returns-clause-fits
returns-clause-fits c = λ d e. fit-at c.args.m.now c.args.m.now.functions c.args.c.now c.args.f d c.stated_of.result.now c.requires.shape e c.stated_of.ensures

pub returns-clause-locals : goal.returns-clause-locals
returns-clause-locals c = λ d e. passes-each (locals_hold c.args.m.now) c.args.m.now.functions c.args.c.now c.requires.locals c.args.f d c.stated_of.result.now e c.stated_of.ensures

pub returns-clause-least : goal.returns-clause-least
returns-clause-least c = c.requires.least c.args.f c.stated_of.result.now c.stated_of.ensures
