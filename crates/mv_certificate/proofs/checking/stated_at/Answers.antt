use Rattle.mv_certificate.proofs.Common.{arith}
use Rattle.mv_certificate.proofs.States.{fit-at, fit-length}
use Rattle.mv_certificate.proofs.checking.stated_at.Goals as goal

pub stated_of-requires : goal.stated_of-requires
stated_of-requires c = omega (arith, fit-length c.args.m.now c.args.m.now.functions c.args.c.now c.requires.shape)

pub returns-clause-fits : goal.returns-clause-fits
returns-clause-fits c = λ d e. fit-at c.args.m.now c.args.m.now.functions c.args.c.now c.args.f d c.stated_of.result.now c.requires.shape e c.stated_of.ensures
