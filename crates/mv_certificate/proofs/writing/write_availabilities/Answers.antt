use Rattle.mv_certificate.proofs.Common.{availability_code}
use Rattle.mv_certificate.proofs.Lists.{codes-more, codes-end}
use Rattle.mv_certificate.proofs.writing.write_availabilities.Goals as goal

pub loop-local-preserved : goal.loop-local-preserved
loop-local-preserved c =
    codes-more availability_code c.args.locals.now c.loop-local.local-index _ c.availability_byte.result c.args.out.now.items c.loop-local.out.items c.write_byte.new.out.items
    c.loop-local-test.true c.availability_byte.ensures c.loop-local.invariant c.in_ok-write_byte.ensures

pub returns : goal.returns
returns c = codes-end availability_code c.args.locals.now c.loop-local.local-index c.args.out.now.items c.loop-local.out.items c.loop-local-test.false c.loop-local.invariant
