use Rattle.mv_certificate.proofs.Common.{append-nil, sym, uleb}
use Rattle.mv_certificate.proofs.Lists.{text-next, counted-end}
use Rattle.mv_certificate.proofs.writing.write_path.Goals as goal

pub loop-position-init : goal.loop-position-init
loop-position-init c = sym (append-nil c.write.new.out.items)

pub loop-position-preserved : goal.loop-position-preserved
loop-position-preserved c =
    text-next uleb c.args.path.now c.loop-position.position-index 0 c.from.result c.write.new.out.items c.loop-position.out.items c.write-in-loop-position.new.out.items
    c.loop-position-test.true c.from.ensures c.loop-position.invariant c.in_ok-write-2.ensures.written

pub returns : goal.returns
returns c =
    counted-end uleb c.args.path.now c.loop-position.position-index c.args.out.now.items c.write.new.out.items c.loop-position.out.items
    c.loop-position-test.false c.in_ok-write.ensures.written c.loop-position.invariant
