use Rattle.mv_certificate.proofs.Common.{arith}
use Rattle.mv_certificate.proofs.Loops.{position-next, label-stops, label-unread, label-open, label-exact}
use Rattle.mv_certificate.proofs.reading.read_label.Goals as goal

pub returns-in_err-position-clause-refused : goal.returns-in_err-position-clause-refused
returns-in_err-position-clause-refused c is =
    label-stops c.in_ok-count.count c.positions.counter c.args.reader.now c.number.new.self c.positions.exact.path c.positions.reader
    c.in_ok-count.ensures.reads (omega arith) c.in_err-position.ensures.reads.1 c.positions.invariant.0

pub positions-preserved : goal.positions-preserved
positions-preserved c =
    position-next c.in_ok-count.count c.positions.counter c.number.new.self c.positions.reader c.number-in-positions.new.self c.in_ok-position.position c.positions.exact c.in_ok-exact.exact
    (omega arith) c.in_ok-position.ensures.reads c.in_ok-exact.ensures c.positions.invariant

pub returns-in_ok-opened-clause-ok : goal.returns-in_ok-opened-clause-ok
returns-in_ok-opened-clause-ok c =
    label-open c.in_ok-count.count c.positions.counter c.args.reader.now c.number.new.self c.positions.reader c.read_openness.new.reader c.positions.exact c.in_ok-opened.field-0 c.in_ok-is_open.is_open
    c.in_ok-count.ensures.reads (omega arith) c.in_ok-is_open.ensures c.if-is_open.true c.in_ok-opened.ensures c.positions.invariant.0

pub returns-else-is_open-clause-ok : goal.returns-else-is_open-clause-ok
returns-else-is_open-clause-ok c =
    label-exact c.in_ok-count.count c.positions.counter c.args.reader.now c.number.new.self c.positions.reader c.read_openness.new.reader c.positions.exact c.in_ok-is_open.is_open
    c.in_ok-count.ensures.reads (omega arith) c.in_ok-is_open.ensures c.if-is_open.false c.positions.invariant

pub returns-in_err-is_open-clause-refused : goal.returns-in_err-is_open-clause-refused
returns-in_err-is_open-clause-refused c is =
    label-unread c.in_ok-count.count c.positions.counter c.args.reader.now c.number.new.self c.positions.exact.path c.positions.reader
    c.in_ok-count.ensures.reads (omega arith) c.in_err-is_open.ensures.1 c.positions.invariant.0
