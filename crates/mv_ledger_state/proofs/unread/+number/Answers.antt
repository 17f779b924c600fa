use Rattle.mv_ledger_state.proofs.Common.{arith}
use Rattle.mv_ledger_state.proofs.Unreading.{zero-stays, above-stays}
use Rattle.mv_ledger_state.proofs.unread.+number.Goals as goal

pub returns-then-high-eq0-clause-refused : goal.returns-then-high-eq0-clause-refused
returns-then-high-eq0-clause-refused t c =
    zero-stays c.args.most c.from-low.result c.in_ok-high.high c.in_ok-byte.field-0 c.args.reader.now c.byte.new.self c.number.new.reader c.in_ok-byte.ensures c.from-low.ensures (omega arith)
    c.in_ok-high.ensures.reads c.if-high-eq0.true

pub returns-then-all-most-clause-refused : goal.returns-then-all-most-clause-refused
returns-then-all-most-clause-refused t c =
    above-stays c.args.most c.from-low.result c.in_ok-high.high c.in_ok-byte.field-0 c.args.reader.now c.byte.new.self c.number.new.reader c.in_ok-byte.ensures c.from-low.ensures (omega arith)
    c.in_ok-high.ensures.reads (omega arith) (omega arith)
