use Rattle.std.proofs.Common.{◌-◌, ◌/◌, arith}
use Rattle.std.proofs.lemmas.Result.{err_from_is_err_and}
use Rattle.mv_uleb.proofs.Front.{Gives-behind, IsLong-zero, IsAbove-number}
use Rattle.mv_uleb.proofs.reading.+read_within.Goals as goal

pub returns-in_err-high : goal.returns-in_err-high
returns-in_err-high t c =
    let p = err_from_is_err_and c.from_residual.result c.from_residual.ensures.1 in
    rw (p.1, p.2) (Gives-behind c.args.most (c.args.most - 1) c.args.max c.in-Some.first.now c.args.bytes.now c.in-Some.rest.now _ (omega arith) c.in-Some.ensures.cases.0 (omega arith) (omega arith) c.in_err-high.ensures)

pub returns-then-high-eq0 : goal.returns-then-high-eq0
returns-then-high-eq0 t c =
    IsLong-zero c.args.most (c.args.most - 1) (c.args.max / 128) c.in-Some.first.now c.in_ok-high.high c.in_ok-high.used c.args.bytes.now c.in-Some.rest.now (omega arith) c.in-Some.ensures.cases.0 (omega arith) c.if-high-eq0.true c.in_ok-high.ensures

pub returns-then-number-max : goal.returns-then-number-max
returns-then-number-max t c =
    IsAbove-number c.args.most (c.args.most - 1) c.args.max (c.args.max / 128) c.in-Some.first.now c.in_ok-high.high _ c.in_ok-high.used c.args.bytes.now c.in-Some.rest.now (omega arith) c.in-Some.ensures.cases.0 (omega arith) (omega arith) c.if-high-eq0.false (omega arith) c.if-number-max.true c.in_ok-high.ensures
