use Rattle.std.proofs.Common.{arith}
use Rattle.moveledger.proofs.FirstRecord.{is-first, none-where-cut}
use Rattle.moveledger.proofs.records.first_record.Goals as goal

pub returns-in_err-payload : goal.returns-in_err-payload
returns-in_err-payload c =
    rw (c.from_residual-in_err-payload.ensures)
    (none-where-cut _ _ _ c.in_ok-length.used c.in_ok-length.length c.in_ok-kind.ensures.cases.0 c.in_ok-length.ensures.0 c.in_ok-length.ensures.2 (omega (arith, c.in_err-payload.ensures.lookup.0)))

pub returns : goal.returns
returns c =
    let d = c.in_ok-length.ensures in
    let f = c.in_ok-payload.ensures.lookup.0 in
    (is-first _ _ _ _ c.in_ok-length.used c.in_ok-length.length c.in_ok-kind.ensures.cases.0 d.0 d.1 f.2 f.3, omega (arith, f.1, c.in_ok-kind.ensures.cases.1))
