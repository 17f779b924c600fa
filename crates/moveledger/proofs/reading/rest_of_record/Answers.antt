use Rattle.std.proofs.Common.{◌++◌}
use Rattle.std.proofs.KnownBytes.{Consumes-trans}
use Rattle.std.proofs.lemmas.Result.{err_from_is_err_and}
use Rattle.moveledger.specs.Outcome.{left_of}
use Rattle.moveledger.specs.Reading.{in_length, in_payload}
use Rattle.moveledger.proofs.Taken.{left_of-end}
use Rattle.moveledger.proofs.Unfinished.{cut-no_length, cut-payload}
use Rattle.moveledger.proofs.Whole.{IsText-from, read_not_write}
use Rattle.moveledger.proofs.reading.rest_of_record.Goals as goal

pub returns-in_err-len-clause-err : goal.returns-in_err-len-clause-err
returns-in_err-len-clause-err g c =
    let p = err_from_is_err_and c.from_residual.result c.from_residual.ensures.1 in
    let e = c.in_err-len.ensures.err in
    rw (p.1, p.2) (read_not_write _ e.0, e.1, e.2, in_length c.args.kind e.1 e.3)

pub returns-in_default-clause-ok : goal.returns-in_default-clause-ok
returns-in_default-clause-ok g c =
    let len = rw c.in_default.is at c.in_ok-len.ensures.ok in
    (len.0, len.1, cut-no_length c.args.kind len.0 (left_of (g.R.Read.remaining c.read_length.new.reader)) len.2)

pub returns-in_err-is_whole-clause-err : goal.returns-in_err-is_whole-clause-err
returns-in_err-is_whole-clause-err g c =
    let p = err_from_is_err_and c.from_residual-in_err-is_whole.result c.from_residual-in_err-is_whole.ensures.1 in
    let e = c.in_err-is_whole.ensures.err in
    let len = rw c.in-Some.is at c.in_ok-len.ensures.ok in
    rw (p.1, p.2) (e.0, len.0 ++ e.1, Consumes-trans _ _ _ _ _ len.1 e.2, in_payload c.args.kind c.in-Some.len len.0 e.1 len.2.0 len.2.1 e.3)

pub returns-then-is_whole-clause-ok : goal.returns-then-is_whole-clause-ok
returns-then-is_whole-clause-ok g c =
    let len = rw c.in-Some.is at c.in_ok-len.ensures.ok in
    let e = rw c.if-is_whole.true at c.in_ok-is_whole.ensures.ok in (
      len.0 ++ e.0,
      Consumes-trans _ _ _ _ _ len.1 e.1,
      IsText-from c.args.kind c.in-Some.len len.0 e.0 c.read_payload.new.payload.items len.2.0 len.2.1 e.2.0 e.2.1,
    )

pub returns-else-is_whole-clause-ok : goal.returns-else-is_whole-clause-ok
returns-else-is_whole-clause-ok g c =
    let len = rw c.in-Some.is at c.in_ok-len.ensures.ok in
    let e = rw c.if-is_whole.false at c.in_ok-is_whole.ensures.ok in (
      len.0 ++ e.0,
      Consumes-trans _ _ _ _ _ len.1 e.1,
      cut-payload c.args.kind c.in-Some.len len.0 e.0 (left_of (g.R.Read.remaining c.read_payload.new.reader)) len.2.0 len.2.1 e.2.0 (left_of-end _ e.2.1),
    )
