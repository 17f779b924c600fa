use Rattle.std.proofs.Common.{◌≡◌, ◌+◌, ◌<◌, ◌++◌, length, take, arith, length-append, length-take-le}
use Rattle.std.proofs.KnownBytes.{Consumes-trans}
use Rattle.std.proofs.lemmas.Grind.{common_steps}
use Rattle.std.proofs.lemmas.Result.{err_from_is_err_and}
use Rattle.moveledger.proofs.Whole.{read_not_write}
use Rattle.moveledger.proofs.reading.read_payload.Goals as goal

pub returns-in_err-n-clause-err : goal.returns-in_err-n-clause-err
returns-in_err-n-clause-err g c =
    let p = err_from_is_err_and c.from_residual.result c.from_residual.ensures.1 in
    let e = c.in_err-n.ensures.err in
    let so_far = c.loop-payload.payload.items in
    let short : length e.1 < length c.fill.new.buffer = e.2 in
    let count : length (so_far ++ e.1) ≡ length so_far + length e.1 = length-append so_far e.1 in
    rw (p.1, p.2) (read_not_write _ e.0, so_far ++ e.1, Consumes-trans _ _ _ _ _ c.loop-payload.invariant.taken e.3, grind (arith, common_steps))

pub returns-then-n-piece-clause-ok : goal.returns-then-n-piece-clause-ok
returns-then-n-piece-clause-ok g c =
    let e = c.in_ok-n.ensures in
    let so_far = c.loop-payload.payload.items in
    let more = take c.in_ok-n.n c.fill.new.buffer in
    let size : length more ≡ c.in_ok-n.n = length-take-le c.in_ok-n.n c.fill.new.buffer e.within in
    let count : length (so_far ++ more) ≡ length so_far + length more = length-append so_far more in
    (so_far ++ more, Consumes-trans _ _ _ _ _ c.loop-payload.invariant.taken e.taken, (grind (arith, common_steps), e.end (grind (arith, common_steps))))
