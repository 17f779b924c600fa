use Rattle.std.proofs.Common.{◌≡◌, ◌<◌, [], ◌∷◌, ◌++◌, length, take, arith, refl, inl, inr, ◌∙◌, length-take-le}
use Rattle.std.proofs.KnownBytes.{Consumes-trans}
use Rattle.std.proofs.lemmas.List.{take_more_set, length-set}
use Rattle.std.proofs.lemmas.Result.{err_from_is_err_and}
use Rattle.moveledger.proofs.Taken.{Consumes-none, left_of-end}
use Rattle.moveledger.specs.Reading.{has_no_end}
use Rattle.moveledger.proofs.Lengths.{IsUleb-whole, AreHigh-push, none_from}
use Rattle.moveledger.proofs.Unfinished.{length-begun, length-fails}
use Rattle.moveledger.proofs.reading.read_length.Goals as goal

pub returns-in_err-read_byte-clause-err : goal.returns-in_err-read_byte-clause-err
returns-in_err-read_byte-clause-err g c = let p = err_from_is_err_and c.from_residual.result c.from_residual.ensures.1 in rw (p.1, p.2) (c.in_err-read_byte.ensures.err.0, take c.loop-i.i c.loop-i.bytes, Consumes-none _ _ _ _ c.loop-i.invariant.taken c.in_err-read_byte.ensures.err.1, length-begun c.loop-i.i c.loop-i.bytes c.loop-i.invariant.high c.loop-i.invariant.ten (omega arith))

pub returns-in-None-clause-ok : goal.returns-in-None-clause-ok
returns-in-None-clause-ok g c =
    let took = take c.loop-i.i c.loop-i.bytes in
    let at = rw c.in-None.is at c.in_ok-read_byte.ensures.ok in
    (took, Consumes-none _ _ _ _ c.loop-i.invariant.taken at.0, inl (length-begun c.loop-i.i c.loop-i.bytes c.loop-i.invariant.high c.loop-i.invariant.ten (omega arith), left_of-end _ at.1))

pub returns-in-Ok-clause-ok : goal.returns-in-Ok-clause-ok
returns-in-Ok-clause-ok g c =
    let took = take c.loop-i.i c.loop-i.bytes in
    let at = rw c.in-Some.is at c.in_ok-read_byte.ensures.ok in
    let room : c.loop-i.i < length c.loop-i.bytes = omega arith in
    let found = rw (take_more_set c.loop-i.bytes c.loop-i.i c.in-Some.byte) at c.in-Ok.ensures.found in
    (took ++ c.in-Some.byte ∷ [], Consumes-trans _ _ _ _ _ c.loop-i.invariant.taken at, (IsUleb-whole took _ _ _ c.loop-i.invariant.high c.if-byte-lt128.true found.0, found.1))

pub returns-in-Err-clause-ok : goal.returns-in-Err-clause-ok
returns-in-Err-clause-ok g c =
    let took = take c.loop-i.i c.loop-i.bytes in
    let at = rw c.in-Some.is at c.in_ok-read_byte.ensures.ok in
    let room : c.loop-i.i < length c.loop-i.bytes = omega arith in
    let refused = rw (take_more_set c.loop-i.bytes c.loop-i.i c.in-Some.byte) at c.in-Err.ensures.refused in
    let none = none_from _ _ (refused refl) in
    let begun = length-begun c.loop-i.i c.loop-i.bytes c.loop-i.invariant.high c.loop-i.invariant.ten (omega arith) in
    (took ++ c.in-Some.byte ∷ [], Consumes-trans _ _ _ _ _ c.loop-i.invariant.taken at, inr (length-fails took _ begun c.if-byte-lt128.true none))

pub loop-i-preserved : goal.loop-i-preserved
loop-i-preserved g c =
    let took = take c.loop-i.i c.loop-i.bytes in
    let at = rw c.in-Some.is at c.in_ok-read_byte.ensures.ok in
    let room : c.loop-i.i < length c.loop-i.bytes = omega arith in
    let more = take_more_set c.loop-i.bytes c.loop-i.i c.in-Some.byte room in
    record {
      taken = rw more (Consumes-trans _ _ _ _ _ c.loop-i.invariant.taken at);
      high = rw more (AreHigh-push took _ c.loop-i.invariant.high c.if-byte-lt128.false);
      ten = length-set c.loop-i.bytes c.loop-i.i c.in-Some.byte ∙ c.loop-i.invariant.ten;
    }

pub returns-clause-ok : goal.returns-clause-ok
returns-clause-ok g c =
    let ten : c.loop-i.i ≡ 10 = omega arith in
    (take c.loop-i.i c.loop-i.bytes, c.loop-i.invariant.taken, inr (has_no_end (take c.loop-i.i c.loop-i.bytes) c.loop-i.invariant.high (length-take-le c.loop-i.i c.loop-i.bytes (omega arith) ∙ ten)))
