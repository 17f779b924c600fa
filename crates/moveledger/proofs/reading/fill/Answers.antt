use Rattle.std.proofs.Common.{◌-◌, length, take, arith, refl}
use Rattle.std.proofs.KnownBytes.{Consumes-trans, Consumes-kept}
use Rattle.std.proofs.lemmas.Grind.{common_steps}
use Rattle.mv_commands.proofs.Buffers.{take-put_mid_more}
use Rattle.moveledger.proofs.reading.fill.Goals as goal

pub loop-filled-preserved : goal.loop-filled-preserved
loop-filled-preserved g c =
    let within = c.loop-filled.invariant.within in
    let more = take-put_mid_more c.loop-filled.filled (length c.loop-filled.buffer - c.loop-filled.filled) c.in-Ok.n c.loop-filled.buffer c.read.new.buf within c.in-Ok.ensures.bound.0 in
    record { within = grind (arith, common_steps); taken = rw more (Consumes-trans _ _ _ _ _ c.loop-filled.invariant.taken c.in-Ok.ensures.bytes.0) }

pub returns-in-Err-clause-err : goal.returns-in-Err-clause-err
returns-in-Err-clause-err g c = (refl, take c.loop-filled.filled c.loop-filled.buffer, grind (arith, common_steps), Consumes-kept _ _ _ _ c.loop-filled.invariant.taken c.in-Err.ensures.bytes)
