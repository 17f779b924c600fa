use Rattle.std.proofs.Common.{◌-◌, length, arith}
use Rattle.std.proofs.KnownBytes.{Consumes-trans}
use Rattle.std.proofs.lemmas.Grind.{common_steps}
use Rattle.mv_commands.proofs.Buffers.{take-put_mid_more}
use Rattle.mv_commands.proofs.bytes.filled.Goals as goal

pub loop-filled-preserved : goal.loop-filled-preserved
loop-filled-preserved g c =
    let within = c.loop-filled.invariant.within in
    let more = take-put_mid_more c.loop-filled.filled (length c.loop-filled.buffer - c.loop-filled.filled) c.in-Ok.n c.loop-filled.buffer c.read.new.buf within c.in-Ok.ensures.bound.0 in
    record { within = grind (arith, common_steps); taken = rw more (Consumes-trans _ _ _ _ _ c.loop-filled.invariant.taken c.in-Ok.ensures.bytes.0) }
