use Rattle.mv_certificate.proofs.Common.{map}
use Rattle.mv_certificate.proofs.Loops.{StatedOn}
use Rattle.mv_certificate.proofs.reading.read_stated.Given as goal

abbrev pub invariant-each : goal.invariant-each
invariant-each l = StatedOn l.m l.d (map (λ b. b.reached) l.blocks) l.block-index l.initial.reader l.stated.items l.reader
