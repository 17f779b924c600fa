use Rattle.mv_certificate.proofs.Common.{ReadsOn, availability_from}
use Rattle.mv_certificate.proofs.reading.read_availabilities.Given as goal

abbrev pub invariant-locals : goal.invariant-locals
invariant-locals l = ReadsOn availability_from l.count l.counter l.initial.reader l.locals l.reader
