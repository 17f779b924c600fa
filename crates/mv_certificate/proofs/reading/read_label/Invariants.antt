use Rattle.mv_certificate.proofs.Common.{◌≡◌, false, number_from, ReadsOn}
use Rattle.mv_certificate.proofs.reading.read_label.Given as goal

abbrev pub invariant-positions : goal.invariant-positions
invariant-positions l = ReadsOn (number_from 31) l.count l.counter l.initial.reader l.exact.path l.reader × (l.exact.is_open ≡ false)
