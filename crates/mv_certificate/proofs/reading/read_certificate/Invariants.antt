use Rattle.mv_certificate.proofs.Common.{map}
use Rattle.mv_certificate.proofs.Functions.{CertOn}
use Rattle.mv_certificate.proofs.reading.read_certificate.Given as goal

abbrev pub invariant-functions : goal.invariant-functions
invariant-functions l = CertOn l.m l.f l.bytes (map (λ stated. stated.items) l.functions.items) l.reader
