use Rattle.mv_certificate.proofs.OneCertificate.{one-certificate}
use Rattle.mv_certificate.proofs.laws.texts_are_of_one_certificate.Goals as goal

pub returns : goal.returns
returns c = one-certificate
