-- A module that was checked with a certificate. With it the other two things that are known of a module that passed phases 3 to 12:
-- that it passed 3 to 8 (IsSound), and 12 (AcquiresHold).
use Rattle.std.specs.Prelude.{ℕ, List, IsTrue}
use Rattle.mv_move_types.specs.Module.{Module}
pub use Rattle.mv_type_rules.specs.Sound.{IsSound}
pub use Rattle.mv_acquires.specs.Acquires.{AcquiresHold}
use Rattle.mv_certificate_rules.specs.Certificate.{Certificate, certificate_holds}
use Rattle.mv_certificate_rules.specs.Shape.{AllStatedFit}
use Rattle.mv_certificate_rules.specs.CertificateText.{IsCertificateText}

-- some certificate has the module's shape, and it holds of the module
abbrev pub HasCertificate : Module → Type 0
HasCertificate m = (c : Certificate) × (AllStatedFit m m.functions c × IsTrue (certificate_holds m c))

-- the bytes are the text of such a one
abbrev pub IsCertifiedBy : Module → List ℕ → Type 0
IsCertifiedBy m bytes = (c : Certificate) × (IsCertificateText m bytes c × IsTrue (certificate_holds m c))
