-- What certificates have to do with their texts.
use Rattle.std.specs.Prelude.{◌≡◌, ℕ, List}
use Rattle.mv_move_types.specs.Module.{Module}
use Rattle.mv_binary_format.specs.ModuleText.{HasText}
use Rattle.mv_certificate_rules.specs.Certificate.{Certificate}
use Rattle.mv_certificate_rules.specs.Shape.{AllStatedFit}
use Rattle.mv_certificate_rules.specs.CertificateText.{IsCertificateText}

-- for a module that has a text, no bytes are texts of two certificates
abbrev pub IsOfOneCertificate : Type 0
IsOfOneCertificate = (m : Module) (bytes : List ℕ) (c d : Certificate) → HasText m → IsCertificateText m bytes c → IsCertificateText m bytes d → c ≡ d

-- for each module of whose shape the certificate is, the bytes are its text; and of no other certificate, where the module has a text
abbrev pub IsReadBackAs : List ℕ → Certificate → Type 0
IsReadBackAs bytes c =
    (m : Module) → AllStatedFit m m.functions c
    → IsCertificateText m bytes c × (HasText m → (d : Certificate) → IsCertificateText m bytes d → d ≡ c)
