-- Which phase refuses a certificate.
use Rattle.std.specs.Prelude.{ℕ, IsTrue}
use Rattle.mv_move_types.specs.Module.{Module}
use Rattle.mv_acquires.specs.Acquires.{AcquiresHold}
use Rattle.mv_certificate_rules.specs.Certificate.{Certificate, all_locals_hold, all_edges_hold, certificate_holds}

-- The phase is 10, and the stated availabilities don't hold; or 11, and they hold, but the stated edges don't; or 12, and
-- the certificate holds, but an acquires list is wrong.
pub data FailsCertificate (m : Module) (c : Certificate) : ℕ → Type 0 where
  bad_locals : (IsTrue (all_locals_hold m c) → ⊥) → FailsCertificate m c 10
  bad_borrows : IsTrue (all_locals_hold m c) → (IsTrue (all_edges_hold m c) → ⊥) → FailsCertificate m c 11
  bad_acquires : IsTrue (certificate_holds m c) → (AcquiresHold m → ⊥) → FailsCertificate m c 12
